use Rattle.std.proofs.Common.{[], length, sym, ap, ◌∙◌, arith}
use Rattle.sc_region.specs.Frames.{frames_onto}
use Rattle.sc_region.proofs.Sameness.{between, other_frames, same_frames}
use Rattle.sc_region.proofs.stack.Stack.is_same.Goals as goal

pub returns-then-same_references : goal.returns-then-same_references
returns-then-same_references c =
    let s = c.self.inside in
    let o = c.other.inside in
    let rs = s.currents.items in
    let qs = o.currents.items in
    let ts = c.deref-then-same_references.result.now in
    let us = c.deref-then-same_references-2.result.now in
    let here = c.deref-then-same_references.ensures.value in
    let there = c.deref-then-same_references-2.ensures.value in
    between c.same_activations.result c.args.self.now c.args.other.now (frames_onto rs ts []) (frames_onto qs us [])
    (sym c.self.view_is ∙ ap (λ l. frames_onto rs l []) (sym here))
    (sym c.other.view_is ∙ ap (λ l. frames_onto qs l []) (sym there))
    (same_frames c.same_activations.result rs qs ts us c.len-height.result c.len-other_height.result
    (omega (arith, c.len-height.ensures, s.currents.ok.0))
    (omega (arith, c.len-other_height.ensures, o.currents.ok.0))
    (omega (arith, c.self.invariant, ap length here))
    (omega (arith, c.other.invariant, ap length there))
    (sym c.deref.ensures.value ∙ c.same_references.ensures.0 c.if-same_references.true ∙ c.deref-2.ensures.value)
    c.same_activations.ensures)

pub returns-else-same_references : goal.returns-else-same_references
returns-else-same_references c =
    let s = c.self.inside in
    let o = c.other.inside in
    let rs = s.currents.items in
    let qs = o.currents.items in
    let r = c.same_references.result in
    between r c.args.self.now c.args.other.now (frames_onto rs s.activations.items []) (frames_onto qs o.activations.items [])
    (sym c.self.view_is) (sym c.other.view_is)
    (other_frames r rs qs s.activations.items o.activations.items c.self.invariant c.other.invariant c.if-same_references.false
    (between r rs qs c.deref.result.now c.deref-2.result.now (sym c.deref.ensures.value) (sym c.deref-2.ensures.value) c.same_references.ensures))
