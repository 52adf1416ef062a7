use Rattle.std.proofs.Common.{◌≡◌, ◌-◌, [], Some, drop, length, suc, sym, ap, ◌∙◌, arith}
use Rattle.sc_region.specs.Frames.{top_current}
use Rattle.sc_region.proofs.Stacks.{frames_below, none_below}
use Rattle.sc_region.proofs.stack.Stack.below.Goals as goal

pub returns-then-height-lt2 : goal.returns-then-height-lt2
returns-then-height-lt2 c =
    let s = c.self.inside in
    sym (none_below s.currents.items s.activations.items (omega (arith, c.if-height-lt2.true, c.len-height.ensures, s.currents.ok.0)) c.self.invariant)
    ∙ ap (λ fs. top_current (drop 1 fs)) c.self.view_is

pub returns-else-height-lt2 : goal.returns-else-height-lt2
returns-else-height-lt2 c =
    let s = c.self.inside in
    let n = c.len-height.result - 2 in
    let e : length s.currents.items ≡ suc (suc n) = omega (arith, c.if-height-lt2.false, c.len-height.ensures, s.currents.ok.0) in
    ap Some c.index.ensures
    ∙ sym (frames_below s.currents.items s.activations.items n c.index.result.now [] e c.self.invariant)
    ∙ ap (λ fs. top_current (drop 1 fs)) c.self.view_is
