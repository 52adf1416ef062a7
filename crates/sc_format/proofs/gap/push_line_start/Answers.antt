use Rattle.std.proofs.Common.{◌≡◌, ◌∙◌, ◌++◌, ◌∷◌, [], ℕ, Bool, List, if◌then◌else◌, ap, sym, arith, append_assoc, append-nil}
use Rattle.std.specs.Prelude.{replicate}
use Rattle.std.specs.declared.vec.Vec.{Vec}
use Rattle.std.specs.declared.alloc.Global.{Global}
use Rattle.std.proofs.lemmas.List.{replicate_more}
use Rattle.sc_text.specs.Characters.{line_feed, tab}
use Rattle.sc_format.specs.Gaps.{line_start}
use Rattle.sc_format.proofs.gap.push_line_start.Goals as goal
use Rattle.sc_format.proofs.gap.push_line_start.Goals.{then-is_apart+in_ok-push-2, else-is_apart}

-- a line feed, the one of an empty line, if there is one, and the tabs
started : (old first begun out feeds : List ℕ) (apart : Bool) (n k : ℕ) → first ≡ old ++ line_feed ∷ [] → begun ≡ first ++ feeds →
    feeds ≡ (if apart then line_feed ∷ [] else []) → k ≡ n → out ≡ begun ++ replicate k tab → out ≡ old ++ line_start n apart
started old first begun out feeds apart n k f b is e o =
    o ∙ ap (λ (t : List ℕ). t ++ replicate k tab) (b ∙ ap (λ (t : List ℕ). t ++ feeds) f)
    ∙ append_assoc (old ++ line_feed ∷ []) feeds (replicate k tab) ∙ append_assoc old (line_feed ∷ []) (feeds ++ replicate k tab)
    ∙ ap (λ (t : List ℕ). old ++ line_feed ∷ (t ++ replicate k tab)) is
    ∙ ap (λ (k : ℕ). old ++ line_feed ∷ ((if apart then line_feed ∷ [] else []) ++ replicate k tab)) e

pub loop-preserved : goal.loop-preserved
loop-preserved c =
    let before = c.if-is_apart.output.items in
    c.in_ok-push-3.ensures.items ∙ ap (λ (out : List ℕ). out ++ tab ∷ []) c.loop.invariant
    ∙ append_assoc before (replicate c.loop.counter tab) (tab ∷ []) ∙ ap (λ (tabs : List ℕ). before ++ tabs) (replicate_more c.loop.counter tab)

pub returns : goal.returns
returns c =
    let lines = started c.args.output.now.items c.push.new.self.items c.if-is_apart.output.items c.loop.output.items in
    let items = λ (v : Vec ℕ Global). v.items in
    let indent : c.loop.counter ≡ c.args.indent = omega (arith, c.loop-test.false, c.loop.auto.counter-end) in
    elim c.if-is_apart.branch [
      | then-is_apart+in_ok-push-2 w ↦
          lines (line_feed ∷ []) c.args.is_apart c.args.indent c.loop.counter c.in_ok-push.ensures.items
          (ap items w.output-is ∙ w.in_ok-push-2.ensures.items)
          (sym (ap (λ (b : Bool). if b then line_feed ∷ [] else []) w.if-is_apart.true)) indent c.loop.invariant
      | else-is_apart w ↦
          lines [] c.args.is_apart c.args.indent c.loop.counter c.in_ok-push.ensures.items
          (ap items w.output-is ∙ sym (append-nil c.push.new.self.items))
          (sym (ap (λ (b : Bool). if b then line_feed ∷ [] else []) w.if-is_apart.false)) indent c.loop.invariant
    ]
