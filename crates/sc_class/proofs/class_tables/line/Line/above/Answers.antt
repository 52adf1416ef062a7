use Rattle.std.proofs.Common.{◌≡◌, ◌<◌, ◌+◌, ◌-◌, ◌∷◌, ℕ, List, arith, drop, length, ap, sym, subst, ◌∙◌}
use Rattle.std.proofs.lemmas.List.{drop_more}
use Rattle.sc_tree.specs.View.{system_of}
use Rattle.sc_class.specs.Internal.Lines.{known_by, named_along}
use Rattle.sc_class.proofs.Lines.{along_more}
use Rattle.sc_class.proofs.class_tables.line.Line.above.Goals as goal

pub loop-done-preserved : goal.loop-done-preserved
loop-done-preserved c =
    let s = system_of c.args.outline.now.hierarchy.system.now in
    let ks : List ℕ = c.in_ok-ancestors.ancestors.items in
    let at : ℕ = c.saturating_sub-last.result - c.loop-done.done in
    let same : c.saturating_sub-last.result - (c.loop-done.done + 1) + 1 ≡ c.saturating_sub-last.result - c.loop-done.done = omega arith in
    let within : c.saturating_sub-last.result - c.loop-done.done < length c.in_ok-ancestors.ancestors.items = omega arith in
    subst (λ (n : ℕ). (x : List ℕ) → known_by x c.go_down.new.self.known ≡ named_along s (drop n ks) x) (sym same)
    (along_more s (drop at ks) c.index.result.now (drop (at + 1) ks) (λ x. known_by x c.loop-done.line.known) (λ x. known_by x c.go_down.new.self.known)
    (drop_more ks at c.index.result.now within ∙ ap (λ (k : ℕ). k ∷ drop (at + 1) ks) (sym c.index.ensures)) c.in_ok-go_down.ensures c.loop-done.invariant)
