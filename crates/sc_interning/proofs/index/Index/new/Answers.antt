use Rattle.std.proofs.Common.{◌∙◌, length, replicate, ℕ, ap, sym}
use Rattle.std.proofs.lemmas.List.{length-replicate}
use Rattle.sc_interning.proofs.Chained.{chained_empty}
use Rattle.sc_interning.proofs.index.Index.new.Goals as goal

pub invariant_of-result-clause-chained : goal.invariant_of-result-clause-chained
invariant_of-result-clause-chained c =
    let zeros = c.in_ok-empty_lists.ensures in
    chained_empty _ c.in_ok-empty_lists.field-0.items c.new.ensures.items
    (zeros ∙ ap (λ (n : ℕ). replicate n 0) (sym (ap length zeros ∙ length-replicate {A = ℕ} 1024 0)))
