-- In an accepted system the formulas that a class has in flat code are its joined invariant.
use Rattle.std.proofs.Common.{Some, sym, ap, ◌∙◌}
use Rattle.sc_model.proofs.InvariantFormulas.{invariants_have_formulas}
use Rattle.sc_code.specs.Attributes.{known_formulas}
use Rattle.sc_code.specs.Invariants.{InvariantsAreKnown}

pub invariants_are_known : InvariantsAreKnown
invariants_are_known s root pure faultless well tells j =
    let (formulas, e) = invariants_have_formulas s root pure faultless well tells j in
    e ∙ ap (λ known. Some (known_formulas known)) (sym e)
