use Rattle.sc_model.proofs.InvariantFormulas.{invariants_have_formulas}
use Rattle.sc_model.proofs.laws.invariants_have_formulas.Goals as goal

pub returns : goal.returns
returns c = invariants_have_formulas
