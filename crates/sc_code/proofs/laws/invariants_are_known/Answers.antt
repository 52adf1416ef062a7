use Rattle.sc_code.proofs.InvariantFormulas.{invariants_are_known}
use Rattle.sc_code.proofs.laws.invariants_are_known.Goals as goal

pub returns : goal.returns
returns c = invariants_are_known
