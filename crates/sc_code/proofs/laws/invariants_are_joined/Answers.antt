use Rattle.sc_code.proofs.JoinedInvariants.{invariants_are_joined}
use Rattle.sc_code.proofs.laws.invariants_are_joined.Goals as goal

pub returns : goal.returns
returns c = invariants_are_joined
