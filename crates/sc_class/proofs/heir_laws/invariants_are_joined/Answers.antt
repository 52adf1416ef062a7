use Rattle.sc_class.proofs.InheritedFeatures.{invariants_joined}
use Rattle.sc_class.proofs.heir_laws.invariants_are_joined.Goals as goal

pub returns : goal.returns
returns c = invariants_joined
