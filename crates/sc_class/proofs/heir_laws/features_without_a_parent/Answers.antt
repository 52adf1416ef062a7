use Rattle.sc_class.proofs.InheritedFeatures.{features_declared}
use Rattle.sc_class.proofs.heir_laws.features_without_a_parent.Goals as goal

pub returns : goal.returns
returns c = features_declared
