use Rattle.sc_class.proofs.InheritedFeatures.{features_inherited}
use Rattle.sc_class.proofs.heir_laws.features_are_inherited.Goals as goal

pub returns : goal.returns
returns c = features_inherited
