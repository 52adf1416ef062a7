use Rattle.sc_class.proofs.Apart.{features_differ}
use Rattle.sc_class.proofs.heir_laws.features_differ.Goals as goal

pub returns : goal.returns
returns c = features_differ
