use Rattle.sc_class.proofs.Reached.{ancestors_reached}
use Rattle.sc_class.proofs.heir_laws.ancestors_are_reached.Goals as goal

pub returns : goal.returns
returns c = ancestors_reached
