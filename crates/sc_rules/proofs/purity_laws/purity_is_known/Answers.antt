use Rattle.sc_rules.proofs.PurityStands.{purity_stands}
use Rattle.sc_rules.proofs.purity_laws.purity_is_known.Goals as goal

pub returns : goal.returns
returns c = purity_stands
