use Rattle.sc_rules.proofs.PurityLaws.{purity_is_one}
use Rattle.sc_rules.proofs.purity_laws.purity_is_one.Goals as goal

pub returns : goal.returns
returns c = purity_is_one
