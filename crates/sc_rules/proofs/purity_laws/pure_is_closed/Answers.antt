use Rattle.sc_rules.proofs.PurityLaws.{pure_is_closed}
use Rattle.sc_rules.proofs.purity_laws.pure_is_closed.Goals as goal

pub returns : goal.returns
returns c = pure_is_closed
