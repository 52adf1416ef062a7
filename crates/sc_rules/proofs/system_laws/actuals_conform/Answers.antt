use Rattle.sc_rules.proofs.WellFormed.{actuals_conform_lem}
use Rattle.sc_rules.proofs.system_laws.actuals_conform.Goals as goal

pub returns : goal.returns
returns c = actuals_conform_lem
