use Rattle.sc_rules.proofs.WellFormed.{creation_actuals_conform_lem}
use Rattle.sc_rules.proofs.system_laws.creation_actuals_conform.Goals as goal

pub returns : goal.returns
returns c = creation_actuals_conform_lem
