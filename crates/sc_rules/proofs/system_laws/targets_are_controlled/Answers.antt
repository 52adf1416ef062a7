use Rattle.sc_rules.proofs.WellFormed.{targets_are_controlled_lem}
use Rattle.sc_rules.proofs.system_laws.targets_are_controlled.Goals as goal

pub returns : goal.returns
returns c = targets_are_controlled_lem
