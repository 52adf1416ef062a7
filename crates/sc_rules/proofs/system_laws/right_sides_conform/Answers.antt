use Rattle.sc_rules.proofs.WellFormed.{right_sides_conform_lem}
use Rattle.sc_rules.proofs.system_laws.right_sides_conform.Goals as goal

pub returns : goal.returns
returns c = right_sides_conform_lem
