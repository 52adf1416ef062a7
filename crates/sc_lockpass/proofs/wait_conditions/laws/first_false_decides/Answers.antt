use Rattle.sc_lockpass.proofs.wait_conditions.WaitLaws.{first_false_decides}
use Rattle.sc_lockpass.proofs.wait_conditions.laws.first_false_decides.Goals as goal

pub returns : goal.returns
returns c = first_false_decides
