use Rattle.sc_lockpass.proofs.wait_conditions.WaitLaws.{reserves_idle}
use Rattle.sc_lockpass.proofs.wait_conditions.laws.reserves_what_is_idle.Goals as goal

pub returns : goal.returns
returns c = reserves_idle
