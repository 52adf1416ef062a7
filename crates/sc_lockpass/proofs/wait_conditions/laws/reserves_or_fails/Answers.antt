use Rattle.sc_lockpass.proofs.wait_conditions.WaitLaws.{reserves_or_fails}
use Rattle.sc_lockpass.proofs.wait_conditions.laws.reserves_or_fails.Goals as goal

pub returns : goal.returns
returns c = reserves_or_fails
