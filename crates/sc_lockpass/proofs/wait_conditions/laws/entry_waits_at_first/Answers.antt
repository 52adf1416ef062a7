use Rattle.sc_lockpass.proofs.wait_conditions.WaitLaws.{waits_at_first}
use Rattle.sc_lockpass.proofs.wait_conditions.laws.entry_waits_at_first.Goals as goal

pub returns : goal.returns
returns c = waits_at_first
