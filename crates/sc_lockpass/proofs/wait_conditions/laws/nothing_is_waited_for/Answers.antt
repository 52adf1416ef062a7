use Rattle.sc_lockpass.proofs.wait_conditions.WaitLaws.{nothing_waited_for}
use Rattle.sc_lockpass.proofs.wait_conditions.laws.nothing_is_waited_for.Goals as goal

pub returns : goal.returns
returns c = nothing_waited_for
