use Rattle.sc_lockpass.proofs.wait_conditions.WaitLaws.{reserves_unreserved}
use Rattle.sc_lockpass.proofs.wait_conditions.laws.reserves_what_is_unreserved.Goals as goal

pub returns : goal.returns
returns c = reserves_unreserved
