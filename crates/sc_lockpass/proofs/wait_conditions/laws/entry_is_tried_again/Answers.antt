use Rattle.sc_lockpass.proofs.wait_conditions.WaitLaws.{is_tried_again}
use Rattle.sc_lockpass.proofs.wait_conditions.laws.entry_is_tried_again.Goals as goal

pub returns : goal.returns
returns c = is_tried_again
