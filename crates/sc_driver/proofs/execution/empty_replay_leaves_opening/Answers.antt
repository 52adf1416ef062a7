use Rattle.sc_driver.proofs.ReplayLemmas.{empty-leaves}
use Rattle.sc_driver.proofs.execution.empty_replay_leaves_opening.Goals as goal

pub returns : goal.returns
returns c = empty-leaves
