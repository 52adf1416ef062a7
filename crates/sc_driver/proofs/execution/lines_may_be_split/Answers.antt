use Rattle.sc_driver.proofs.ReplayLemmas.{lines-split}
use Rattle.sc_driver.proofs.execution.lines_may_be_split.Goals as goal

pub returns : goal.returns
returns c = lines-split
