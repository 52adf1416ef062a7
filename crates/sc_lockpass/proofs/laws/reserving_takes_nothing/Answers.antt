use Rattle.sc_lockpass.proofs.LawProofs.{takes_nothing}
use Rattle.sc_lockpass.proofs.laws.reserving_takes_nothing.Goals as goal

pub returns : goal.returns
returns c = takes_nothing
