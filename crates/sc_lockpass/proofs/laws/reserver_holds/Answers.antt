use Rattle.sc_lockpass.proofs.LawProofs.{reserver_holds}
use Rattle.sc_lockpass.proofs.laws.reserver_holds.Goals as goal

pub returns : goal.returns
returns c = reserver_holds
