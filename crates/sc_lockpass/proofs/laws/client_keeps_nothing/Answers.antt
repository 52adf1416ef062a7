use Rattle.sc_lockpass.proofs.LawProofs.{client_holds}
use Rattle.sc_lockpass.proofs.laws.client_keeps_nothing.Goals as goal

pub returns : goal.returns
returns c = client_holds
