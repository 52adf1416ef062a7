use Rattle.sc_lockpass.proofs.LawProofs.{holds_again}
use Rattle.sc_lockpass.proofs.laws.client_holds_again.Goals as goal

pub returns : goal.returns
returns c = holds_again
