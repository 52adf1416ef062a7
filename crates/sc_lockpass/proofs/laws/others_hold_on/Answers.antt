use Rattle.sc_lockpass.proofs.LawProofs.{others_hold}
use Rattle.sc_lockpass.proofs.laws.others_hold_on.Goals as goal

pub returns : goal.returns
returns c = others_hold
