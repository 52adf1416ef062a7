use Rattle.sc_lockpass.proofs.LawProofs.{others_keep}
use Rattle.sc_lockpass.proofs.laws.others_keep_theirs.Goals as goal

pub returns : goal.returns
returns c = others_keep
