use Rattle.sc_lockpass.proofs.LawProofs.{nothing_kept}
use Rattle.sc_lockpass.proofs.laws.nothing_is_kept.Goals as goal

pub returns : goal.returns
returns c = nothing_kept
