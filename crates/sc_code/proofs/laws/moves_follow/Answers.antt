use Rattle.sc_code.proofs.Steps.{moves_follow}
use Rattle.sc_code.proofs.laws.moves_follow.Goals as goal

pub returns : goal.returns
returns c = moves_follow
