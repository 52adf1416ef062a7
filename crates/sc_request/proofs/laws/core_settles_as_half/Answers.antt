use Rattle.sc_request.proofs.StageHalves.{halves}
use Rattle.sc_request.proofs.laws.core_settles_as_half.Goals as goal

pub returns : goal.returns
returns c = halves
