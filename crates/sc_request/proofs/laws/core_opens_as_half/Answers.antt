use Rattle.sc_request.proofs.Opening.{opens}
use Rattle.sc_request.proofs.laws.core_opens_as_half.Goals as goal

pub returns : goal.returns
returns c = opens
