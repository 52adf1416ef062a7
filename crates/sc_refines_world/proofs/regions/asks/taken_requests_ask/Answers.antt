use Rattle.sc_refines_world.proofs.regions.TakenRequests.{taken_requests_ask}
use Rattle.sc_refines_world.proofs.regions.asks.taken_requests_ask.Goals as goal

pub returns : goal.returns
returns c = taken_requests_ask
