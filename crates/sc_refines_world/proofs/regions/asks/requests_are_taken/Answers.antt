use Rattle.sc_refines_world.proofs.regions.TakenRequests.{requests_are_taken}
use Rattle.sc_refines_world.proofs.regions.asks.requests_are_taken.Goals as goal

pub returns : goal.returns
returns c = requests_are_taken
