use Rattle.sc_world.proofs.TurnCounts.{regions_serve}
use Rattle.sc_world.proofs.request_laws.regions_serve.Goals as goal

pub returns : goal.returns
returns c = regions_serve
