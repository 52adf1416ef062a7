use Rattle.sc_refines_world.proofs.regions.CallAsks.{object_creations_ask}
use Rattle.sc_refines_world.proofs.regions.asks.object_creations_ask.Goals as goal

pub returns : goal.returns
returns c = object_creations_ask c.programs_serve.ensures
