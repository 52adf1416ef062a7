use Rattle.sc_refines_world.proofs.regions.CallAsks.{calls_ask}
use Rattle.sc_refines_world.proofs.regions.asks.calls_ask.Goals as goal

pub returns : goal.returns
returns c = calls_ask c.programs_serve.ensures
