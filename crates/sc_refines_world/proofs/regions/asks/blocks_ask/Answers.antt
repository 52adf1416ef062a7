use Rattle.sc_refines_world.proofs.regions.BlockAsks.{blocks_ask}
use Rattle.sc_refines_world.proofs.regions.asks.blocks_ask.Goals as goal

pub returns : goal.returns
returns c = blocks_ask c.programs_serve.ensures
