use Rattle.sc_refines_world.proofs.regions.TurnWants.{block_ends_ask}
use Rattle.sc_refines_world.proofs.regions.turn_laws.block_ends_ask.Goals as goal

pub returns : goal.returns
returns c = block_ends_ask c.programs_serve.ensures
