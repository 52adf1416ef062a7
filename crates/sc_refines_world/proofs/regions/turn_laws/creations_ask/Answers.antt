use Rattle.sc_refines_world.proofs.regions.TurnWants.{creations_ask}
use Rattle.sc_refines_world.proofs.regions.turn_laws.creations_ask.Goals as goal

pub returns : goal.returns
returns c = creations_ask c.programs_serve.ensures
