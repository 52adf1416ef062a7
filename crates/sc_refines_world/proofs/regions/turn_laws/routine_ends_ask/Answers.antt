use Rattle.sc_refines_world.proofs.regions.TurnWants.{routine_ends_ask}
use Rattle.sc_refines_world.proofs.regions.turn_laws.routine_ends_ask.Goals as goal

pub returns : goal.returns
returns c = routine_ends_ask c.programs_serve.ensures
