use Rattle.sc_refines_world.proofs.regions.TurnAsks.{simple_steps_ask_nothing}
use Rattle.sc_refines_world.proofs.regions.turn_laws.simple_steps_ask_nothing.Goals as goal

pub returns : goal.returns
returns c = simple_steps_ask_nothing c.programs_serve.ensures
