use Rattle.sc_refines_world.proofs.regions.PassedOperations.{bodies_start}
use Rattle.sc_refines_world.proofs.regions.turn_laws.bodies_start.Goals as goal

pub returns : goal.returns
returns c = bodies_start c.programs_serve.ensures
