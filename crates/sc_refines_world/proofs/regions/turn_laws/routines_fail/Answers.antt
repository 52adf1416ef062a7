use Rattle.sc_refines_world.proofs.regions.PassedOperations.{routines_fail}
use Rattle.sc_refines_world.proofs.regions.turn_laws.routines_fail.Goals as goal

pub returns : goal.returns
returns c = routines_fail c.programs_serve.ensures
