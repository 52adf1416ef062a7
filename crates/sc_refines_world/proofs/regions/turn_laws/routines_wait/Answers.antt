use Rattle.sc_refines_world.proofs.regions.WaitedClauses.{routines_wait}
use Rattle.sc_refines_world.proofs.regions.turn_laws.routines_wait.Goals as goal

pub returns : goal.returns
returns c = routines_wait c.programs_serve.ensures
