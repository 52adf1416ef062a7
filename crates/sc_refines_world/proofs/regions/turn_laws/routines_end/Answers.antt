use Rattle.sc_refines_world.proofs.regions.Exits.{routines_end}
use Rattle.sc_refines_world.proofs.regions.turn_laws.routines_end.Goals as goal

pub returns : goal.returns
returns c = routines_end c.programs_serve.ensures
