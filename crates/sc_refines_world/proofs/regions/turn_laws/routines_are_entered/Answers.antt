use Rattle.sc_refines_world.proofs.regions.Entries.{routines_are_entered}
use Rattle.sc_refines_world.proofs.regions.turn_laws.routines_are_entered.Goals as goal

pub returns : goal.returns
returns c = routines_are_entered
