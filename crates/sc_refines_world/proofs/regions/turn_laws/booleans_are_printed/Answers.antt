use Rattle.sc_refines_world.proofs.regions.PassedOperations.{booleans_are_printed}
use Rattle.sc_refines_world.proofs.regions.turn_laws.booleans_are_printed.Goals as goal

pub returns : goal.returns
returns c = booleans_are_printed c.programs_serve.ensures
