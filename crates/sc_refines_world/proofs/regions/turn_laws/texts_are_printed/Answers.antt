use Rattle.sc_refines_world.proofs.regions.PassedOperations.{texts_are_printed}
use Rattle.sc_refines_world.proofs.regions.turn_laws.texts_are_printed.Goals as goal

pub returns : goal.returns
returns c = texts_are_printed c.programs_serve.ensures
