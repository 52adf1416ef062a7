use Rattle.sc_refines_world.proofs.regions.ToldOperations.{told_objects_are_created}
use Rattle.sc_refines_world.proofs.regions.told.told_objects_are_created.Goals as goal

pub returns : goal.returns
returns c = told_objects_are_created c.programs_serve.ensures
