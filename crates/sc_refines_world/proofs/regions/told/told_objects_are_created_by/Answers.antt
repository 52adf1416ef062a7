use Rattle.sc_refines_world.proofs.regions.ToldOperations.{told_objects_are_created_by}
use Rattle.sc_refines_world.proofs.regions.told.told_objects_are_created_by.Goals as goal

pub returns : goal.returns
returns c = told_objects_are_created_by c.programs_serve.ensures
