use Rattle.sc_refines_world.proofs.regions.Creations.{objects_are_created}
use Rattle.sc_refines_world.proofs.regions.turn_laws.objects_are_created.Goals as goal

pub returns : goal.returns
returns c = objects_are_created c.programs_serve.ensures
