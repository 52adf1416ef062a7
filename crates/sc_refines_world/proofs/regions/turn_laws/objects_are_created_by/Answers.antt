use Rattle.sc_refines_world.proofs.regions.ProcedureCreations.{objects_are_created_by}
use Rattle.sc_refines_world.proofs.regions.turn_laws.objects_are_created_by.Goals as goal

pub returns : goal.returns
returns c = objects_are_created_by c.programs_serve.ensures
