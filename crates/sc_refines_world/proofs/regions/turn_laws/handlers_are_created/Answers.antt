use Rattle.sc_refines_world.proofs.regions.StageChanges.{handlers_are_created}
use Rattle.sc_refines_world.proofs.regions.turn_laws.handlers_are_created.Goals as goal

pub returns : goal.returns
returns c = handlers_are_created c.programs_serve.ensures
