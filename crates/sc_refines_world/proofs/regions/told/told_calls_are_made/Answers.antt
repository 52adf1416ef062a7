use Rattle.sc_refines_world.proofs.regions.ToldOperations.{told_calls_are_made}
use Rattle.sc_refines_world.proofs.regions.told.told_calls_are_made.Goals as goal

pub returns : goal.returns
returns c = told_calls_are_made c.programs_serve.ensures
