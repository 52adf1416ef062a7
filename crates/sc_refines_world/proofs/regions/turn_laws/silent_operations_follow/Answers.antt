use Rattle.sc_refines_world.proofs.regions.SilentOperations.{silent_operations_follow}
use Rattle.sc_refines_world.proofs.regions.turn_laws.silent_operations_follow.Goals as goal

pub returns : goal.returns
returns c = silent_operations_follow c.programs_serve.ensures
