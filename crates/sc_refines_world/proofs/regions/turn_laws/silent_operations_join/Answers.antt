use Rattle.sc_refines_world.proofs.regions.EarlierOperations.{silent_operations_join}
use Rattle.sc_refines_world.proofs.regions.turn_laws.silent_operations_join.Goals as goal

pub returns : goal.returns
returns c = silent_operations_join
