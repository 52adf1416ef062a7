use Rattle.sc_machine_laws.proofs.ReachedStates.{free_objects_meet}
use Rattle.sc_machine_laws.proofs.invariant_laws.free_objects_meet.Goals as goal

pub returns : goal.returns
returns c = free_objects_meet
