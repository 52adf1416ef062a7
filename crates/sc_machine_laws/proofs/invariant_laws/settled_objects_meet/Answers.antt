use Rattle.sc_machine_laws.proofs.ReachedStates.{settled_objects_meet}
use Rattle.sc_machine_laws.proofs.invariant_laws.settled_objects_meet.Goals as goal

pub returns : goal.returns
returns c = settled_objects_meet
