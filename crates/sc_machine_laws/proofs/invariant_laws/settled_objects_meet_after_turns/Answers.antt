use Rattle.sc_machine_laws.proofs.ReachedStates.{settled_objects_meet_after_turns}
use Rattle.sc_machine_laws.proofs.invariant_laws.settled_objects_meet_after_turns.Goals as goal

pub returns : goal.returns
returns c = settled_objects_meet_after_turns
