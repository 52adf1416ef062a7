use Rattle.sc_machine_laws.proofs.OwnFollows.{own_follows}
use Rattle.sc_machine_laws.proofs.precondition_laws.frames_follow_after_own_turns.Goals as goal

pub returns : goal.returns
returns c = own_follows
