use Rattle.sc_machine_laws.proofs.OthersFollow.{others_follow}
use Rattle.sc_machine_laws.proofs.precondition_laws.frames_follow_after_turns_of_others.Goals as goal

pub returns : goal.returns
returns c = others_follow
