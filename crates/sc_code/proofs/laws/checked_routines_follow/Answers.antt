use Rattle.sc_code.proofs.TypingRoutines.{routines_follow}
use Rattle.sc_code.proofs.laws.checked_routines_follow.Goals as goal

pub returns : goal.returns
returns c = routines_follow
