use Rattle.sc_code.proofs.TypingRoutines.{routines_stand}
use Rattle.sc_code.proofs.laws.checked_routines_stand.Goals as goal

pub returns : goal.returns
returns c = routines_stand
