use Rattle.sc_code.proofs.TypingRoutines.{routines_are_typed}
use Rattle.sc_code.proofs.laws.checked_routines_are_typed.Goals as goal

pub returns : goal.returns
returns c = routines_are_typed
