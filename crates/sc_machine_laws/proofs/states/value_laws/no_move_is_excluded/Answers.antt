use Rattle.sc_machine_laws.proofs.states.Frames.{no_move_is_excluded}
use Rattle.sc_machine_laws.proofs.states.value_laws.no_move_is_excluded.Goals as goal

pub returns : goal.returns
returns c = no_move_is_excluded
