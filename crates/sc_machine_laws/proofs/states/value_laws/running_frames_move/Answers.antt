use Rattle.sc_machine_laws.proofs.states.Frames.{running_frames_move}
use Rattle.sc_machine_laws.proofs.states.value_laws.running_frames_move.Goals as goal

pub returns : goal.returns
returns c = running_frames_move
