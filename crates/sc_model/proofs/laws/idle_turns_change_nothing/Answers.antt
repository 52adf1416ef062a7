use Rattle.sc_model.proofs.Idle.{idle}
use Rattle.sc_model.proofs.laws.idle_turns_change_nothing.Goals as goal

pub returns : goal.returns
returns c = idle
