use Rattle.sc_model.proofs.Silent.{falls}
use Rattle.sc_model.proofs.laws.silent_steps_fall.Goals as goal

pub returns : goal.returns
returns c = falls
