use Rattle.sc_model.proofs.Silent.{moves_visible}
use Rattle.sc_model.proofs.laws.turns_are_visible.Goals as goal

pub returns : goal.returns
returns c = moves_visible
