use Rattle.sc_tree.proofs.Whole.{one_system}
use Rattle.sc_tree.proofs.laws.one_tree.Goals as goal

pub returns : goal.returns
returns c = one_system
