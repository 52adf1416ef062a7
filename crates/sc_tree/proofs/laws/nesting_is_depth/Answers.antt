use Rattle.sc_tree.proofs.Depths.{classes_greatest}
use Rattle.sc_tree.proofs.laws.nesting_is_depth.Goals as goal

pub returns : goal.returns
returns c = λ s ts h d. classes_greatest d
