use Rattle.sc_tree.proofs.Depths.{classes_sized}
use Rattle.sc_tree.proofs.laws.each_token_has_depth.Goals as goal

pub returns : goal.returns
returns c = λ s ts h d. classes_sized d
