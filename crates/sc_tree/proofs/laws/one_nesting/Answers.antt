use Rattle.sc_tree.proofs.Whole as whole
use Rattle.sc_tree.proofs.laws.one_nesting.Goals as goal

pub returns : goal.returns
returns c = whole.one_nesting
