use Rattle.sc_parse.proofs.LaidClasses as lemmas
use Rattle.sc_parse.proofs.laws.one_placed_tree.Goals as goal

pub returns : goal.returns
returns c = lemmas.one_placed_tree
