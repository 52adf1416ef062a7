use Rattle.sc_text.proofs.Whole.{one_spelling_lem}
use Rattle.sc_text.proofs.laws.one_spelling.Goals as goal

pub returns : goal.returns
returns c = one_spelling_lem
