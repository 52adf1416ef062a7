use Rattle.sc_tree.proofs.CanonicalText.{canonical_text_stays}
use Rattle.sc_tree.proofs.print.laws.canonical_text_stays.Goals as goal

pub returns : goal.returns
returns c = canonical_text_stays
