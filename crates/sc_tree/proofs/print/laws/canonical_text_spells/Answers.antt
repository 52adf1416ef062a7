use Rattle.sc_tree.proofs.CanonicalText.{canonical_text_again}
use Rattle.sc_tree.proofs.print.laws.canonical_text_spells.Goals as goal

pub returns : goal.returns
returns c = canonical_text_again
