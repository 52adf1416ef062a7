use Rattle.sc_tree.proofs.CanonicalText.{canonical_tokens_again}
use Rattle.sc_tree.proofs.print.laws.canonical_tokens_spell.Goals as goal

pub returns : goal.returns
returns c = canonical_tokens_again
