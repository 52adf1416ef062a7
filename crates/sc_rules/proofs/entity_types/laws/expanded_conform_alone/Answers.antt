use Rattle.sc_rules.proofs.entity_types.ConformanceLemmas.{expanded_alone}
use Rattle.sc_rules.proofs.entity_types.laws.expanded_conform_alone.Goals as goal

pub returns : goal.returns
returns c = expanded_alone
