use Rattle.sc_rules.proofs.entity_types.ConformanceLemmas.{transitive}
use Rattle.sc_rules.proofs.entity_types.laws.conformance_is_transitive.Goals as goal

pub returns : goal.returns
returns c = transitive
