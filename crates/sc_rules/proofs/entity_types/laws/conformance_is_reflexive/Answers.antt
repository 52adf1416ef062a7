use Rattle.sc_rules.proofs.entity_types.ConformanceLemmas.{reflexive}
use Rattle.sc_rules.proofs.entity_types.laws.conformance_is_reflexive.Goals as goal

pub returns : goal.returns
returns c = reflexive
