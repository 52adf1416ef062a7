use Rattle.sc_rules.proofs.entity_types.ConformanceLemmas.{attached_own}
use Rattle.sc_rules.proofs.entity_types.laws.attached_own_is_own.Goals as goal

pub returns : goal.returns
returns c = attached_own
