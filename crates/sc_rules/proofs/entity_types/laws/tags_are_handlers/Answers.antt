use Rattle.sc_rules.proofs.entity_types.ConformanceLemmas.{tags_are_handlers}
use Rattle.sc_rules.proofs.entity_types.laws.tags_are_handlers.Goals as goal

pub returns : goal.returns
returns c = tags_are_handlers
