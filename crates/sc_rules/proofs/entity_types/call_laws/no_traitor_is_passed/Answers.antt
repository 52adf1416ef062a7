use Rattle.sc_rules.proofs.entity_types.Arguments.{no_traitor}
use Rattle.sc_rules.proofs.entity_types.call_laws.no_traitor_is_passed.Goals as goal

pub returns : goal.returns
returns c = no_traitor
