use Rattle.sc_rules.proofs.entity_types.Arguments.{exact_argument}
use Rattle.sc_rules.proofs.entity_types.call_laws.argument_tag_is_exact.Goals as goal

pub returns : goal.returns
returns c = exact_argument
