use Rattle.sc_rules.proofs.entity_types.Results.{exact_result}
use Rattle.sc_rules.proofs.entity_types.call_laws.result_tag_is_exact.Goals as goal

pub returns : goal.returns
returns c = exact_result
