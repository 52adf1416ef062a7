use Rattle.sc_rules.proofs.entity_types.Results.{own_result}
use Rattle.sc_rules.proofs.entity_types.call_laws.results_stay_foreign.Goals as goal

pub returns : goal.returns
returns c = own_result
