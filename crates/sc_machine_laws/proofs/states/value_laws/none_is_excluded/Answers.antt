use Rattle.sc_machine_laws.proofs.states.ExcludedFailures.{none_is_excluded}
use Rattle.sc_machine_laws.proofs.states.value_laws.none_is_excluded.Goals as goal

pub returns : goal.returns
returns c = none_is_excluded
