use Rattle.sc_machine_laws.proofs.states.Refusals.{refusals_keep_it}
use Rattle.sc_machine_laws.proofs.states.value_laws.refusals_keep_it.Goals as goal

pub returns : goal.returns
returns c = refusals_keep_it
