use Rattle.sc_machine_laws.proofs.states.Remains.{failures_keep_it}
use Rattle.sc_machine_laws.proofs.states.value_laws.failures_keep_it.Goals as goal

pub returns : goal.returns
returns c = failures_keep_it
