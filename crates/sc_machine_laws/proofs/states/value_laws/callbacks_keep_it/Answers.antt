use Rattle.sc_machine_laws.proofs.states.TakeTurns.{callbacks_keep_it}
use Rattle.sc_machine_laws.proofs.states.value_laws.callbacks_keep_it.Goals as goal

pub returns : goal.returns
returns c = callbacks_keep_it
