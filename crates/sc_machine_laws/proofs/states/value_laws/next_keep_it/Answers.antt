use Rattle.sc_machine_laws.proofs.states.TakeTurns.{next_keep_it}
use Rattle.sc_machine_laws.proofs.states.value_laws.next_keep_it.Goals as goal

pub returns : goal.returns
returns c = next_keep_it
