use Rattle.sc_machine_laws.proofs.states.CallTurns.{entries_keep_it}
use Rattle.sc_machine_laws.proofs.states.value_laws.entries_keep_it.Goals as goal

pub returns : goal.returns
returns c = entries_keep_it
