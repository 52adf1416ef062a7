use Rattle.sc_machine_laws.proofs.states.ExitTurns.{exits_keep_it}
use Rattle.sc_machine_laws.proofs.states.value_laws.exits_keep_it.Goals as goal

pub returns : goal.returns
returns c = exits_keep_it
