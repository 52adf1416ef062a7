use Rattle.sc_machine_laws.proofs.states.RequestTurns.{requests_keep_it}
use Rattle.sc_machine_laws.proofs.states.value_laws.requests_keep_it.Goals as goal

pub returns : goal.returns
returns c = requests_keep_it
