use Rattle.sc_machine_laws.proofs.states.ValueArrivals.{answers_keep_it}
use Rattle.sc_machine_laws.proofs.states.value_laws.answers_keep_it.Goals as goal

pub returns : goal.returns
returns c = answers_keep_it
