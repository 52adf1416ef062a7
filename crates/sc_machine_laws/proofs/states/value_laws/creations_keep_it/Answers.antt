use Rattle.sc_machine_laws.proofs.states.CreationTurns.{creations_keep_it}
use Rattle.sc_machine_laws.proofs.states.value_laws.creations_keep_it.Goals as goal

pub returns : goal.returns
returns c = creations_keep_it
