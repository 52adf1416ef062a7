use Rattle.sc_machine_laws.proofs.states.ValueAwaitedEnds.{turns_keep_it}
use Rattle.sc_machine_laws.proofs.states.value_laws.turns_keep_it.Goals as goal

pub returns : goal.returns
returns c = turns_keep_it
