use Rattle.sc_machine_laws.proofs.states.OwnTurns.{own_acts_keep_it}
use Rattle.sc_machine_laws.proofs.states.value_laws.own_acts_keep_it.Goals as goal

pub returns : goal.returns
returns c = own_acts_keep_it
