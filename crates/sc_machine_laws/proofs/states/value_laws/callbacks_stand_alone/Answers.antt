use Rattle.sc_machine_laws.proofs.states.Turns.{callbacks_stand_alone}
use Rattle.sc_machine_laws.proofs.states.value_laws.callbacks_stand_alone.Goals as goal

pub returns : goal.returns
returns c = callbacks_stand_alone
