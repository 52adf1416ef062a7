use Rattle.sc_machine_laws.proofs.states.MachineHolders.{machine_callbacks_come_first}
use Rattle.sc_machine_laws.proofs.states.links.Reached.{reached_stands}
use Rattle.sc_machine_laws.proofs.states.laws.callbacks_come_first.Goals as goal

pub returns : goal.returns
returns c = λ most s root w is. let t = reached_stands most s root w is in machine_callbacks_come_first t.0 w t.1 t.2
