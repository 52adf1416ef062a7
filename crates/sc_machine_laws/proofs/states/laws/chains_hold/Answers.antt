use Rattle.sc_machine_laws.proofs.states.MachineChains.{machine_chains_hold}
use Rattle.sc_machine_laws.proofs.states.links.Reached.{reached_stands}
use Rattle.sc_machine_laws.proofs.states.laws.chains_hold.Goals as goal

pub returns : goal.returns
returns c = λ most s root w is. let t = reached_stands most s root w is in machine_chains_hold t.0 w t.1 t.2
