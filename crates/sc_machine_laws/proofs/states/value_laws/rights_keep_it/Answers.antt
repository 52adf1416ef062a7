use Rattle.sc_machine_laws.proofs.states.Remains.{rights_keep_it}
use Rattle.sc_machine_laws.proofs.states.value_laws.rights_keep_it.Goals as goal

pub returns : goal.returns
returns c = rights_keep_it
