use Rattle.sc_machine_laws.proofs.states.Remains.{releases_keep_it}
use Rattle.sc_machine_laws.proofs.states.value_laws.releases_keep_it.Goals as goal

pub returns : goal.returns
returns c = releases_keep_it
