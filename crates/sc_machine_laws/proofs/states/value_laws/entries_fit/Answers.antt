use Rattle.sc_machine_laws.proofs.states.Entry.{entries_fit}
use Rattle.sc_machine_laws.proofs.states.value_laws.entries_fit.Goals as goal

pub returns : goal.returns
returns c = entries_fit
