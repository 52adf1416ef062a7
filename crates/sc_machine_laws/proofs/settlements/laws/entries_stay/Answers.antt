use Rattle.sc_machine_laws.proofs.settlements.KeptEntries.{entries_stay}
use Rattle.sc_machine_laws.proofs.settlements.laws.entries_stay.Goals as goal

pub returns : goal.returns
returns c = entries_stay
