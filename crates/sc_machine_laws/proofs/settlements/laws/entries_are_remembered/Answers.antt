use Rattle.sc_machine_laws.proofs.settlements.RememberedEntries.{entries_are_remembered}
use Rattle.sc_machine_laws.proofs.settlements.laws.entries_are_remembered.Goals as goal

pub returns : goal.returns
returns c = entries_are_remembered
