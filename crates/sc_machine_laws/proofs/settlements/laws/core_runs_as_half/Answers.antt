use Rattle.sc_machine_laws.proofs.settlements.RememberedEntries.{runs_as_half}
use Rattle.sc_machine_laws.proofs.settlements.laws.core_runs_as_half.Goals as goal

pub returns : goal.returns
returns c = runs_as_half
