use Rattle.sc_machine_laws.proofs.settlements.CalmSteps.{moves_calm}
use Rattle.sc_machine_laws.proofs.settlements.laws.started_routines_stay_started.Goals as goal

pub returns : goal.returns
returns c = moves_calm
