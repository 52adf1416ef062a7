use Rattle.sc_world.proofs.FreeHandlers.{stopped_runs_stay_linked}
use Rattle.sc_world.proofs.laws.stopped_runs_stay_linked.Goals as goal

pub returns : goal.returns
returns c = stopped_runs_stay_linked
