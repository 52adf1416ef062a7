use Rattle.sc_world.proofs.FreeHandlers.{runs_stay_linked}
use Rattle.sc_world.proofs.laws.runs_stay_linked.Goals as goal

pub returns : goal.returns
returns c = runs_stay_linked
