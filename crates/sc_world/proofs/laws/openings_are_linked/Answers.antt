use Rattle.sc_world.proofs.FreeHandlers.{openings_are_linked}
use Rattle.sc_world.proofs.laws.openings_are_linked.Goals as goal

pub returns : goal.returns
returns c = openings_are_linked
