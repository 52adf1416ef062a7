use Rattle.sc_world.proofs.Links.{turns_stay_linked}
use Rattle.sc_world.proofs.request_laws.turns_stay_linked.Goals as goal

pub returns : goal.returns
returns c = turns_stay_linked
