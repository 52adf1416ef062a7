use Rattle.sc_world.proofs.Links.{refused_turns_stay_linked}
use Rattle.sc_world.proofs.request_laws.refused_turns_stay_linked.Goals as goal

pub returns : goal.returns
returns c = refused_turns_stay_linked
