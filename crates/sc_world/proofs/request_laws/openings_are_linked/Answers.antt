use Rattle.sc_world.proofs.Links.{openings_are_linked}
use Rattle.sc_world.proofs.request_laws.openings_are_linked.Goals as goal

pub returns : goal.returns
returns c = openings_are_linked
