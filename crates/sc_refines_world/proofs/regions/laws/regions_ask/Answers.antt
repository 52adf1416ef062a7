use Rattle.sc_refines_world.proofs.regions.Wants.{regions_ask}
use Rattle.sc_refines_world.proofs.regions.laws.regions_ask.Goals as goal

pub returns : goal.returns
returns c = regions_ask
