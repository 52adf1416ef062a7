use Rattle.sc_refines_world.proofs.regions.TurnHalves.{regions_follow}
use Rattle.sc_refines_world.proofs.regions.laws.regions_follow.Goals as goal

pub returns : goal.returns
returns c = regions_follow
