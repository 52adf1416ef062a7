use Rattle.sc_refines_world.proofs.PuttingBack.{standing_world_is_near}
use Rattle.sc_refines_world.proofs.laws.standing_world_is_near.Goals as goal

pub returns : goal.returns
returns c = standing_world_is_near
