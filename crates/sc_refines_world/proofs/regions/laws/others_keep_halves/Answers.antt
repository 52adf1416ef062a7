use Rattle.sc_refines_world.proofs.regions.OtherHandlers.{others_keep_halves}
use Rattle.sc_refines_world.proofs.regions.laws.others_keep_halves.Goals as goal

pub returns : goal.returns
returns c = others_keep_halves
