use Rattle.sc_refines_world.proofs.regions.Together.{turns_keep_halves}
use Rattle.sc_refines_world.proofs.regions.laws.turns_keep_halves.Goals as goal

pub returns : goal.returns
returns c = turns_keep_halves
