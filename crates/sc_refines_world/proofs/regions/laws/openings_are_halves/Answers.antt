use Rattle.sc_refines_world.proofs.regions.Together.{openings_are_halves}
use Rattle.sc_refines_world.proofs.regions.laws.openings_are_halves.Goals as goal

pub returns : goal.returns
returns c = openings_are_halves
