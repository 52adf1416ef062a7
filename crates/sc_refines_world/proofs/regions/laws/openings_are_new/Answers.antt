use Rattle.sc_refines_world.proofs.regions.Others.{openings_are_new}
use Rattle.sc_refines_world.proofs.regions.laws.openings_are_new.Goals as goal

pub returns : goal.returns
returns c = openings_are_new
