use Rattle.sc_refines_world.proofs.regions.Others.{created_are_new}
use Rattle.sc_refines_world.proofs.regions.laws.created_are_new.Goals as goal

pub returns : goal.returns
returns c = created_are_new
