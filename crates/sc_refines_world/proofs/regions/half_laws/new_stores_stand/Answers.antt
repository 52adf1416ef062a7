use Rattle.sc_refines_world.proofs.regions.RegionOpening.{new_region}
use Rattle.sc_refines_world.proofs.regions.half_laws.new_stores_stand.Goals as goal

pub returns : goal.returns
returns c = new_region
