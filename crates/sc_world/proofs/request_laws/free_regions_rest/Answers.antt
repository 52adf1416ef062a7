use Rattle.sc_world.proofs.Links.{free_regions_rest}
use Rattle.sc_world.proofs.request_laws.free_regions_rest.Goals as goal

pub returns : goal.returns
returns c = free_regions_rest
