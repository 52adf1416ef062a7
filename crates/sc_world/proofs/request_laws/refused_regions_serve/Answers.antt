use Rattle.sc_world.proofs.TurnCounts.{refused_regions_serve}
use Rattle.sc_world.proofs.request_laws.refused_regions_serve.Goals as goal

pub returns : goal.returns
returns c = refused_regions_serve
