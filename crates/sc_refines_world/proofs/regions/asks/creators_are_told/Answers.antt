use Rattle.sc_refines_world.proofs.regions.Creators.{creators_are_told}
use Rattle.sc_refines_world.proofs.regions.asks.creators_are_told.Goals as goal

pub returns : goal.returns
returns c = creators_are_told
