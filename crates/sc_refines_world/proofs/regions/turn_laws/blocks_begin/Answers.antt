use Rattle.sc_refines_world.proofs.regions.StageChanges.{blocks_begin}
use Rattle.sc_refines_world.proofs.regions.turn_laws.blocks_begin.Goals as goal

pub returns : goal.returns
returns c = blocks_begin c.programs_serve.ensures
