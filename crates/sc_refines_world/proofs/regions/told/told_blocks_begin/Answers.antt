use Rattle.sc_refines_world.proofs.regions.ToldOperations.{told_blocks_begin}
use Rattle.sc_refines_world.proofs.regions.told.told_blocks_begin.Goals as goal

pub returns : goal.returns
returns c = told_blocks_begin c.programs_serve.ensures
