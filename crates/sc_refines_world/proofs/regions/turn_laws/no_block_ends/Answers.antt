use Rattle.sc_refines_world.proofs.regions.StageChanges.{no_block_ends}
use Rattle.sc_refines_world.proofs.regions.turn_laws.no_block_ends.Goals as goal

pub returns : goal.returns
returns c = no_block_ends c.programs_serve.ensures
