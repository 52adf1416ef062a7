use Rattle.sc_refines_world.proofs.regions.StageChanges.{blocks_end}
use Rattle.sc_refines_world.proofs.regions.turn_laws.blocks_end.Goals as goal

pub returns : goal.returns
returns c = blocks_end c.programs_serve.ensures
