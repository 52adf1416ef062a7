use Rattle.sc_refines_world.proofs.regions.EarlierOperations.{turns_join}
use Rattle.sc_refines_world.proofs.regions.sound.turns_join.Goals as goal

pub returns : goal.returns
returns c = turns_join
