use Rattle.sc_refines_world.proofs.regions.Jobs.{grants_are_taken}
use Rattle.sc_refines_world.proofs.regions.turn_laws.grants_are_taken.Goals as goal

pub returns : goal.returns
returns c = grants_are_taken
