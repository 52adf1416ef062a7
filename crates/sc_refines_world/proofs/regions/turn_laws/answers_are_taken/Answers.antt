use Rattle.sc_refines_world.proofs.regions.Jobs.{answers_are_taken}
use Rattle.sc_refines_world.proofs.regions.turn_laws.answers_are_taken.Goals as goal

pub returns : goal.returns
returns c = answers_are_taken
