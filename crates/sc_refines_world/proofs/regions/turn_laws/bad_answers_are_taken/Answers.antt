use Rattle.sc_refines_world.proofs.regions.Jobs.{bad_answers_are_taken}
use Rattle.sc_refines_world.proofs.regions.turn_laws.bad_answers_are_taken.Goals as goal

pub returns : goal.returns
returns c = bad_answers_are_taken
