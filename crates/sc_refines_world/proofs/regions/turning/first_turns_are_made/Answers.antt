use Rattle.sc_refines_world.proofs.regions.Turns.{first_turns_are_made}
use Rattle.sc_refines_world.proofs.regions.turning.first_turns_are_made.Goals as goal

pub returns : goal.returns
returns c = first_turns_are_made c.programs_serve.ensures
