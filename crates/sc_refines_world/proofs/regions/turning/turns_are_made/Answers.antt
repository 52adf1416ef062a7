use Rattle.sc_refines_world.proofs.regions.Turns.{turns_are_made}
use Rattle.sc_refines_world.proofs.regions.turning.turns_are_made.Goals as goal

pub returns : goal.returns
returns c = turns_are_made c.programs_serve.ensures
