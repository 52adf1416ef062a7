use Rattle.sc_refines_world.proofs.regions.PassedOperations.{rounds_end}
use Rattle.sc_refines_world.proofs.regions.turn_laws.rounds_end.Goals as goal

pub returns : goal.returns
returns c = rounds_end c.programs_serve.ensures
