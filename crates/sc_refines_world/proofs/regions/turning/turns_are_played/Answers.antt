use Rattle.sc_refines_world.proofs.regions.JobTurns.{turns_are_played}
use Rattle.sc_refines_world.proofs.regions.turning.turns_are_played.Goals as goal

pub returns : goal.returns
returns c = turns_are_played c.programs_serve.ensures
