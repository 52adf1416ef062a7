use Rattle.sc_refines_world.proofs.regions.Turns.{jobs_are_taken}
use Rattle.sc_refines_world.proofs.regions.turning.jobs_are_taken.Goals as goal

pub returns : goal.returns
returns c = jobs_are_taken c.programs_serve.ensures
