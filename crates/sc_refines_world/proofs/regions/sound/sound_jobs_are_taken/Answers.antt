use Rattle.sc_refines_world.proofs.regions.Placed.{sound_jobs_are_taken}
use Rattle.sc_refines_world.proofs.regions.sound.sound_jobs_are_taken.Goals as goal

pub returns : goal.returns
returns c = sound_jobs_are_taken c.programs_serve.ensures
