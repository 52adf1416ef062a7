use Rattle.sc_refines_world.proofs.regions.SoundStores.{jobs_keep_sound}
use Rattle.sc_refines_world.proofs.regions.sound.jobs_keep_sound.Goals as goal

pub returns : goal.returns
returns c = jobs_keep_sound
