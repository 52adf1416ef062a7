use Rattle.sc_refines_world.proofs.regions.SoundStores.{plays_keep_sound}
use Rattle.sc_refines_world.proofs.regions.sound.plays_keep_sound.Goals as goal

pub returns : goal.returns
returns c = plays_keep_sound
