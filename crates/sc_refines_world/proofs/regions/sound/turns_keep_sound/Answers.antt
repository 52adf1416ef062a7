use Rattle.sc_refines_world.proofs.regions.SoundStores.{turns_keep_sound}
use Rattle.sc_refines_world.proofs.regions.sound.turns_keep_sound.Goals as goal

pub returns : goal.returns
returns c = turns_keep_sound
