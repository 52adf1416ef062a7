use Rattle.sc_refines_world.proofs.regions.SoundStores.{new_stores_are_sound}
use Rattle.sc_refines_world.proofs.regions.sound.new_stores_are_sound.Goals as goal

pub returns : goal.returns
returns c = new_stores_are_sound
