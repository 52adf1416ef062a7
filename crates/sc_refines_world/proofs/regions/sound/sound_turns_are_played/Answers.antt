use Rattle.sc_refines_world.proofs.regions.Placed.{sound_turns_are_played}
use Rattle.sc_refines_world.proofs.regions.sound.sound_turns_are_played.Goals as goal

pub returns : goal.returns
returns c = sound_turns_are_played c.programs_serve.ensures
