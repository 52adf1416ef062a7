use Rattle.sc_world.proofs.KeptWorlds.{openings_are_of}
use Rattle.sc_world.proofs.laws.openings_are_of_their_program.Goals as goal

pub returns : goal.returns
returns c = openings_are_of c.openings_are_counted.ensures
