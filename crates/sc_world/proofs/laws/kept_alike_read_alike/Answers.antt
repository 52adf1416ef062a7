use Rattle.sc_world.proofs.KeptWorlds.{kept_alike_read_alike}
use Rattle.sc_world.proofs.laws.kept_alike_read_alike.Goals as goal

pub returns : goal.returns
returns c = kept_alike_read_alike c.alike_are_read_alike.ensures
