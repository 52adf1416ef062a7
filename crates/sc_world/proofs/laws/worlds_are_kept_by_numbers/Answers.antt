use Rattle.sc_world.proofs.LoadedWorlds.{worlds_are_kept_by_numbers}
use Rattle.sc_world.proofs.laws.worlds_are_kept_by_numbers.Goals as goal

pub returns : goal.returns
returns c = worlds_are_kept_by_numbers
