use Rattle.sc_refines_world.proofs.regions.Versions.{turns_keep_versions}
use Rattle.sc_refines_world.proofs.regions.turning.turns_keep_versions.Goals as goal

pub returns : goal.returns
returns c = turns_keep_versions
