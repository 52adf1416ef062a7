use Rattle.sc_refines_world.proofs.regions.Versions.{jobs_keep_versions}
use Rattle.sc_refines_world.proofs.regions.turning.jobs_keep_versions.Goals as goal

pub returns : goal.returns
returns c = jobs_keep_versions
