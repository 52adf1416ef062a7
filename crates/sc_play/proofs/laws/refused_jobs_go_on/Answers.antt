use Rattle.sc_play.proofs.RefusedJobs.{refused_jobs_go_on}
use Rattle.sc_play.proofs.laws.refused_jobs_go_on.Goals as goal

pub returns : goal.returns
returns c = refused_jobs_go_on
