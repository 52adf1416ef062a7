use Rattle.sc_play.proofs.RefusedJobs.{refused_twice_is_refused}
use Rattle.sc_play.proofs.laws.refused_twice_is_refused.Goals as goal

pub returns : goal.returns
returns c = refused_twice_is_refused
