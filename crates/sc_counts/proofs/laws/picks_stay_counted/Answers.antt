use Rattle.sc_counts.proofs.Centers.{picks_stay_counted}
use Rattle.sc_counts.proofs.laws.picks_stay_counted.Goals as goal

pub returns : goal.returns
returns c = picks_stay_counted
