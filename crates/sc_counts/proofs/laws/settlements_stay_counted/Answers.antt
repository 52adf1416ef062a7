use Rattle.sc_counts.proofs.Centers.{settlements_stay_counted}
use Rattle.sc_counts.proofs.laws.settlements_stay_counted.Goals as goal

pub returns : goal.returns
returns c = settlements_stay_counted
