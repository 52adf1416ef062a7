use Rattle.sc_counts.proofs.HandlerCounts.{settlements_stay_few}
use Rattle.sc_counts.proofs.laws.settlements_stay_few.Goals as goal

pub returns : goal.returns
returns c = settlements_stay_few
