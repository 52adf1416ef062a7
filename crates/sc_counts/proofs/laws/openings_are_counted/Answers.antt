use Rattle.sc_counts.proofs.Centers.{openings_are_counted}
use Rattle.sc_counts.proofs.laws.openings_are_counted.Goals as goal

pub returns : goal.returns
returns c = openings_are_counted
