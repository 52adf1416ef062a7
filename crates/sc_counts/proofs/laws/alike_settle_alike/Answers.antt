use Rattle.sc_counts.proofs.Centers.{alike_settle_alike}
use Rattle.sc_counts.proofs.laws.alike_settle_alike.Goals as goal

pub returns : goal.returns
returns c = alike_settle_alike
