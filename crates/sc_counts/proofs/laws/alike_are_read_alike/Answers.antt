use Rattle.sc_counts.proofs.Centers.{alike_are_read_alike}
use Rattle.sc_counts.proofs.laws.alike_are_read_alike.Goals as goal

pub returns : goal.returns
returns c = alike_are_read_alike
