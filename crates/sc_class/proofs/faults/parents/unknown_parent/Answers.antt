use Rattle.sc_class.proofs.PlaceLists.{first_listed}
use Rattle.sc_class.proofs.faults.parents.unknown_parent.Goals as goal

pub returns : goal.returns
returns c = first_listed (λ p. p.start) c.first.result c.in_ok-unknown.ensures c.first.ensures
