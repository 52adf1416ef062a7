use Rattle.sc_class.proofs.PlaceLists.{first_listed}
use Rattle.sc_class.proofs.faults.parents.repeated_class.Goals as goal

pub returns : goal.returns
returns c = first_listed (λ p. p.start) c.first.result c.in_ok-repeated.ensures c.first.ensures
