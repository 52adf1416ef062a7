use Rattle.std.proofs.Common.{List, subst}
use Rattle.sc_class.specs.Internal.Found.{FindsFirstExclusion}
use Rattle.sc_class.specs.Internal.Places.{Has}
use Rattle.sc_class.proofs.PlaceLists.{first_listed}
use Rattle.sc_class.proofs.faults.left_out.left_out.Goals as goal

pub returns : goal.returns
returns c = first_listed (λ x. x.span.start) c.first_of.result c.in_ok-found.ensures (subst (λ (xs : List _). FindsFirstExclusion (Has xs) c.first_of.result) c.deref.ensures.value c.first_of.ensures)
