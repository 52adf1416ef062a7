use Rattle.sc_serve.proofs.ServedLemmas.{none_begins}
use Rattle.sc_serve.proofs.delivery.print_unrecorded.Goals as goal

-- nothing is written if memory for the record runs out
pub returns-then-eq : goal.returns-then-eq
returns-then-eq g c = none_begins _ _
