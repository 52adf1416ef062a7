use Rattle.sc_serve.proofs.ServedLemmas.{all_begins, none_begins}
use Rattle.sc_serve.proofs.delivery.print.Goals as goal

-- nothing is written if memory ran out for the note
pub returns-in_default-clause-err : goal.returns-in_default-clause-err
returns-in_default-clause-err g c = none_begins _ _

-- all is written, whatever becomes of the note
pub returns-in-Err-write_out-clause-err : goal.returns-in-Err-write_out-clause-err
returns-in-Err-write_out-clause-err g c = all_begins _ _ _ (rw c.written_of.ensures at c.in_default-write_out.ensures.ok)
