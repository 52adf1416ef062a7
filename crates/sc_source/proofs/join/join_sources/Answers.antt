use Rattle.sc_source.specs.Joining.{IsSourceFault, source_fault}
use Rattle.sc_source.proofs.JoiningLemmas.{told-error, told-fault}
use Rattle.sc_source.proofs.join.join_sources.Goals as goal

pub returns-in_err-join-clause-answer : goal.returns-in_err-join-clause-answer
returns-in_err-join-clause-answer g c = λ files told.
    told-error _ (IsSourceFault c.args.readers.now c.join.new.readers files) c.from_residual.result (source_fault c.in_err-join.field-0.0)
    c.from_residual.ensures.1
    (told-fault c.args.readers.now c.join.new.readers files c.in_err-join.field-0.0.file c.in_err-join.field-0.0.fault
    (c.in_err-join.ensures.answer files told) c.in_err-join.ensures.unread)
