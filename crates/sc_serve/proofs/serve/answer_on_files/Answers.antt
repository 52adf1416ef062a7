use Rattle.sc_serve.proofs.AnswerLemmas.{answered, long_on_files, not_answered_on, not_read_on, rejected, told_long}
use Rattle.sc_serve.proofs.serve.answer_on_files.Goals as goal

-- the files have no source text
pub returns-in-Err-clause-answer : goal.returns-in-Err-clause-answer
returns-in-Err-clause-answer g c =
    long_on_files c.args.command.now _ _ c.answer_unread.result
    (told_long _ c.in-Err.fault c.answer_unread.result c.in-Err.ensures.answer c.answer_unread.ensures.long c.answer_unread.ensures.refused)

pub returns-in-Err-clause-unanswered : goal.returns-in-Err-clause-unanswered
returns-in-Err-clause-unanswered g c =
    not_read_on _ _ c.in-Err.fault c.answer_unread.result c.in-Err.ensures.which c.in-Err.ensures.failed c.in-Err.ensures.answer c.answer_unread.ensures.unread

-- it is answered what was asked for
pub returns-in-Ok-examine-clause-answer : goal.returns-in-Ok-examine-clause-answer
returns-in-Ok-examine-clause-answer g c =
    answered c.args.command.now _ _ c.in-Ok.source c.in-Ok-examine.answer
    (record { named = c.in-Ok.ensures.named; texts = c.in-Ok.ensures.answer }) (rw c.text.ensures at c.in-Ok-examine.ensures.answer)

-- or something is at fault in it
pub returns-clause-answer : goal.returns-clause-answer
returns-clause-answer g c =
    rejected c.args.command.now _ _ c.in-Ok.source c.in-Err-examine.rejection c.answer_explained.result
    (record { named = c.in-Ok.ensures.named; texts = c.in-Ok.ensures.answer })
    (rw c.text.ensures at c.in-Err-examine.ensures.rejected) c.answer_explained.ensures.refused

pub returns-clause-unanswered : goal.returns-clause-unanswered
returns-clause-unanswered g c = not_answered_on _ _ c.answer_explained.result c.answer_explained.ensures.untold
