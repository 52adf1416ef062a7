use Rattle.std.proofs.Common.{inr, Ok}
use Rattle.sc_serve.proofs.AllFaultLemmas.{all_on_files}
use Rattle.sc_serve.proofs.AnswerLemmas.{told_long}
use Rattle.sc_serve.proofs.all_faults.answer_all_faults.Goals as goal

-- the parts of their source text are checked
pub returns-in-Ok-clause-answer : goal.returns-in-Ok-clause-answer
returns-in-Ok-clause-answer g c =
    all_on_files c.args.options.now _ _ c.in-Ok.source c.answer_parts.result
    (record { named = c.in-Ok.ensures.named; texts = c.in-Ok.ensures.answer }) c.answer_parts.ensures.answer

-- or the files have none
pub returns-in_ok-answer-in-Err-clause-answer : goal.returns-in_ok-answer-in-Err-clause-answer
returns-in_ok-answer-in-Err-clause-answer g c =
    inr (told_long _ c.in-Err.fault (Ok c.in_ok-answer-in-Err.answer) c.in-Err.ensures.answer c.in_ok-answer-in-Err.ensures.long
    c.in_ok-answer-in-Err.ensures.refused)
