use Rattle.sc_serve.proofs.AnswerLemmas.{not_read, not_run, ran_on_files, told_long, too_long_to_run}
use Rattle.sc_serve.proofs.running.answer_run.Goals as goal

-- what is run is their source text
pub returns-in-Ok-clause-answer : goal.returns-in-Ok-clause-answer
returns-in-Ok-clause-answer g c =
    ran_on_files c.args.options.now _ _ c.in-Ok.source c.run_source.result
    (record { named = c.in-Ok.ensures.named; texts = c.in-Ok.ensures.answer }) c.run_source.ensures.answer

pub returns-in-Ok-clause-unrun : goal.returns-in-Ok-clause-unrun
returns-in-Ok-clause-unrun g c = not_run _ _ c.run_source.result c.run_source.ensures.unrun

-- or the files have none
pub returns-in-Err-clause-answer : goal.returns-in-Err-clause-answer
returns-in-Err-clause-answer g c =
    too_long_to_run c.args.options.now _ _ c.answer_unread.result
    (told_long _ c.in-Err.fault c.answer_unread.result c.in-Err.ensures.answer c.answer_unread.ensures.long c.answer_unread.ensures.refused)
    c.answer_unread.ensures.unrecorded

pub returns-in-Err-clause-unrun : goal.returns-in-Err-clause-unrun
returns-in-Err-clause-unrun g c =
    not_read _ _ c.in-Err.fault c.answer_unread.result c.in-Err.ensures.which c.in-Err.ensures.failed c.in-Err.ensures.answer c.answer_unread.ensures.unread
