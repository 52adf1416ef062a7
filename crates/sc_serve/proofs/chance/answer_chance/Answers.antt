use Rattle.sc_serve.proofs.AnswerLemmas.{not_answered_on, not_read_on, told_long}
use Rattle.sc_serve.proofs.ChanceLemmas.{played_on_files, too_long_to_play}
use Rattle.sc_serve.proofs.chance.answer_chance.Goals as goal

-- what is run is their source text
pub returns-in-Ok-clause-answer : goal.returns-in-Ok-clause-answer
returns-in-Ok-clause-answer g c =
    played_on_files c.args.options.now _ _ c.in-Ok.source c.play_source.result
    (record { named = c.in-Ok.ensures.named; texts = c.in-Ok.ensures.answer }) c.play_source.ensures.answer

pub returns-in-Ok-clause-unanswered : goal.returns-in-Ok-clause-unanswered
returns-in-Ok-clause-unanswered g c = not_answered_on _ _ c.play_source.result c.play_source.ensures.unanswered

-- or the files have none
pub returns-in-Err-clause-answer : goal.returns-in-Err-clause-answer
returns-in-Err-clause-answer g c =
    too_long_to_play c.args.options.now _ _ c.answer_unread.result
    (told_long _ c.in-Err.fault c.answer_unread.result c.in-Err.ensures.answer c.answer_unread.ensures.long c.answer_unread.ensures.refused)
    c.answer_unread.ensures.unrecorded

pub returns-in-Err-clause-unanswered : goal.returns-in-Err-clause-unanswered
returns-in-Err-clause-unanswered g c =
    not_read_on _ _ c.in-Err.fault c.answer_unread.result c.in-Err.ensures.which c.in-Err.ensures.failed c.in-Err.ensures.answer c.answer_unread.ensures.unread
