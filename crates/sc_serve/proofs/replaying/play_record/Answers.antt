use Rattle.sc_lower.specs.Lowerings.{image_of}
use Rattle.sc_serve.proofs.AnswerLemmas.{played, told_no_record, told_unread}
use Rattle.sc_serve.proofs.replaying.play_record.Goals as goal

-- the record that was read is played
pub returns-in_ok-play-in-Ok-clause-answer : goal.returns-in_ok-play-in-Ok-clause-answer
returns-in_ok-play-in-Ok-clause-answer g c =
    played (image_of c.args.program.now) _ c.in-Ok.record.version c.in-Ok.record.lines.items _ _ c.in-Ok.ensures.limits
    (rw c.new.ensures at c.in-Ok.ensures.ok) c.in_ok-play-in-Ok.ensures.answer

-- or the file holds no record that can be played
pub returns-in-Err-clause-answer : goal.returns-in-Err-clause-answer
returns-in-Err-clause-answer g c =
    told_no_record (image_of c.args.program.now) _ _ c.in-Err.fault c.answer_no_record.result (rw c.new.ensures at c.in-Err.ensures.err)
    c.answer_no_record.ensures.bad c.answer_no_record.ensures.refused

pub returns-in-Err-clause-unread : goal.returns-in-Err-clause-unread
returns-in-Err-clause-unread g c =
    told_unread c.args.options.now.record.now _ _ c.in-Err.fault c.answer_no_record.result c.in-Err.ensures.err c.answer_no_record.ensures.unread
