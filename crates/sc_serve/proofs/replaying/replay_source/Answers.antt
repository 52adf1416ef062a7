use Rattle.sc_class.specs.View.{root_of}
use Rattle.sc_lower.specs.Lowerings.{image_of}
use Rattle.sc_serve.proofs.AnswerLemmas.{not_played_for_memory, not_replayed, replayed}
use Rattle.sc_serve.proofs.replaying.replay_source.Goals as goal

-- a record is played with its program
pub returns-in-Ok-clause-answer : goal.returns-in-Ok-clause-answer
returns-in-Ok-clause-answer g c =
    replayed (root_of c.args.options.now.root) _ c.args.source.now (image_of c.in-Ok.program) c.play_record-answer.result
    (rw c.text.ensures at c.in-Ok.ensures.loaded) c.play_record-answer.ensures.answer

-- or something is at fault in it
pub returns-in-Err-clause-answer : goal.returns-in-Err-clause-answer
returns-in-Err-clause-answer g c =
    not_replayed (root_of c.args.options.now.root) _ c.args.source.now c.in-Err.rejection c.answer_explained.result
    (rw c.text.ensures at c.in-Err.ensures.refused) c.answer_explained.ensures.refused

pub returns-in-Err-clause-unread : goal.returns-in-Err-clause-unread
returns-in-Err-clause-unread g c = not_played_for_memory c.args.options.now.record.now c.answer_explained.result c.answer_explained.ensures.untold
