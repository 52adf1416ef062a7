use Rattle.sc_class.specs.View.{root_of}
use Rattle.sc_serve.proofs.AnswerLemmas.{not_played, not_played_unread, replayed_on_files, told_long, too_long_to_replay}
use Rattle.sc_serve.proofs.replaying.answer_replay.Goals as goal

-- a record is played with their source text
pub returns-in-Ok-clause-answer : goal.returns-in-Ok-clause-answer
returns-in-Ok-clause-answer g c =
    replayed_on_files (root_of c.args.options.now.root) _ _ _ c.in-Ok.source c.replay_source.result
    (record { named = c.in-Ok.ensures.named; texts = c.in-Ok.ensures.answer }) c.replay_source.ensures.answer

pub returns-in-Ok-clause-unplayed : goal.returns-in-Ok-clause-unplayed
returns-in-Ok-clause-unplayed g c = not_played c.args.options.now.record.now _ _ c.replay_source.result c.replay_source.ensures.unread

-- or the files have none
pub returns-in-Err-clause-answer : goal.returns-in-Err-clause-answer
returns-in-Err-clause-answer g c =
    too_long_to_replay (root_of c.args.options.now.root) _ _ _ c.answer_unread.result
    (told_long _ c.in-Err.fault c.answer_unread.result c.in-Err.ensures.answer c.answer_unread.ensures.long c.answer_unread.ensures.refused)

pub returns-in-Err-clause-unplayed : goal.returns-in-Err-clause-unplayed
returns-in-Err-clause-unplayed g c =
    not_played_unread c.args.options.now.record.now _ _ c.in-Err.fault c.answer_unread.result c.in-Err.ensures.which c.in-Err.ensures.failed c.in-Err.ensures.answer
    c.answer_unread.ensures.unread
