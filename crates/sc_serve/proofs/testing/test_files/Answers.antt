use Rattle.sc_serve.proofs.AnswerLemmas.{told_long}
use Rattle.sc_serve.proofs.TestLemmas.{plain_shaped, tested_on_files, too_long_to_test}
use Rattle.sc_serve.proofs.testing.test_files.Goals as goal

-- the tests are those of their source text
pub returns-in-Ok-clause-answer : goal.returns-in-Ok-clause-answer
returns-in-Ok-clause-answer g c =
    tested_on_files c.args.options.now _ _ c.in-Ok.source c.test_source.result
    (record { named = c.in-Ok.ensures.named; texts = c.in-Ok.ensures.answer }) c.test_source.ensures.answer

-- or the files have none
pub returns-in-Err-clause-answer : goal.returns-in-Err-clause-answer
returns-in-Err-clause-answer g c =
    too_long_to_test c.args.options.now _ _ c.answer_unread.result
    (told_long _ c.in-Err.fault c.answer_unread.result c.in-Err.ensures.answer c.answer_unread.ensures.long c.answer_unread.ensures.refused)

pub returns-in-Err-clause-shaped : goal.returns-in-Err-clause-shaped
returns-in-Err-clause-shaped g c =
    plain_shaped c.args.options.now c.answer_unread.result c.answer_unread.ensures.unrecorded c.answer_unread.ensures.object
