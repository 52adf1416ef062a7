use Rattle.sc_serve.proofs.TestLemmas.{plain_shaped, unlisted}
use Rattle.sc_serve.proofs.testing.test_source.Goals as goal

-- the tests of its system are played
pub returns-in-Ok-clause-answer : goal.returns-in-Ok-clause-answer
returns-in-Ok-clause-answer g c =
    c.test_all.ensures.answer (rw c.as_slice.ensures.value (rw c.text.ensures at c.in-Ok.ensures.tests))

-- or something is at fault in it
pub returns-in_ok-root-in-Err-clause-answer : goal.returns-in_ok-root-in-Err-clause-answer
returns-in_ok-root-in-Err-clause-answer g c =
    unlisted c.args.options.now c.args.source.now c.in-Err.rejection c.answer_explained.result
    (rw c.text.ensures at c.in-Err.ensures.refused) c.answer_explained.ensures.refused

pub returns-in_ok-root-in-Err-clause-shaped : goal.returns-in_ok-root-in-Err-clause-shaped
returns-in_ok-root-in-Err-clause-shaped g c =
    plain_shaped c.args.options.now c.answer_explained.result c.answer_explained.ensures.unrecorded c.answer_explained.ensures.object
