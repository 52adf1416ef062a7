use Rattle.sc_serve.proofs.TestLemmas.{same_shape, same_test}
use Rattle.sc_serve.proofs.testing.answer_tests.Goals as goal

pub returns-clause-answer : goal.returns-clause-answer
returns-clause-answer g c =
    same_test c.args.options.now _ _ c.in_ok-answer.answer c.shaped.result c.in_ok-answer.ensures.answer c.shaped.ensures

pub returns-clause-shaped : goal.returns-clause-shaped
returns-clause-shaped g c =
    same_shape c.args.options.now c.in_ok-answer.answer c.shaped.result c.in_ok-answer.ensures.shaped c.shaped.ensures
