use Rattle.sc_source.specs.Source.{joined}
use Rattle.sc_serve.proofs.TestLemmas.{all_results, next_result, told_results}
use Rattle.sc_serve.proofs.testing.test_all.Goals as goal

-- the next test has its result
pub loop-root-preserved : goal.loop-root-preserved
loop-root-preserved g c =
    next_result (joined c.args.source.now) c.args.options.now c.args.roots.now c.loop-root.root-index c.root-item.result _
    c.loop-root.results.items _ c.in-Played.result c.loop-root-test.true c.root-item.is c.loop-root.invariant
    (rw c.in-Played.is at c.in_ok-tested.ensures) c.in_ok-push_result-in-Played.ensures

-- all have
pub returns-clause-answer : goal.returns-clause-answer
returns-clause-answer g c = λ listed.
    told_results c.args.options.now c.args.source.now _ _ c.answer_results.result listed
    (all_results (joined c.args.source.now) c.args.options.now c.args.roots.now c.loop-root.root-index _ c.loop-root-test.false c.loop-root.invariant)
    (rw c.as_slice.ensures.value at c.answer_results.ensures.answer)
