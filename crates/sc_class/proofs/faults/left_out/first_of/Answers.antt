use Rattle.sc_class.proofs.PlaceLists.{first_begin, first_more, first_all}
use Rattle.sc_class.proofs.faults.left_out.first_of.Goals as goal

pub loop-exclusion-init : goal.loop-exclusion-init
loop-exclusion-init c = first_begin (λ x. x.span.start) c.args.found.now

pub loop-exclusion-preserved : goal.loop-exclusion-preserved
loop-exclusion-preserved c = first_more (λ x. x.span.start) c.args.found.now c.loop-exclusion.exclusion-index _ c.loop-exclusion.first c.first_exclusion-first.result c.loop-exclusion-test.true c.first_exclusion-first.ensures c.loop-exclusion.invariant

pub returns : goal.returns
returns c = first_all (λ x. x.span.start) c.args.found.now c.loop-exclusion.exclusion-index c.loop-exclusion.first c.loop-exclusion-test.false c.loop-exclusion.invariant
