use Rattle.sc_class.proofs.PlaceLists.{first_begin, first_more, first_all}
use Rattle.sc_class.proofs.faults.places.first_of.Goals as goal

pub loop-place-init : goal.loop-place-init
loop-place-init c = first_begin (λ p. p.start) c.args.places.now

pub loop-place-preserved : goal.loop-place-preserved
loop-place-preserved c = first_more (λ p. p.start) c.args.places.now c.loop-place.place-index _ c.loop-place.first c.first_place-first.result c.loop-place-test.true c.first_place-first.ensures c.loop-place.invariant

pub returns : goal.returns
returns c = first_all (λ p. p.start) c.args.places.now c.loop-place.place-index c.loop-place.first c.loop-place-test.false c.loop-place.invariant
