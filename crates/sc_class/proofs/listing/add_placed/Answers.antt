use Rattle.std.proofs.Common.{◌++◌, [], ◌∷◌, ap, ◌∙◌}
use Rattle.sc_class.specs.declared.fault.ClassFault.{ClassFault}
use Rattle.sc_class.specs.Internal.Listing.{fault_at}
use Rattle.sc_class.proofs.PlaceLists.{pushed_more, pushed_all}
use Rattle.sc_class.proofs.listing.add_placed.Goals as goal

pub loop-place-preserved : goal.loop-place-preserved
loop-place-preserved c =
    pushed_more (fault_at c.args.kind) c.args.places.now c.loop-place.place-index _ c.args.faults.now.items c.loop-place.faults.items c.push.new.self.items c.loop-place-test.true c.loop-place.invariant
    (c.in_ok-push.ensures.items ∙ ap (λ (f : ClassFault). c.loop-place.faults.items ++ f ∷ []) c.fault_at.ensures)

pub returns : goal.returns
returns c = pushed_all (fault_at c.args.kind) c.args.places.now c.loop-place.place-index c.args.faults.now.items c.loop-place.faults.items c.loop-place-test.false c.loop-place.invariant
