use Rattle.std.proofs.Common.{arith}
use Rattle.sc_region.specs.Objects.{object_of}
use Rattle.sc_region.proofs.Sameness.{differs, same_here}
use Rattle.sc_region.proofs.equality.same_objects.Goals as goal

pub returns-then-not-same_object : goal.returns-then-not-same_object
returns-then-not-same_object c =
    differs c.same_object.result c.if-not-same_object.true c.same_object.ensures
    (same_here object_of c.args.objects.now c.args.others.now c.loop-place.place c.index-objects-place.result c.index-others-place.result
    (omega arith) (omega arith) c.index-objects-place.is c.index-others-place.is)
