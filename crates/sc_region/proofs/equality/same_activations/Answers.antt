use Rattle.std.proofs.Common.{arith}
use Rattle.sc_region.specs.Frames.{activation_of}
use Rattle.sc_region.proofs.Sameness.{differs, same_here}
use Rattle.sc_region.proofs.equality.same_activations.Goals as goal

pub returns-then-not-same_activation : goal.returns-then-not-same_activation
returns-then-not-same_activation c =
    differs c.same_activation.result c.if-not-same_activation.true c.same_activation.ensures
    (same_here activation_of c.args.activations.now c.args.others.now c.loop-place.place c.index-activations-place.result c.index-others-place.result
    (omega arith) (omega arith) c.index-activations-place.is c.index-others-place.is)
