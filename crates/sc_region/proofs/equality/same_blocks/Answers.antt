use Rattle.std.proofs.Common.{ℕ, arith}
use Rattle.arrayvec.specs.ArrayVec.{ArrayVec}
use Rattle.sc_region.proofs.Sameness.{differs, same_here}
use Rattle.sc_region.proofs.equality.same_blocks.Goals as goal

pub returns-then-not-same_handlers : goal.returns-then-not-same_handlers
returns-then-not-same_handlers c =
    differs c.same_handlers.result c.if-not-same_handlers.true c.same_handlers.ensures
    (same_here (λ (b : ArrayVec ℕ). b.items) c.args.blocks.now c.args.others.now c.loop-place.place c.index-blocks-place.result c.index-others-place.result
    (omega arith) (omega arith) c.index-blocks-place.is c.index-others-place.is)
