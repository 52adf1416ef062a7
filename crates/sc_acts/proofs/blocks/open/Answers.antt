use Rattle.std.proofs.Common.{length, ap, arith}
use Rattle.sc_region.specs.Frames.{top_activation}
use Rattle.sc_acts.proofs.Allowed.{heads_slots}
use Rattle.sc_acts.proofs.blocks.open.Goals as goal

pub open_top-requires : goal.open_top-requires
open_top-requires c = λ a k.
    let there = heads_slots c.args.first c.args.count c.in-Some.heads.items (top_activation c.args.store.now.frames) c.in-Some.ensures a k in
    let same = ap length c.as_slice.ensures.value in
    omega (arith, there, same)
