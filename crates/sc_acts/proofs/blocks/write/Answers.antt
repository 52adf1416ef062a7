use Rattle.std.proofs.Common.{◌+◌, ap, ◌∙◌}
use Rattle.std.specs.Prelude.{pos, slice_index_or, slice_set}
use Rattle.sc_region.specs.declared.value.Value.TheVariants as value
use Rattle.sc_acts.proofs.Slots.{written_more}
use Rattle.sc_acts.proofs.blocks.write.Goals as goal

pub loop-place-preserved : goal.loop-place-preserved
loop-place-preserved c =
    let i = c.loop-place.place in
    let us = c.args.values.now in
    ap (λ ss. slice_set ss (c.args.first + i) (slice_index_or us i (value.Integer (pos 0)))) c.loop-place.invariant
    ∙ written_more c.args.first i us c.args.slots.now (value.Integer (pos 0)) c.loop-place-test.true
