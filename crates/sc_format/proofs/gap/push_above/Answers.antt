use Rattle.std.proofs.Common.{arith}
use Rattle.sc_format.proofs.Reading.{above-done, above-more}
use Rattle.sc_format.proofs.gap.push_above.Goals as goal

pub loop-remark-preserved : goal.loop-remark-preserved
loop-remark-preserved c =
    above-more c.args.want.now.indent c.loop-remark.remark-index _ _ c.loop-remark.output.items _ _ (omega arith)
    c.in_ok-push_remark-2.ensures c.loop-remark.invariant

pub returns : goal.returns
returns c =
    above-done c.args.want.now.indent c.loop-remark.remark-index c.args.want.now.blank c.args.above.now _ c.first_apart-is_apart.result _ _
    c.loop-remark.output.items c.in-len1-up.len_at_least c.first_apart-is_apart.ensures c.in_ok-push_remark.ensures c.loop-remark-test.false
    c.loop-remark.invariant
