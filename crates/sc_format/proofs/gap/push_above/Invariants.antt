use Rattle.std.proofs.Common.{◌≡◌, ◌++◌, drop, map}
use Rattle.sc_format.specs.Gaps.{above_text, remark_in}
use Rattle.sc_format.proofs.gap.push_above.Given as goal

abbrev pub invariant-loop-remark : goal.invariant-loop-remark
invariant-loop-remark l =
    l.output.items ++ above_text l.want.indent (map remark_in (drop l.remark-index l.others))
    ≡ l.initial.output.items ++ above_text l.want.indent (map remark_in l.others)
