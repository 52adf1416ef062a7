use Rattle.std.proofs.Common.{◌≡◌, ◌++◌, false, length, map}
use Rattle.sc_format.specs.Gaps.{ends_apart, remark_in, remarks_of}
use Rattle.sc_format.specs.Internal.{lines_after}
use Rattle.sc_format.proofs.gap.read_gap.Given as goal

abbrev pub invariant-loop-rest : goal.invariant-loop-rest
invariant-loop-rest l = record {
  comments : map remark_in l.above.items ++ remarks_of l.is_after_one (lines_after l.rest) ≡ remarks_of false (lines_after l.initial.rest);
  ends : ends_apart l.is_after_one l.is_after_two (lines_after l.rest) ≡ ends_apart false false (lines_after l.initial.rest);
}

abbrev pub decreases-loop-rest : goal.decreases-loop-rest
decreases-loop-rest l = length l.rest
