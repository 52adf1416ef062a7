use Rattle.std.proofs.Common.{◌≡◌, ◌+◌, ◌≤◌, length, take}
use Rattle.std.specs.List.{suffix_len}
use Rattle.sc_places.specs.Lines as spec
use Rattle.sc_places.proofs.lines.start_of_line.Given as goal

-- what was passed is in the last line
abbrev pub invariant-loop-start : goal.invariant-loop-start
invariant-loop-start l = record {
  within : l.start ≤ length l.text;
  passed : l.start + suffix_len spec.is_in_line l.text ≡ length l.text + suffix_len spec.is_in_line (take l.start l.text);
}

abbrev pub decreases-loop-start : goal.decreases-loop-start
decreases-loop-start l = l.start
