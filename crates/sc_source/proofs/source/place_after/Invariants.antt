use Rattle.std.proofs.Common.{◌≡◌, ◌+◌, ◌≤◌, take}
use Rattle.sc_source.specs.Source as spec
use Rattle.sc_source.proofs.source.place_after.Given as goal

abbrev pub invariant-loop-byte : goal.invariant-loop-byte
invariant-loop-byte l = record {
  line : l.line ≡ spec.line_after (take l.byte-index l.before);
  column : l.column ≡ spec.column_after (take l.byte-index l.before);
  in_range : l.line ≤ 1 + l.byte-index;
  within : l.column ≤ 1 + l.byte-index;
}
