use Rattle.std.proofs.Common.{◌≡◌, take}
use Rattle.std.specs.List.{flat_map}
use Rattle.sc_test_cases.specs.Lines.{line_of}
use Rattle.sc_test_cases.proofs.lines.result_lines.Given as goal

-- the lines of those before
abbrev pub invariant-loop-result : goal.invariant-loop-result
invariant-loop-result l = l.lines.items ≡ flat_map line_of (take l.result-index l.results)
