use Rattle.std.proofs.Common.{◌≡◌, take}
use Rattle.sc_test_cases.specs.Lines.{count_of}
use Rattle.sc_test_cases.proofs.outcome.count.Given as goal

-- so many of those before
abbrev pub invariant-loop-result : goal.invariant-loop-result
invariant-loop-result l = l.count ≡ count_of l.verdict (take l.result-index l.results)
