use Rattle.std.proofs.Common.{◌<◌, ℕ}
use Rattle.sc_lockpass.specs.Passing.{AreListedAlike}
use Rattle.sc_lockpass.specs.Tables.{passed_of}
use Rattle.sc_lockpass.proofs.passed.Passed.is_same.Given as goal

abbrev pub invariant-loop-k : goal.invariant-loop-k
invariant-loop-k l = (j : ℕ) → j < l.k → AreListedAlike j (passed_of l.self) (passed_of l.other)
