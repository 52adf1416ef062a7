use Rattle.std.proofs.Common.{◌≡◌, ◌<◌, ◌≤◌, ℕ}
use Rattle.sc_lockpass.specs.Tables.{holder_at, replaced}
use Rattle.sc_lockpass.proofs.holders.replace.Given as goal

abbrev pub invariant-loop-k : goal.invariant-loop-k
invariant-loop-k l = record {
  below : (j : ℕ) → j < l.k → holder_at l.holders j ≡ replaced l.from l.to (holder_at l.initial.holders j);
  above : (j : ℕ) → l.k ≤ j → holder_at l.holders j ≡ holder_at l.initial.holders j;
}
