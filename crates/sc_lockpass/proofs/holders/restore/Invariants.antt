use Rattle.std.proofs.Common.{◌≡◌, ◌<◌, ◌≤◌, ℕ, if◌then◌else◌}
use Rattle.sc_lockpass.specs.Tables.{holder_at, is_member}
use Rattle.sc_lockpass.proofs.holders.restore.Given as goal

abbrev pub invariant-loop-k : goal.invariant-loop-k
invariant-loop-k l = record {
  below : (j : ℕ) → j < l.k → holder_at l.holders j ≡ (if is_member l.set.words j then l.holder else holder_at l.initial.holders j);
  above : (j : ℕ) → l.k ≤ j → holder_at l.holders j ≡ holder_at l.initial.holders j;
}
