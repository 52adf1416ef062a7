use Rattle.std.proofs.Common.{◌≡◌, ◌<◌, ◌≤◌, ℕ, false}
use Rattle.sc_lockpass.specs.Rights.{is_handler}
use Rattle.sc_lockpass.specs.Tables.{holder_at, is_member}
use Rattle.sc_lockpass.proofs.holders.held_by.Given as goal

abbrev pub invariant-loop-k : goal.invariant-loop-k
invariant-loop-k l = record {
  below : (j : ℕ) → j < l.k → is_member l.held.words j ≡ is_handler l.handler (holder_at l.holders j);
  above : (j : ℕ) → l.k ≤ j → is_member l.held.words j ≡ false;
}
