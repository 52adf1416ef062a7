use Rattle.std.proofs.Common.{◌≡◌, ◌<◌, ◌≤◌, ℕ, false, take}
use Rattle.std.specs.List.{All}
use Rattle.sc_lockpass.specs.Rights.{is_among}
use Rattle.sc_lockpass.proofs.holders.reach_with.Given as goal

abbrev pub invariant-loop-handler : goal.invariant-loop-handler
invariant-loop-handler l = record {
  least : l.reach ≤ l.least;
  above : (k : ℕ) → l.least ≤ k → is_among k (take l.handler-index l.handlers) ≡ false;
  most : (n : ℕ) → l.reach ≤ n → All (λ k. k < n) l.handlers → l.least ≤ n;
}
