use Rattle.std.proofs.Common.{◌≡◌, ◌<◌, ◌≤◌, ℕ, None}
use Rattle.sc_lockpass.specs.Tables.{rights_of}
use Rattle.sc_request.proofs.loading.free_from.Given as goal

abbrev pub invariant-loop-place : goal.invariant-loop-place
invariant-loop-place l = record {
  version : l.rights.version ≡ l.initial.rights.version;
  queue : (k : ℕ) → l.first ≤ k → k < l.place → (rights_of l.rights).queue k ≡ None;
  top : (k : ℕ) → l.first ≤ k → k < l.place → (rights_of l.rights).top k ≡ None;
  queue_past : (k : ℕ) → l.reach ≤ k → (rights_of l.rights).queue k ≡ None;
  top_past : (k : ℕ) → l.reach ≤ k → (rights_of l.rights).top k ≡ None;
}
