use Rattle.std.proofs.Common.{◌≡◌, ◌<◌, ◌≤◌, ℕ, None, length}
use Rattle.std.specs.Prelude.{slice_get}
use Rattle.sc_lockpass.specs.Tables.{rights_of}
use Rattle.sc_request.specs.Parts.{part_in, parts_in}
use Rattle.sc_request.proofs.loading.put_rights.Given as goal

abbrev pub invariant-loop-place : goal.invariant-loop-place
invariant-loop-place l = record {
  version : l.rights.version ≡ l.fn.rights.version;
  queue : (k : ℕ) → k < l.place → (rights_of l.rights).queue k ≡ (part_in (slice_get (parts_in l.parts l.numbers) k)).queue;
  top : (k : ℕ) → k < l.place → (rights_of l.rights).top k ≡ (part_in (slice_get (parts_in l.parts l.numbers) k)).top;
  queue_past : (k : ℕ) → length l.numbers ≤ k → (rights_of l.rights).queue k ≡ None;
  top_past : (k : ℕ) → length l.numbers ≤ k → (rights_of l.rights).top k ≡ None;
}
