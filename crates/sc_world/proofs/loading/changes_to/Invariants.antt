use Rattle.std.proofs.Common.{◌≡◌, ◌<◌, ℕ, length}
use Rattle.std.specs.Prelude.{slice_get}
use Rattle.sc_code.specs.declared.program.Image.{Image}
use Rattle.sc_world.specs.Loading.{AreOf, ChangesAreOf, contents_after, contents_by, held_in}
use Rattle.sc_world.proofs.loading.changes_to.Given as goal

abbrev pub invariant-loop-place : goal.invariant-loop-place
invariant-loop-place l = record {
  many : length l.changes.items ≡ l.place;
  contents : (k : ℕ) → k < l.place →
      contents_after k l.regions (slice_get l.changes.items k) ≡ held_in k (slice_get (contents_by l.table l.numbers) k);
  programs : (p : Image) → AreOf p l.table → ChangesAreOf p l.changes.items;
}
