use Rattle.std.proofs.Common.{◌≡◌, ◌<◌, ◌≤◌, ℕ, vec_len}
use Rattle.std.specs.Prelude.{slice_get}
use Rattle.sc_code.specs.declared.program.Image.{Image}
use Rattle.sc_play.specs.Contents.{contents_at, new_contents}
use Rattle.sc_world.specs.Loading.{AreOf, ChangesAreOf, contents_after}
use Rattle.sc_world.proofs.loading.put_regions.Given as goal

abbrev pub invariant-loop-place : goal.invariant-loop-place
invariant-loop-place l = record {
  len : vec_len l.regions ≡ vec_len l.fn.regions;
  far : vec_len l.fn.changes ≤ l.place;
  still : (k : ℕ) → k < vec_len l.fn.changes → slice_get l.regions.items k ≡ slice_get l.fn.regions.items k;
  new : (k : ℕ) → vec_len l.fn.changes ≤ k → k < l.place → contents_at l.regions.items k ≡ new_contents k;
  rest : (k : ℕ) → l.place ≤ k → slice_get l.regions.items k ≡ slice_get l.fn.regions.items k;
  programs : (p : Image) → AreOf p l.fn.regions.items → AreOf p l.regions.items;
}

abbrev pub invariant-loop-change : goal.invariant-loop-change
invariant-loop-change l = record {
  len : vec_len l.regions ≡ vec_len l.fn.regions;
  few : vec_len l.changes ≤ vec_len l.fn.changes;
  left : (k : ℕ) → k < vec_len l.changes → slice_get l.changes.items k ≡ slice_get l.fn.changes.items k;
  still : (k : ℕ) → k < vec_len l.changes → slice_get l.regions.items k ≡ slice_get l.fn.regions.items k;
  put : (k : ℕ) → vec_len l.changes ≤ k →
      contents_at l.regions.items k ≡ contents_after k l.fn.regions.items (slice_get l.fn.changes.items k);
  programs : (p : Image) → AreOf p l.fn.regions.items → ChangesAreOf p l.fn.changes.items → AreOf p l.regions.items;
}

abbrev pub decreases-loop-change : goal.decreases-loop-change
decreases-loop-change l = vec_len l.changes
