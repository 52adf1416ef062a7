use Rattle.std.proofs.Common.{◌≡◌, ◌<◌, ℕ, slice_index, vec_len}
use Rattle.sc_request.proofs.loading.clear_counts.Given as goal

abbrev pub invariant-loop-place : goal.invariant-loop-place
invariant-loop-place l = record {
  len : vec_len l.counts ≡ vec_len l.initial.counts;
  none : (k : ℕ) → k < l.place → slice_index l.counts.items k ≡ 0;
}
