use Rattle.std.proofs.Common.{◌≡◌, ◌+◌, ℕ, vec_len, take, slice_index, if◌then◌else◌}
use Rattle.sc_lockpass.specs.Rights.{is_among}
use Rattle.sc_request.proofs.sessions.count_each.Given as goal

abbrev pub invariant-loop-at : goal.invariant-loop-at
invariant-loop-at l = record {
  same : vec_len l.counts ≡ vec_len l.initial.counts;
  counted : (k : ℕ) → slice_index l.counts.items k ≡ (if is_among k (take l.at l.handlers) then slice_index l.initial.counts.items k + 1 else slice_index l.initial.counts.items k);
}
