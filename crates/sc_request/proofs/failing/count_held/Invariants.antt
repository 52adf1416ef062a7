use Rattle.std.proofs.Common.{◌≡◌, ◌+◌, ◌<◌, ◌≤◌, ℕ, slice_index, vec_len, if◌then◌else◌}
use Rattle.sc_lockpass.specs.Rights.{is_handler}
use Rattle.sc_lockpass.specs.Tables.{rights_of}
use Rattle.sc_request.proofs.failing.count_held.Given as goal

abbrev pub invariant-loop-k : goal.invariant-loop-k
invariant-loop-k l = record {
  same : vec_len l.counts ≡ vec_len l.initial.counts;
  below : (j : ℕ) → j < l.k → slice_index l.counts.items j ≡ (if is_handler l.handler ((rights_of l.rights).queue j) then slice_index l.initial.counts.items j + 1 else slice_index l.initial.counts.items j);
  above : (j : ℕ) → l.k ≤ j → slice_index l.counts.items j ≡ slice_index l.initial.counts.items j;
}
