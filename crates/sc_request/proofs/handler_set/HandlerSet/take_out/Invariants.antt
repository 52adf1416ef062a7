use Rattle.std.proofs.Common.{◌≡◌, ◌<◌, ◌≤◌, ℕ, bit_and, bit_xor, slice_index_or}
use Rattle.sc_request.proofs.handler_set.HandlerSet.take_out.Given as goal

abbrev pub invariant-loop-at : goal.invariant-loop-at
invariant-loop-at l = record {
  done : (q : ℕ) → q < l.at → slice_index_or l.self.words q 0 ≡ bit_xor (slice_index_or l.fn.self.words q 0) (bit_and (slice_index_or l.fn.self.words q 0) (slice_index_or l.others.words q 0));
  rest : (q : ℕ) → l.at ≤ q → slice_index_or l.self.words q 0 ≡ slice_index_or l.fn.self.words q 0;
}
