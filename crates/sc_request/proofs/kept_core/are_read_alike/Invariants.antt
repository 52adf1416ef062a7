use Rattle.std.proofs.Common.{◌≡◌, ◌<◌, ℕ}
use Rattle.sc_request.specs.Keeping.{read_at}
use Rattle.sc_request.proofs.kept_core.are_read_alike.Given as goal

abbrev pub invariant-loop-place : goal.invariant-loop-place
invariant-loop-place l = (k : ℕ) → k < l.place → read_at l.handlers l.sessions k ≡ read_at l.others l.their_sessions k
