use Rattle.std.proofs.Common.{◌≤◌, vec_len}
use Rattle.sc_request.proofs.loading.log_with.Given as goal

abbrev pub invariant-loop-made : goal.invariant-loop-made
invariant-loop-made l = l._made ≤ vec_len l.log.entries
