use Rattle.std.proofs.Common.{length, ◌≤◌}
use Rattle.sc_language_server.proofs.signature.open_call.Given as goal

abbrev pub invariant-loop-rest : goal.invariant-loop-rest
invariant-loop-rest l = record {
  within : length l.rest ≤ length l.tokens;
}

abbrev pub decreases-loop-rest : goal.decreases-loop-rest
decreases-loop-rest l = length l.rest
