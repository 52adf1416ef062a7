use Rattle.std.proofs.Common.{◌≤◌}
use Rattle.sc_language_server.proofs.framing.read_line.Given as goal

abbrev pub invariant-loop : goal.invariant-loop
invariant-loop g l = record {
  count : l.count ≤ 128;
}
