use Rattle.std.proofs.Common.{◌≡◌, ◌≤◌, length}
use Rattle.sc_language_server.specs.Findings as spec
use Rattle.sc_language_server.proofs.findings.push_warnings.Given as goal

abbrev pub invariant-loop-warning : goal.invariant-loop-warning
invariant-loop-warning l = record {
  codes : spec.codes_of l.findings.items ≡ spec.codes_of l.fn.findings.items;
  more : length l.fn.findings.items ≤ length l.findings.items;
}
