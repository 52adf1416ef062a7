use Rattle.std.proofs.Common.{◌≡◌, ◌++◌, map, take}
use Rattle.sc_language_server.specs.Findings as spec
use Rattle.sc_language_server.proofs.findings.push_all.Given as goal

abbrev pub invariant-loop-one : goal.invariant-loop-one
invariant-loop-one l = record {
  codes : spec.codes_of l.findings.items ≡ spec.codes_of l.fn.findings.items ++ map spec.code_of (take l.one-index l.refused);
}
