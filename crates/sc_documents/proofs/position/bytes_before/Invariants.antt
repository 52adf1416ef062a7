use Rattle.std.proofs.Common.{◌≡◌, length, ◌+◌}
use Rattle.sc_documents.specs.Positions as spec
use Rattle.sc_documents.proofs.position.bytes_before.Given as goal

abbrev pub invariant-loop-rest : goal.invariant-loop-rest
invariant-loop-rest l = record {
  value : l.before + spec.bytes_before l.left l.rest ≡ spec.bytes_before l.line l.text;
  within : l.before + length l.rest ≡ length l.text;
}

abbrev pub decreases-loop-rest : goal.decreases-loop-rest
decreases-loop-rest l = length l.rest
