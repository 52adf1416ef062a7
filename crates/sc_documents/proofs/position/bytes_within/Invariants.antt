use Rattle.std.proofs.Common.{◌≡◌, drop, ◌+◌}
use Rattle.sc_documents.specs.Positions as spec
use Rattle.sc_documents.proofs.position.bytes_within.Given as goal

abbrev pub invariant-loop-byte : goal.invariant-loop-byte
invariant-loop-byte l = record {
  value : l.within + spec.bytes_within l.room (drop l.byte-index l.text) ≡ spec.bytes_within l.character l.text;
  counted : l.within ≡ l.byte-index;
}
