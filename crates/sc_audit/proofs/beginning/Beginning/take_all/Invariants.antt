use Rattle.std.proofs.Common.{◌≡◌, ◌++◌, take}
use Rattle.sc_audit.specs.Internal.Steps.{IsKept, read_of}
use Rattle.sc_audit.proofs.beginning.Beginning.take_all.Given as goal

-- the bytes so far were taken
abbrev pub invariant-loop-byte : goal.invariant-loop-byte
invariant-loop-byte l = record {
  kept : IsKept l.self;
  text : read_of l.self ≡ read_of l.fn.self ++ take l.byte-index l.bytes;
}
