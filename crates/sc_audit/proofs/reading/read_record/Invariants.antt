use Rattle.std.specs.Io.KnownBytes.{Consumes}
use Rattle.sc_audit.specs.Internal.Steps.{IsKept, read_of}
use Rattle.sc_audit.proofs.reading.read_record.Given as goal

-- what was read so far begins a record
abbrev pub invariant-loop : goal.invariant-loop
invariant-loop g l = record {
  kept : IsKept l.beginning;
  consumed : Consumes (g.R.Read.remaining l.fn.reader) (g.R.Read.remaining l.reader) (read_of l.beginning);
}
