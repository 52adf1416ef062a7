use Rattle.std.proofs.Common.{◌≡◌, ◌+◌, ◌-◌, ◌*◌, ◌≤◌, length}
use Rattle.sc_documents.specs.Documents.{IsTable}
use Rattle.sc_documents.specs.Positions as spec
use Rattle.sc_documents.proofs.document.table_of.Given as goal

abbrev pub invariant-loop-start : goal.invariant-loop-start
invariant-loop-start l = record {
  table : IsTable l.text l.marks.items;
  next : 256 * length l.marks.items ≡ l.start + 256;
  within : l.start ≤ length l.bytes;
  mark : l.mark ≡ spec.position_of l.text l.start;
}

abbrev pub decreases-loop-start : goal.decreases-loop-start
decreases-loop-start l = length l.bytes - l.start
