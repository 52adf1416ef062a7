use Rattle.std.proofs.Common.{◌≡◌, ◌≤◌, take, length}
use Rattle.sc_lockpass.specs.Tables.{rights_of}
use Rattle.sc_lockpass.specs.wait_conditions.Entries as entries
use Rattle.sc_lockpass.proofs.wait_conditions.entry.Entry.needed.Given as goal

abbrev pub invariant-loop-value : goal.invariant-loop-value
invariant-loop-value l = record {
  few : length l.needed.items ≤ l.value-index;
  found : l.needed.items ≡ entries.needed (rights_of l.rights) l.self.handler (take l.value-index l.values);
}
