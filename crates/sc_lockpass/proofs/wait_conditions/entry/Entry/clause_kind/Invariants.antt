use Rattle.std.proofs.Common.{◌≡◌, false, take}
use Rattle.std.specs.List.{list_any}
use Rattle.sc_lockpass.specs.wait_conditions.Conditions.{lies_on_any}
use Rattle.sc_lockpass.proofs.wait_conditions.entry.Entry.clause_kind.Given as goal

abbrev pub invariant-loop-value : goal.invariant-loop-value
invariant-loop-value l = list_any (lies_on_any l.self.reserved.items) (take l.value-index l.values) ≡ false
