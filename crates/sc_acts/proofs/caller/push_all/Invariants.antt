use Rattle.std.proofs.Common.{◌≡◌}
use Rattle.std.specs.Prelude.{take}
use Rattle.sc_region.specs.OperandList.{operands_onto}
use Rattle.sc_acts.proofs.caller.push_all.Given as goal

abbrev pub invariant-loop-value : goal.invariant-loop-value
invariant-loop-value l = l.operands ≡ record l.initial.operands { values = operands_onto (take l.value-index l.values) l.initial.operands.values }
