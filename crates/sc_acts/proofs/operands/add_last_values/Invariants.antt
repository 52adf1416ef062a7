use Rattle.std.proofs.Common.{◌≡◌, ◌+◌, ◌-◌, ◌++◌, length}
use Rattle.sc_region.specs.Frames.{activation_of}
use Rattle.sc_region.specs.Calls.{last_values}
use Rattle.sc_acts.proofs.operands.add_last_values.Given as goal

abbrev pub invariant-loop-passed : goal.invariant-loop-passed
invariant-loop-passed l = record {
  values : l.values.items ++ last_values (l.count - l.passed) (activation_of l.activation).operands.values
      ≡ l.initial.values.items ++ last_values l.count (activation_of l.activation).operands.values;
  many : length l.values.items ≡ length l.initial.values.items + l.passed;
}
