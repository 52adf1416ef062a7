use Rattle.std.proofs.Common.{◌≡◌, length}
use Rattle.sc_region.specs.Frames.{activation_of}
use Rattle.sc_region.specs.Calls.{last_values}
use Rattle.sc_acts.proofs.caller.take_last.Given as goal

abbrev pub invariant-loop-passed : goal.invariant-loop-passed
invariant-loop-passed l = record {
  values : l.values.items ≡ last_values l.passed (activation_of l.activation).operands.values;
  many : length l.values.items ≡ l.passed;
}
