use Rattle.std.proofs.Common.{◌≡◌, ◌≤◌, length}
use Rattle.std.specs.Prelude.{take}
use Rattle.sc_acts.specs.Blocks.{handlers_of}
use Rattle.sc_acts.proofs.blocks.handlers_of.Given as goal

abbrev pub invariant-loop-value : goal.invariant-loop-value
invariant-loop-value l = record {
  so_far : l.handlers.items ≡ handlers_of (take l.value-index l.values);
  few : length l.handlers.items ≤ l.value-index;
}
