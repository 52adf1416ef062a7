use Rattle.std.proofs.Common.{◌≡◌}
use Rattle.std.specs.Prelude.{take}
use Rattle.sc_acts.specs.Blocks.{written}
use Rattle.sc_acts.proofs.blocks.write.Given as goal

abbrev pub invariant-loop-place : goal.invariant-loop-place
invariant-loop-place l = l.slots ≡ written l.first (take l.place l.values) l.initial.slots
