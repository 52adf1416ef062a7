use Rattle.std.proofs.Common.{◌≡◌}
use Rattle.std.specs.Prelude.{take}
use Rattle.sc_acts.specs.Entering.{handlers_in}
use Rattle.sc_acts.proofs.beginning.handlers_in.Given as goal

abbrev pub invariant-loop-slot : goal.invariant-loop-slot
invariant-loop-slot l = l.handlers.items ≡ handlers_in l.slots (take l.slot-index l.separate)
