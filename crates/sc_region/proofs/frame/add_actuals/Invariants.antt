use Rattle.std.proofs.Common.{◌≡◌, ◌++◌, take}
use Rattle.std.specs.Prelude.{vec_capacity}
use Rattle.sc_region.proofs.frame.add_actuals.Given as goal

abbrev pub invariant-loop-actual : goal.invariant-loop-actual
invariant-loop-actual l =
    record { items : l.slots.items ≡ l.initial.slots.items ++ take l.actual-index l.actuals; capacity : vec_capacity l.slots ≡ vec_capacity l.initial.slots }
