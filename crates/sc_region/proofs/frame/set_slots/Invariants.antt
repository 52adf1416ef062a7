use Rattle.std.proofs.Common.{◌≡◌, ◌++◌, ◌-◌, ◌≤◌, length, take}
use Rattle.std.specs.Prelude.{replicate}
use Rattle.sc_region.specs.declared.value.Value.TheVariants.{Void}
use Rattle.sc_region.proofs.frame.set_slots.Given as goal

abbrev pub invariant-loop-place : goal.invariant-loop-place
invariant-loop-place l =
    record { copied : take l.place l.slots ≡ take l.place l.actuals; many : length l.slots ≡ length l.initial.slots }

abbrev pub invariant-loop-other : goal.invariant-loop-other
invariant-loop-other l =
    record {
      begun : length l.actuals ≤ l.other;
      voided : take l.other l.slots ≡ l.actuals ++ replicate (l.other - length l.actuals) Void;
      many : length l.slots ≡ length l.initial.slots;
    }
