use Rattle.std.proofs.Common.{◌≡◌, ◌++◌}
use Rattle.std.specs.Prelude.{replicate}
use Rattle.sc_region.specs.declared.value.Value.TheVariants.{Void}
use Rattle.sc_region.proofs.operands.add_voids.Given as goal

abbrev pub invariant-loop-i : goal.invariant-loop-i
invariant-loop-i l = l.items.items ≡ l.initial.items.items ++ replicate l._i Void
