use Rattle.std.proofs.Common.{◌≡◌, ◌+◌, drop, map}
use Rattle.std.specs.Option.{option_map}
use Rattle.sc_typing.specs.Views.{entity_of}
use Rattle.sc_code.specs.Emitted.{formal_slot}
use Rattle.sc_routines.proofs.routine.formals.formal_slot.Given as goal

abbrev pub invariant-loop-slot : goal.invariant-loop-slot
invariant-loop-slot l =
    formal_slot l.name (map entity_of l.names) ≡ option_map (λ k. l.slot + k) (formal_slot l.name (map entity_of (drop l.slot l.names)))
