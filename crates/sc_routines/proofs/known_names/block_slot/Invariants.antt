use Rattle.std.proofs.Common.{◌≡◌, ◌+◌, drop, map}
use Rattle.std.specs.Prelude.{slice_get}
use Rattle.std.specs.Option.{option_map}
use Rattle.sc_typing.specs.Views.{entity_of}
use Rattle.sc_code.specs.Emitted.{block_slots}
use Rattle.sc_routines.proofs.known_names.block_slot.Given as goal

abbrev pub invariant-loop-slot : goal.invariant-loop-slot
invariant-loop-slot l =
    slice_get (block_slots (map entity_of l.names)) l.number
    ≡ option_map (λ k. l.slot + k) (slice_get (block_slots (map entity_of (drop l.slot l.names))) l.left)
