use Rattle.std.proofs.Common.{◌≡◌, ◌+◌, drop, map}
use Rattle.std.specs.Option.{option_map}
use Rattle.sc_typing.specs.Views.{entity_of}
use Rattle.sc_code.specs.Places.{slot_named}
use Rattle.sc_routines.proofs.known_names.slot_named.Given as goal

abbrev pub invariant-loop-slot : goal.invariant-loop-slot
invariant-loop-slot l =
    slot_named l.name (map entity_of l.names) ≡ option_map (λ found. (l.slot + found.0, found.1)) (slot_named l.name (map entity_of (drop l.slot l.names)))
