use Rattle.std.proofs.Common.{◌≡◌, ◌+◌, drop, map}
use Rattle.std.specs.Option.{option_map}
use Rattle.sc_typing.specs.Views.{entity_of}
use Rattle.sc_symbols.specs.Scopes.{number_named}
use Rattle.sc_symbols.proofs.scope.number_named.Given as goal

abbrev pub invariant-loop-index : goal.invariant-loop-index
invariant-loop-index l =
    number_named l.name (map entity_of l.names) ≡ option_map (λ i. l.index + i) (number_named l.name (map entity_of (drop l.index l.names)))
