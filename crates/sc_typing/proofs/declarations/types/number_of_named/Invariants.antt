use Rattle.std.proofs.Common.{◌≡◌, ◌+◌, drop, map}
use Rattle.std.specs.Option.{option_map}
use Rattle.sc_tree.specs.View.{declaration_of}
use Rattle.sc_rules.specs.Types.{number_of_named}
use Rattle.sc_typing.proofs.declarations.types.number_of_named.Given as goal

abbrev pub invariant-loop-index : goal.invariant-loop-index
invariant-loop-index l =
    number_of_named l.name (map declaration_of l.formals) ≡ option_map (λ i. l.index + i) (number_of_named l.name (map declaration_of (drop l.index l.formals)))
