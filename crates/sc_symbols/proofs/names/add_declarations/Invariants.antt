use Rattle.std.proofs.Common.{◌≡◌, ◌++◌, map, take}
use Rattle.std.specs.List.{flat_map}
use Rattle.sc_tree.specs.View.{declaration_of}
use Rattle.sc_class.specs.SystemIn.{system_in}
use Rattle.sc_symbols.specs.Internal.{scope_of}
use Rattle.sc_symbols.specs.Mentions.{mentions_of_declaration}
use Rattle.sc_symbols.proofs.names.add_declarations.Given as goal

abbrev pub invariant-loop-declaration : goal.invariant-loop-declaration
invariant-loop-declaration l =
    l.mentions.items ≡ l.initial.mentions.items ++ flat_map (λ x. mentions_of_declaration (system_in l.tables) (scope_of l.scope) (declaration_of x)) (take l.declaration-index l.declarations)
