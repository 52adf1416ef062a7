use Rattle.std.proofs.Common.{◌≡◌, ◌++◌, take, map}
use Rattle.sc_tree.specs.View.{declaration_of}
use Rattle.sc_symbols.specs.Scopes.{declared_places}
use Rattle.sc_symbols.proofs.scope.add_places.Given as goal

abbrev pub invariant-loop-declaration : goal.invariant-loop-declaration
invariant-loop-declaration l =
    l.places.items ≡ l.initial.places.items ++ declared_places (map declaration_of (take l.declaration-index l.declarations))
