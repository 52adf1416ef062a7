use Rattle.std.proofs.Common.{◌≡◌, drop}
use Rattle.sc_tree.specs.View.{name_of}
use Rattle.sc_class.specs.Internal.NameIndex.{names_in}
use Rattle.sc_class.specs.Internal.Places.{union}
use Rattle.sc_class.specs.Internal.ScopeSearch.{later_places}
use Rattle.sc_class.proofs.names.find_later_among.Given as goal

abbrev pub invariant-loop-added : goal.invariant-loop-added
invariant-loop-added l =
    union l.fn.found (later_places (names_in l.names) (name_of l.name)) ≡ union l.found (later_places (names_in (drop l.added-index l.names)) (name_of l.name))
