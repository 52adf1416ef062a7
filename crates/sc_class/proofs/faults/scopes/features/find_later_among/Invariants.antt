use Rattle.std.proofs.Common.{◌≡◌, drop, map}
use Rattle.sc_tree.specs.View.{name_of}
use Rattle.sc_class.specs.View.{entry_of}
use Rattle.sc_class.specs.Faults.Scopes.{feature_names}
use Rattle.sc_class.specs.Internal.Places.{union}
use Rattle.sc_class.specs.Internal.ScopeSearch.{later_places}
use Rattle.sc_class.proofs.faults.scopes.features.find_later_among.Given as goal

abbrev pub invariant-loop-entry : goal.invariant-loop-entry
invariant-loop-entry l =
    union l.fn.found (later_places (feature_names (map entry_of l.features)) (name_of l.name)) ≡ union l.found (later_places (feature_names (map entry_of (drop l.entry-index l.features))) (name_of l.name))
