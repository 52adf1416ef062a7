use Rattle.std.proofs.Common.{◌≡◌, length}
use Rattle.sc_class.specs.Internal.Search.{left_over}
use Rattle.sc_class.specs.SystemIn.{system_in}
use Rattle.sc_typing.specs.FeatureNumbers.{all_features}
use Rattle.sc_check.specs.purity.Internal.ImpureSearch.{AreMarked, AreCallers, AreCollected}
use Rattle.sc_check.proofs.purity.impure_search.impure_features.Given as goal

abbrev pub invariant-loop-number : goal.invariant-loop-number
invariant-loop-number l = AreCollected (system_in l.numbering.tables.now) l.search.impure.items l.search.todo.items l.callers.lists.items l.number

abbrev pub invariant-loop-found : goal.invariant-loop-found
invariant-loop-found l =
    (length l.search.impure.items ≡ length (all_features (system_in l.numbering.tables.now))) ×
    AreMarked (system_in l.numbering.tables.now) l.search.impure.items l.search.todo.items ×
    AreCallers (system_in l.numbering.tables.now) l.callers.lists.items (length (all_features (system_in l.numbering.tables.now)))

abbrev pub decreases-loop-found : goal.decreases-loop-found
decreases-loop-found l = left_over l.search.impure.items l.search.todo.items
