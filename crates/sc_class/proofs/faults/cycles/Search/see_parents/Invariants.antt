use Rattle.std.proofs.Common.{◌≡◌, ◌<◌, ℕ, Some, map}
use Rattle.std.specs.Prelude.{slice_get}
use Rattle.sc_tree.specs.Plain.{Parent}
use Rattle.sc_tree.specs.View.{parent_of, system_of}
use Rattle.sc_class.specs.Tables.Ancestors.{IsParent}
use Rattle.sc_class.specs.Internal.Search.{Grows, IsNumberOf, IsSeen}
use Rattle.sc_class.proofs.faults.cycles.Search.see_parents.Given as goal

abbrev pub invariant-loop-parent : goal.invariant-loop-parent
invariant-loop-parent l =
    Grows (IsParent (system_of l.hierarchy.system.now) l.fn.class) l.fn.self.seen.items l.fn.self.todo.items l.self.seen.items l.self.todo.items
    × ((i : ℕ) → i < l.parent-index → (q : Parent) → slice_get (map parent_of l.parent-items) i ≡ Some q → (k : ℕ) → IsNumberOf (system_of l.hierarchy.system.now) q k → IsSeen l.self.seen.items k)
