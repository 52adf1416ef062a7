use Rattle.std.proofs.Common.{◌≡◌, ◌<◌, ℕ, Some, map}
use Rattle.std.specs.Prelude.{slice_get}
use Rattle.sc_tree.specs.Plain.{Parent}
use Rattle.sc_tree.specs.View.{parent_of, system_of}
use Rattle.sc_class.specs.Internal.Search.{IsNotBelow}
use Rattle.sc_class.proofs.faults.cycles.is_below_none.Given as goal

abbrev pub invariant-loop-parent : goal.invariant-loop-parent
invariant-loop-parent l = (i : ℕ) → i < l.parent-index → (q : Parent) → slice_get (map parent_of l.parents) i ≡ Some q → IsNotBelow (system_of l.hierarchy.system.now) l.ranks l.number q
