use Rattle.std.proofs.Common.{◌≡◌, ◌<◌, ℕ, Some, map}
use Rattle.std.specs.Prelude.{slice_get}
use Rattle.sc_tree.specs.Plain.{Class}
use Rattle.sc_tree.specs.View.{class_of, system_of}
use Rattle.sc_class.specs.Internal.Search.{IsBelowNone}
use Rattle.sc_class.proofs.faults.cycles.are_in_order.Given as goal

abbrev pub invariant-loop-number : goal.invariant-loop-number
invariant-loop-number l = (k : ℕ) → k < l.number → (c : Class) → slice_get (map class_of l.classes) k ≡ Some c → IsBelowNone (system_of l.hierarchy.system.now) l.ranks k c.parents
