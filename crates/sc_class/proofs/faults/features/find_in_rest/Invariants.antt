use Rattle.std.proofs.Common.{◌≡◌, ◌<◌, ℕ, length}
use Rattle.sc_tree.specs.View.{system_of}
use Rattle.sc_class.specs.Internal.FeatureFaults.{AreFound, IsDone}
use Rattle.sc_class.specs.Internal.Lines.{Stands}
use Rattle.sc_class.proofs.faults.features.find_in_rest.Given as goal

abbrev pub invariant-loop-number : goal.invariant-loop-number
invariant-loop-number l =
    AreFound (system_of l.outline.hierarchy.system.now) l.done l.found × Stands (system_of l.outline.hierarchy.system.now) l.line × (length l.done ≡ length (system_of l.outline.hierarchy.system.now).classes)
    × ((k : ℕ) → k < l.number → IsDone l.done k)
