use Rattle.std.proofs.Common.{◌≡◌, length}
use Rattle.sc_tree.specs.View.{system_of}
use Rattle.sc_class.specs.Internal.FeatureFaults.{AreFound}
use Rattle.sc_class.specs.Internal.Lines.{Stands}
use Rattle.sc_class.proofs.faults.features.find_in_order.Given as goal

abbrev pub invariant-loop-number : goal.invariant-loop-number
invariant-loop-number l = AreFound (system_of l.outline.hierarchy.system.now) l.done l.found × Stands (system_of l.outline.hierarchy.system.now) l.line × (length l.done ≡ length l.fn.done)
