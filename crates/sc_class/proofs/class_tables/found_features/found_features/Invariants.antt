use Rattle.sc_tree.specs.View.{system_of}
use Rattle.sc_class.specs.Internal.FoundFeatures.{AreFound}
use Rattle.sc_class.proofs.class_tables.found_features.found_features.Given as goal

abbrev pub invariant-loop-number : goal.invariant-loop-number
invariant-loop-number l = AreFound (system_of l.outline.hierarchy.system.now) l.found.items
