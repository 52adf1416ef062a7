use Rattle.sc_tree.specs.View.{system_of}
use Rattle.sc_class.specs.Internal.FoundFeatures.{AreFound}
use Rattle.sc_class.proofs.class_tables.found_features.nothing_found.Given as goal

abbrev pub invariant-loop-class : goal.invariant-loop-class
invariant-loop-class l = AreFound (system_of l.outline.hierarchy.system.now) l.found.items
