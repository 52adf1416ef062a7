use Rattle.std.proofs.Common.{◌≡◌, take, map}
use Rattle.sc_tree.specs.View.{class_of}
use Rattle.sc_class.specs.ClassNames.{class_names}
use Rattle.sc_class.proofs.class_tables.hierarchy.names_of.Given as goal

abbrev pub invariant-loop-class : goal.invariant-loop-class
invariant-loop-class l = l.names ≡ class_names (map class_of (take l.class-index l.classes))
