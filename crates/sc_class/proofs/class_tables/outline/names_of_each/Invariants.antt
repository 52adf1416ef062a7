use Rattle.std.proofs.Common.{◌≡◌, take, map}
use Rattle.sc_tree.specs.View.{class_of}
use Rattle.sc_class.specs.Internal.DeclaredNames.{names_of_class}
use Rattle.sc_class.proofs.class_tables.outline.names_of_each.Given as goal

abbrev pub invariant-loop-class : goal.invariant-loop-class
invariant-loop-class l = l.names.items ≡ map names_of_class (map class_of (take l.class-index l.classes))
