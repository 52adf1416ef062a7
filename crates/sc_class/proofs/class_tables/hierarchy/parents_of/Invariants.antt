use Rattle.std.proofs.Common.{◌≡◌, take, map}
use Rattle.sc_tree.specs.View.{class_of}
use Rattle.sc_class.specs.Tables.Ancestors.{parent_in}
use Rattle.sc_class.proofs.class_tables.hierarchy.parents_of.Given as goal

abbrev pub invariant-loop-class : goal.invariant-loop-class
invariant-loop-class l = l.parents.items ≡ map (parent_in l.names) (map class_of (take l.class-index l.classes))
