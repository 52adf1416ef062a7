use Rattle.std.specs.Prelude.{Any}
use Rattle.sc_tree.specs.View.{class_of, system_of}
use Rattle.sc_class.specs.Tables.Ancestors.{UnknownParentAt}
use Rattle.sc_class.specs.Internal.Places.{Gains}
use Rattle.sc_class.proofs.PlaceLists.{Among}
use Rattle.sc_class.proofs.faults.parents.find_unknown.Given as goal

abbrev pub invariant-loop-class : goal.invariant-loop-class
invariant-loop-class l = Gains (Among (λ c p. Any (λ q. UnknownParentAt (system_of l.hierarchy.system.now) q p) c.parents) class_of l.classes l.class-index) l.fn.found l.found
