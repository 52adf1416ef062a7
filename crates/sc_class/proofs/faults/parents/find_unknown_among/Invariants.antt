use Rattle.sc_tree.specs.View.{parent_of, system_of}
use Rattle.sc_class.specs.Tables.Ancestors.{UnknownParentAt}
use Rattle.sc_class.specs.Internal.Places.{Gains}
use Rattle.sc_class.proofs.PlaceLists.{Among}
use Rattle.sc_class.proofs.faults.parents.find_unknown_among.Given as goal

abbrev pub invariant-loop-parent : goal.invariant-loop-parent
invariant-loop-parent l = Gains (Among (UnknownParentAt (system_of l.hierarchy.system.now)) parent_of l.parents l.parent-index) l.fn.found l.found
