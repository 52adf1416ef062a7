use Rattle.sc_tree.specs.View.{class_of}
use Rattle.sc_class.specs.Faults.LeftOut.{ClassLeftOut}
use Rattle.sc_class.specs.Internal.Places.{Gains}
use Rattle.sc_class.proofs.PlaceLists.{Among}
use Rattle.sc_class.proofs.faults.left_out.find_left_out.Given as goal

abbrev pub invariant-loop-class : goal.invariant-loop-class
invariant-loop-class l = Gains (Among ClassLeftOut class_of l.classes l.class-index) l.fn.found.items l.found.items
