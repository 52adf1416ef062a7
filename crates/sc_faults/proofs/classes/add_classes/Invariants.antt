use Rattle.std.proofs.Common.{◌≡◌, ◌++◌, drop, map}
use Rattle.sc_tree.specs.View.{class_of}
use Rattle.sc_class.specs.SystemIn.{system_in}
use Rattle.sc_typing.specs.Marks.{is_marked}
use Rattle.sc_faults.specs.Internal.Listing.{faults_of_classes, faults_of_system}
use Rattle.sc_faults.proofs.classes.add_classes.Given as goal

abbrev pub invariant-loop-class : goal.invariant-loop-class
invariant-loop-class l =
    l.fn.faults.items ++ faults_of_system (system_in l.tables) (is_marked l.purity)
    ≡ l.faults.items ++ faults_of_classes (system_in l.tables) (is_marked l.purity) l.class (map class_of (drop l.class l.classes))
