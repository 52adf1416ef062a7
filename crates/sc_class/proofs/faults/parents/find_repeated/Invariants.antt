use Rattle.std.proofs.Common.{[], map, take}
use Rattle.sc_tree.specs.View.{class_of}
use Rattle.sc_class.specs.ClassNames.{RepeatedAt}
use Rattle.sc_class.specs.Internal.Places.{Gains}
use Rattle.sc_class.proofs.faults.parents.find_repeated.Given as goal

abbrev pub invariant-loop-i : goal.invariant-loop-i
invariant-loop-i l = Gains (RepeatedAt [] (map class_of (take l.i l.classes))) l.fn.found l.found
