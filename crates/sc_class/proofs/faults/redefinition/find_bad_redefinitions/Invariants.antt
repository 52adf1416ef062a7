use Rattle.sc_tree.specs.View.{name_of, system_of}
use Rattle.sc_class.specs.Faults.Redefinition.{NameBadlyRedefined}
use Rattle.sc_class.specs.Internal.Places.{Gains}
use Rattle.sc_class.proofs.PlaceLists.{Among}
use Rattle.sc_class.proofs.faults.redefinition.find_bad_redefinitions.Given as goal

abbrev pub invariant-loop-name : goal.invariant-loop-name
invariant-loop-name l = Gains (Among (NameBadlyRedefined (system_of l.outline.hierarchy.system.now) l.number) name_of l.redefined l.name-index) l.fn.found l.found
