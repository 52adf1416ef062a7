use Rattle.std.proofs.Common.{◌≡◌, ◌++◌, drop, map}
use Rattle.sc_tree.specs.View.{name_of}
use Rattle.sc_class.specs.SystemIn.{system_in}
use Rattle.sc_faults.specs.Internal.Listing.{faults_of_each, faults_of_creator}
use Rattle.sc_faults.proofs.classes.add_creators.Given as goal

abbrev pub invariant-loop-name : goal.invariant-loop-name
invariant-loop-name l =
    l.fn.faults.items ++ faults_of_each (faults_of_creator (system_in l.class.tables.now) l.class.class) (map name_of l.names)
    ≡ l.faults.items ++ faults_of_each (faults_of_creator (system_in l.class.tables.now) l.class.class) (map name_of (drop l.name-index l.names))
