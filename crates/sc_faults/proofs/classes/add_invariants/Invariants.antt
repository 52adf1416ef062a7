use Rattle.std.proofs.Common.{◌≡◌, ◌++◌, drop, map}
use Rattle.sc_tree.specs.View.{clause_of}
use Rattle.sc_class.specs.SystemIn.{system_in}
use Rattle.sc_typing.specs.Marks.{is_marked}
use Rattle.sc_faults.specs.Internal.Listing.{faults_of_each, faults_of_invariant}
use Rattle.sc_faults.proofs.classes.add_invariants.Given as goal

abbrev pub invariant-loop-clause : goal.invariant-loop-clause
invariant-loop-clause l =
    l.fn.faults.items ++ faults_of_each (faults_of_invariant (system_in l.class.tables.now) (is_marked l.class.purity.now) l.class.class)
    (map clause_of l.clauses)
    ≡ l.faults.items ++ faults_of_each (faults_of_invariant (system_in l.class.tables.now) (is_marked l.class.purity.now) l.class.class)
    (map clause_of (drop l.clause-index l.clauses))
