use Rattle.std.proofs.Common.{map, ◌++◌}
use Rattle.sc_tree.specs.View.{clause_of}
use Rattle.sc_class.specs.SystemIn.{system_in}
use Rattle.sc_typing.specs.Marks.{is_marked}
use Rattle.sc_faults.specs.Internal.Listing.{faults_of_each, faults_of_invariant}
use Rattle.sc_faults.proofs.Adding.{each_next, each_end}
use Rattle.sc_faults.proofs.classes.add_invariants.Goals as goal

pub loop-clause-preserved : goal.loop-clause-preserved
loop-clause-preserved c =
    let list = faults_of_invariant (system_in c.args.class.now.tables.now) (is_marked c.args.class.now.purity.now) c.args.class.now.class in
    each_next clause_of list c.args.clauses.now c.loop-clause.clause-index c.clause-item.result
    (c.args.faults.now.items ++ faults_of_each list (map clause_of c.args.clauses.now)) c.loop-clause.faults.items c.add_invariant.new.faults.items
    c.loop-clause-test.true c.clause-item.is c.loop-clause.invariant c.in_ok-add_invariant.ensures

pub returns : goal.returns
returns c =
    let list = faults_of_invariant (system_in c.args.class.now.tables.now) (is_marked c.args.class.now.purity.now) c.args.class.now.class in
    each_end clause_of list c.args.clauses.now c.loop-clause.clause-index
    (c.args.faults.now.items ++ faults_of_each list (map clause_of c.args.clauses.now))
    c.loop-clause.faults.items c.loop-clause-test.false c.loop-clause.invariant
