use Rattle.std.proofs.Common.{map, ◌++◌}
use Rattle.sc_tree.specs.View.{clause_of}
use Rattle.sc_typing.specs.Views.{routine_in, entity_of}
use Rattle.sc_faults.specs.Internal.Listing.{faults_of_each, faults_of_clause}
use Rattle.sc_faults.proofs.Adding.{each_next, each_end}
use Rattle.sc_faults.proofs.conditions.add_clauses.Goals as goal

pub loop-clause-preserved : goal.loop-clause-preserved
unfolding clause_of
loop-clause-preserved c =
    let list = faults_of_clause (routine_in c.args.routine.now) c.args.context (map entity_of c.args.names.now) in
    each_next clause_of list c.args.clauses.now c.loop-clause.clause-index c.clause-item.result
    (c.args.faults.now.items ++ faults_of_each list (map clause_of c.args.clauses.now)) c.loop-clause.faults.items c.add_condition.new.faults.items
    c.loop-clause-test.true c.clause-item.is c.loop-clause.invariant c.in_ok-add_condition.ensures

pub returns : goal.returns
returns c =
    let list = faults_of_clause (routine_in c.args.routine.now) c.args.context (map entity_of c.args.names.now) in
    each_end clause_of list c.args.clauses.now c.loop-clause.clause-index
    (c.args.faults.now.items ++ faults_of_each list (map clause_of c.args.clauses.now))
    c.loop-clause.faults.items c.loop-clause-test.false c.loop-clause.invariant
