use Rattle.std.proofs.Common.{◌≡◌, ◌++◌, drop, map}
use Rattle.sc_tree.specs.View.{clause_of}
use Rattle.sc_typing.specs.Views.{routine_in, entity_of}
use Rattle.sc_faults.specs.Internal.Listing.{faults_of_each, faults_of_clause}
use Rattle.sc_faults.proofs.conditions.add_clauses.Given as goal

abbrev pub invariant-loop-clause : goal.invariant-loop-clause
invariant-loop-clause l =
    l.fn.faults.items ++ faults_of_each (faults_of_clause (routine_in l.routine) l.context (map entity_of l.names)) (map clause_of l.clauses)
    ≡ l.faults.items ++ faults_of_each (faults_of_clause (routine_in l.routine) l.context (map entity_of l.names))
    (map clause_of (drop l.clause-index l.clauses))
