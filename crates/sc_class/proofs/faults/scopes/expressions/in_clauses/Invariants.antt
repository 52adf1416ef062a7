use Rattle.std.proofs.Common.{◌≡◌, drop, map}
use Rattle.sc_tree.specs.View.{clause_of}
use Rattle.sc_class.specs.Internal.Places.{union}
use Rattle.sc_class.specs.Internal.ScopeSearch.{clauses_clash}
use Rattle.sc_class.proofs.faults.scopes.expressions.in_clauses.Given as goal

abbrev pub invariant-loop-clause : goal.invariant-loop-clause
invariant-loop-clause l =
    union l.fn.found (clauses_clash l.features l.known (map clause_of l.clauses)) ≡ union l.found (clauses_clash l.features l.known (map clause_of (drop l.clause-index l.clauses)))
