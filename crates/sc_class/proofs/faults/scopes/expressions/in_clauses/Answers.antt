use Rattle.std.proofs.Common.{refl, List, map}
use Rattle.sc_tree.specs.declared.instruction.Clause.{Clause}
use Rattle.sc_tree.specs.View.{expr_of, clause_of}
use Rattle.sc_class.specs.Internal.Places.{union}
use Rattle.sc_class.specs.Internal.ScopeSearch.{expr_clash, clauses_clash}
use Rattle.sc_class.proofs.ScopeSteps.{search_more, search_end}
use Rattle.sc_class.proofs.faults.scopes.expressions.in_clauses.Goals as goal

pub loop-clause-preserved : goal.loop-clause-preserved
unfolding clauses_clash clause_of
loop-clause-preserved c =
    search_more (λ (xs : List Clause). clauses_clash c.args.features.now c.args.known.now (map clause_of xs)) (λ (x : Clause). expr_clash c.args.features.now c.args.known.now (expr_of x.condition)) c.args.clauses.now (λ x xs. refl)
    (union c.args.found.now (clauses_clash c.args.features.now c.args.known.now (map clause_of c.args.clauses.now))) c.loop-clause.found c.in_expression.new.found c.loop-clause.clause-index c.clause-item.result c.loop-clause.invariant c.loop-clause-test.true c.clause-item.is c.in_ok-in_expression.ensures

pub returns : goal.returns
unfolding clauses_clash clause_of
returns c =
    search_end (λ (xs : List Clause). clauses_clash c.args.features.now c.args.known.now (map clause_of xs)) (λ (x : Clause). expr_clash c.args.features.now c.args.known.now (expr_of x.condition)) c.args.clauses.now refl
    (union c.args.found.now (clauses_clash c.args.features.now c.args.known.now (map clause_of c.args.clauses.now))) c.loop-clause.found c.loop-clause.clause-index c.loop-clause.invariant c.loop-clause-test.false
