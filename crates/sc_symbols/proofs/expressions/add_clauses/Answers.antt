use Rattle.std.proofs.Common.{map}
use Rattle.std.specs.List.{flat_map}
use Rattle.std.proofs.lemmas.List.Folds.{flat_map-map}
use Rattle.sc_tree.specs.declared.instruction.Clause.{Clause}
use Rattle.sc_tree.specs.View.{clause_of}
use Rattle.sc_typing.specs.Views.{routine_in}
use Rattle.sc_symbols.specs.Internal.{judged, scope_of}
use Rattle.sc_symbols.specs.Mentions.{mentions_in_clause}
use Rattle.sc_symbols.proofs.Added.{all_given, next_given}
use Rattle.sc_symbols.proofs.expressions.add_clauses.Goals as goal

pub loop-clause-preserved : goal.loop-clause-preserved
unfolding clause_of
loop-clause-preserved c =
    next_given (λ (x : Clause). mentions_in_clause judged (routine_in c.args.routine.now) c.args.context (scope_of c.args.scope.now) (clause_of x)) c.args.clauses.now c.loop-clause.clause-index c.clause-item.result
    c.args.mentions.now.items c.loop-clause.mentions.items c.add_expression.new.mentions.items
    c.loop-clause-test.true c.clause-item.is c.loop-clause.invariant c.in_ok-add_expression.ensures

pub returns : goal.returns
returns c =
    let f = mentions_in_clause judged (routine_in c.args.routine.now) c.args.context (scope_of c.args.scope.now) in
    all_given (λ (x : Clause). f (clause_of x)) c.args.clauses.now c.loop-clause.clause-index c.args.mentions.now.items
    c.loop-clause.mentions.items (flat_map f (map clause_of c.args.clauses.now)) c.loop-clause-test.false (flat_map-map f clause_of c.args.clauses.now)
    c.loop-clause.invariant
