use Rattle.sc_tree.specs.declared.expression.Expr.{Expr}
use Rattle.sc_tree.specs.View.{expr_of, exprs_of}
use Rattle.sc_typing.specs.Views.{routine_in}
use Rattle.sc_symbols.specs.Internal.{judged, scope_of}
use Rattle.sc_symbols.specs.Mentions.{mentions_in, mentions_in_each}
use Rattle.sc_symbols.proofs.Added.{all_given, named_if_ok, next_given}
use Rattle.sc_symbols.proofs.Cases.{call_is, each_is}
use Rattle.sc_symbols.proofs.expressions.+expressions.Goals as goal

pub add_actuals-loop-actual-preserved : goal.add_actuals-loop-actual-preserved
add_actuals-loop-actual-preserved t c =
    next_given (λ (e : Expr). mentions_in judged (routine_in c.args.routine.now) c.args.context (scope_of c.args.scope.now) (expr_of e)) c.args.actuals.now
    c.loop-actual.actual-index c.actual-item.result c.args.mentions.now.items c.loop-actual.mentions.items c.add_expression.new.mentions.items
    c.loop-actual-test.true c.actual-item.is c.loop-actual.invariant c.in_ok-add_expression.ensures

pub add_actuals-returns : goal.add_actuals-returns
add_actuals-returns t c =
    let h = routine_in c.args.routine.now in
    let n = scope_of c.args.scope.now in
    all_given (λ (e : Expr). mentions_in judged h c.args.context n (expr_of e)) c.args.actuals.now c.loop-actual.actual-index c.args.mentions.now.items
    c.loop-actual.mentions.items (mentions_in_each judged h c.args.context n (exprs_of c.args.actuals.now)) c.loop-actual-test.false
    (each_is judged h c.args.context n c.args.actuals.now) c.loop-actual.invariant

pub add_expression-returns-in-Call : goal.add_expression-returns-in-Call
add_expression-returns-in-Call t c =
    named_if_ok c.add_call.result c.args.mentions.now.items c.add_call.new.mentions.items _ _
    (call_is judged (routine_in c.args.routine.now) c.args.context (scope_of c.args.scope.now) c.args.e.now c.in-Call.call c.in-Call.is) c.add_call.ensures
