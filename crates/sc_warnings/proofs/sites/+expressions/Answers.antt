use Rattle.std.proofs.Common.{map}
use Rattle.sc_tree.specs.declared.expression.Expr.{Expr}
use Rattle.sc_tree.specs.View.{expr_of, exprs_of}
use Rattle.sc_warnings.specs.Sites.{sites_of, sites_of_each}
use Rattle.sc_warnings.specs.Views.{site_of}
use Rattle.sc_warnings.proofs.Added.{all_given, named_if_ok, next_given}
use Rattle.sc_warnings.proofs.Cases.{call_is, each_is}
use Rattle.sc_warnings.proofs.sites.+expressions.Goals as goal

pub add_each-loop-actual-preserved : goal.add_each-loop-actual-preserved
add_each-loop-actual-preserved t c =
    next_given (λ (e : Expr). sites_of (map (λ name. name.now) c.args.names.now) (expr_of e)) c.args.actuals.now c.loop-actual.actual-index c.actual-item.result
    (map site_of c.args.sites.now.items) (map site_of c.loop-actual.sites.items) (map site_of c.add_expression.new.sites.items)
    c.loop-actual-test.true c.actual-item.is c.loop-actual.invariant c.in_ok-add_expression.ensures

pub add_each-returns : goal.add_each-returns
add_each-returns t c =
    let n = map (λ name. name.now) c.args.names.now in
    all_given (λ (e : Expr). sites_of n (expr_of e)) c.args.actuals.now c.loop-actual.actual-index (map site_of c.args.sites.now.items)
    (map site_of c.loop-actual.sites.items) (sites_of_each n (exprs_of c.args.actuals.now)) c.loop-actual-test.false (each_is n c.args.actuals.now) c.loop-actual.invariant

pub add_expression-returns-in-Call : goal.add_expression-returns-in-Call
add_expression-returns-in-Call t c =
    named_if_ok c.add_call.result (map site_of c.args.sites.now.items) (map site_of c.add_call.new.sites.items) _ _
    (call_is (map (λ name. name.now) c.args.names.now) c.args.e.now c.in-Call.call c.in-Call.is) c.add_call.ensures
