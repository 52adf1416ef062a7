use Rattle.std.proofs.Common.{◌≡◌, refl, List, subst}
use Rattle.std.specs.Prelude.{OnOk}
use Rattle.sc_text.specs.declared.token.Span.{Span}
use Rattle.sc_tree.specs.declared.expression.Expr.{Expr}
use Rattle.sc_tree.specs.View.{expr_of, exprs_of}
use Rattle.sc_class.specs.Internal.Places.{union}
use Rattle.sc_class.specs.Internal.ScopeSearch.{expr_clash, exprs_clash}
use Rattle.sc_class.proofs.ScopeSteps.{search_more, search_end, call_found, binary_found, test_found}
use Rattle.sc_class.proofs.faults.scopes.expressions.+expressions.Goals as goal

pub in_expression-returns-in_ok-in_target-in-Call : goal.in_expression-returns-in_ok-in_target-in-Call
in_expression-returns-in_ok-in_target-in-Call t c =
    subst (λ (ps : List Span). OnOk c.in_expressions.result (c.in_expressions.new.found ≡ ps))
    (call_found c.args.features.now c.args.known.now c.args.e.now c.in-Call.call c.deref.result.now c.args.found.now c.in_target.new.found c.in-Call.is c.deref.ensures.value c.in_ok-in_target-in-Call.ensures)
    c.in_expressions.ensures

pub in_expression-returns-in_ok-in_expression-in-Binary : goal.in_expression-returns-in_ok-in_expression-in-Binary
in_expression-returns-in_ok-in_expression-in-Binary t c =
    subst (λ (ps : List Span). OnOk c.in_expression-in-Binary-2.result (c.in_expression-in-Binary-2.new.found ≡ ps))
    (binary_found c.args.features.now c.args.known.now c.args.e.now c.in-Binary.field-0 c.in-Binary.field-1 c.in-Binary.left c.in-Binary.right c.deref-in-Binary.result.now c.deref-in-Binary-2.result.now c.args.found.now c.in_expression-in-Binary.new.found
    c.in-Binary.is c.deref-in-Binary.ensures c.deref-in-Binary-2.ensures c.in_ok-in_expression-in-Binary.ensures)
    c.in_expression-in-Binary-2.ensures

pub in_expression-returns-in_ok-in_expression-in-ObjectTest : goal.in_expression-returns-in_ok-in_expression-in-ObjectTest
in_expression-returns-in_ok-in_expression-in-ObjectTest t c =
    subst (λ (ps : List Span). OnOk c.find_clashes.result (c.find_clashes.new.found ≡ ps))
    (test_found c.args.features.now c.args.known.now c.args.e.now c.in-ObjectTest.field-0 c.in-ObjectTest.field-1 c.in-ObjectTest.tested c.in-ObjectTest.name c.deref-in-ObjectTest.result.now c.args.found.now c.in_expression-in-ObjectTest.new.found
    c.in-ObjectTest.is c.deref-in-ObjectTest.ensures c.in_ok-in_expression-in-ObjectTest.ensures)
    c.find_clashes.ensures

pub in_expressions-loop-expression-preserved : goal.in_expressions-loop-expression-preserved
unfolding expr_clash
in_expressions-loop-expression-preserved t c =
    search_more (λ (es : List Expr). exprs_clash c.args.features.now c.args.known.now (exprs_of es)) (λ (e : Expr). expr_clash c.args.features.now c.args.known.now (expr_of e)) c.args.expressions.now (λ e es. refl)
    (union c.args.found.now (exprs_clash c.args.features.now c.args.known.now (exprs_of c.args.expressions.now))) c.loop-expression.found c.in_expression.new.found c.loop-expression.expression-index c.expression-item.result c.loop-expression.invariant c.loop-expression-test.true
    c.expression-item.is c.in_ok-in_expression.ensures

pub in_expressions-returns : goal.in_expressions-returns
unfolding expr_clash
in_expressions-returns t c =
    search_end (λ (es : List Expr). exprs_clash c.args.features.now c.args.known.now (exprs_of es)) (λ (e : Expr). expr_clash c.args.features.now c.args.known.now (expr_of e)) c.args.expressions.now refl
    (union c.args.found.now (exprs_clash c.args.features.now c.args.known.now (exprs_of c.args.expressions.now))) c.loop-expression.found c.loop-expression.expression-index c.loop-expression.invariant c.loop-expression-test.false
