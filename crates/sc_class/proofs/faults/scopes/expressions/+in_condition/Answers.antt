use Rattle.std.proofs.Common.{◌≡◌, List, sym, subst, ◌∙◌}
use Rattle.std.specs.Prelude.{OnOk}
use Rattle.sc_text.specs.declared.token.Span.{Span}
use Rattle.sc_class.proofs.ScopeSteps.{joined_found, condition_test_found}
use Rattle.sc_class.proofs.faults.scopes.expressions.+in_condition.Goals as goal

pub returns-in_ok-in_condition-in-Binary-clause-found : goal.returns-in_ok-in_condition-in-Binary-clause-found
returns-in_ok-in_condition-in-Binary-clause-found t c =
    subst (λ (ps : List Span). OnOk c.in_condition-in-Binary.result (c.in_condition-in-Binary.new.found ≡ ps))
    (joined_found c.args.features.now c.args.known.now c.args.e.now c.in-Binary.field-0 c.in-Binary.operator c.in-Binary.left c.in-Binary.right c.deref.result.now c.deref-in-Binary.result.now c.in_condition.new.known c.args.found.now c.in_condition.new.found
    c.in-Binary.is (sym c.is_and_then.ensures ∙ c.if-is_and_then.true) c.deref.ensures c.deref-in-Binary.ensures c.in_ok-in_condition-in-Binary.ensures.added c.in_ok-in_condition-in-Binary.ensures.found)
    c.in_condition-in-Binary.ensures.found

pub returns-in_ok-in_expression-in-ObjectTest-clause-found : goal.returns-in_ok-in_expression-in-ObjectTest-clause-found
returns-in_ok-in_expression-in-ObjectTest-clause-found t c =
    subst (λ (ps : List Span). OnOk c.declare.result (c.declare.new.found ≡ ps))
    (condition_test_found c.args.features.now c.args.known.now c.args.e.now c.in-ObjectTest.field-0 c.in-ObjectTest.field-1 c.in-ObjectTest.tested c.in-ObjectTest.name c.deref-in-ObjectTest.result.now c.args.found.now c.in_expression.new.found
    c.in-ObjectTest.is c.deref-in-ObjectTest.ensures c.in_ok-in_expression-in-ObjectTest.ensures)
    c.declare.ensures.found
