use Rattle.std.proofs.Common.{map, ap, sym, ◌∙◌}
use Rattle.std.proofs.lemmas.Result.{err_from_is_err_and}
use Rattle.sc_tree.specs.declared.expression.Expr.{Expr}
use Rattle.sc_tree.specs.Plain as plain
use Rattle.sc_tree.specs.View.{expr_of, name_of, target_of}
use Rattle.sc_tree.proofs.ViewLemmas.{expr_of-unary, expr_of-binary}
use Rattle.sc_typing.specs.Views.{routine_in, entity_of, meaning_in, typing_of}
use Rattle.sc_class.specs.SystemIn.{system_in}
use Rattle.sc_typing.proofs.CallSteps.{is_call, call_done}
use Rattle.sc_typing.proofs.ExpressionSteps.{unary_fails, unary_done, left_fails, right_fails, binary_done}
use Rattle.sc_typing.proofs.routine_context.RoutineContext.+expressions.Goals as goal

pub expression-returns-in-Call : goal.expression-returns-in-Call
expression-returns-in-Call t c = is_call (routine_in c.args.self.now) c.args.context (map entity_of c.args.names.now) c.args.position c.args.e.now c.in-Call.call c.call.result c.in-Call.is c.call.ensures

pub call-returns : goal.call-returns
call-returns t c =
    call_done (routine_in c.args.self.now) c.args.context (map entity_of c.args.names.now) c.args.usage (target_of c.args.call.now.target) (name_of c.args.call.now.name) c.args.call.now.actuals.items c.deref.result.now
    c.in_ok-found.found.items c.deref-2.result.now (typing_of c.in_ok-receiver.receiver) (meaning_in (system_in c.args.self.now.tables.now) c.meaning_of-meaning.result) c.judge_actuals_and_name.result
    c.in_ok-receiver.ensures c.meaning_of-meaning.ensures c.deref.ensures.value c.in_ok-found.ensures c.deref-2.ensures.value c.judge_actuals_and_name.ensures

pub expression-returns-in_err-operand-in-Unary : goal.expression-returns-in_err-operand-in-Unary
expression-returns-in_err-operand-in-Unary t c =
    let q = err_from_is_err_and c.from_residual-in_err-operand-in-Unary.result c.from_residual-in_err-operand-in-Unary.ensures.1 in
    rw (q.1, q.2) (unary_fails (routine_in c.args.self.now) c.args.context c.args.position (map entity_of c.args.names.now) c.requires (expr_of c.args.e.now)
    c.in-Unary.span c.in-Unary.operator (expr_of c.deref.result.now)
    (ap expr_of c.in-Unary.is ∙ expr_of-unary c.in-Unary.span c.in-Unary.operator c.in-Unary.operand
    ∙ ap (λ (e : Expr). plain.Unary c.in-Unary.span c.in-Unary.operator (expr_of e)) (sym c.deref.ensures)) _ c.operand_context-inside.ensures _ c.in_err-operand-in-Unary.ensures)

pub expression-returns-in_ok-operand-in-Unary : goal.expression-returns-in_ok-operand-in-Unary
expression-returns-in_ok-operand-in-Unary t c =
    unary_done (routine_in c.args.self.now) c.args.context c.args.position (map entity_of c.args.names.now) c.requires (expr_of c.args.e.now)
    c.in-Unary.span c.in-Unary.operator (expr_of c.deref.result.now)
    (ap expr_of c.in-Unary.is ∙ expr_of-unary c.in-Unary.span c.in-Unary.operator c.in-Unary.operand
    ∙ ap (λ (e : Expr). plain.Unary c.in-Unary.span c.in-Unary.operator (expr_of e)) (sym c.deref.ensures)) _ c.operand_context-inside.ensures
    (typing_of c.in_ok-operand-in-Unary.operand) _ c.in_ok-operand-in-Unary.ensures c.judge_unary.ensures

pub expression-returns-in_err-left-in-Binary : goal.expression-returns-in_err-left-in-Binary
expression-returns-in_err-left-in-Binary t c =
    let q = err_from_is_err_and c.from_residual-in_err-left-in-Binary.result c.from_residual-in_err-left-in-Binary.ensures.1 in
    rw (q.1, q.2) (left_fails (routine_in c.args.self.now) c.args.context c.args.position (map entity_of c.args.names.now) c.requires (expr_of c.args.e.now)
    c.in-Binary.span c.in-Binary.operator (expr_of c.deref-in-Binary.result.now) (expr_of c.in-Binary.right.value)
    (ap expr_of c.in-Binary.is ∙ expr_of-binary c.in-Binary.span c.in-Binary.operator c.in-Binary.left c.in-Binary.right
    ∙ ap (λ (e : Expr). plain.Binary c.in-Binary.span c.in-Binary.operator (expr_of e) (expr_of c.in-Binary.right.value)) (sym c.deref-in-Binary.ensures)) _ c.operand_position.ensures _ c.in_err-left-in-Binary.ensures)

pub expression-returns-in_err-right-in-Binary : goal.expression-returns-in_err-right-in-Binary
expression-returns-in_err-right-in-Binary t c =
    let q = err_from_is_err_and c.from_residual-in_err-right-in-Binary.result c.from_residual-in_err-right-in-Binary.ensures.1 in
    rw (q.1, q.2) (right_fails (routine_in c.args.self.now) c.args.context c.args.position (map entity_of c.args.names.now) c.requires (expr_of c.args.e.now)
    c.in-Binary.span c.in-Binary.operator (expr_of c.deref-in-Binary.result.now) (expr_of c.deref-in-Binary-2.result.now)
    (ap expr_of c.in-Binary.is ∙ expr_of-binary c.in-Binary.span c.in-Binary.operator c.in-Binary.left c.in-Binary.right
    ∙ ap (λ (e : Expr). plain.Binary c.in-Binary.span c.in-Binary.operator (expr_of e) (expr_of c.in-Binary.right.value)) (sym c.deref-in-Binary.ensures)
    ∙ ap (λ (e : Expr). plain.Binary c.in-Binary.span c.in-Binary.operator (expr_of c.deref-in-Binary.result.now) (expr_of e)) (sym c.deref-in-Binary-2.ensures)) _ c.operand_position.ensures
    (typing_of c.in_ok-left-in-Binary.left) c.in_ok-left-in-Binary.ensures _ c.operand_position-in-Binary.ensures _ c.in_err-right-in-Binary.ensures)

pub expression-returns-in_ok-right-in-Binary : goal.expression-returns-in_ok-right-in-Binary
expression-returns-in_ok-right-in-Binary t c =
    binary_done (routine_in c.args.self.now) c.args.context c.args.position (map entity_of c.args.names.now) c.requires (expr_of c.args.e.now)
    c.in-Binary.span c.in-Binary.operator (expr_of c.deref-in-Binary.result.now) (expr_of c.deref-in-Binary-2.result.now)
    (ap expr_of c.in-Binary.is ∙ expr_of-binary c.in-Binary.span c.in-Binary.operator c.in-Binary.left c.in-Binary.right
    ∙ ap (λ (e : Expr). plain.Binary c.in-Binary.span c.in-Binary.operator (expr_of e) (expr_of c.in-Binary.right.value)) (sym c.deref-in-Binary.ensures)
    ∙ ap (λ (e : Expr). plain.Binary c.in-Binary.span c.in-Binary.operator (expr_of c.deref-in-Binary.result.now) (expr_of e)) (sym c.deref-in-Binary-2.ensures)) _ c.operand_position.ensures
    (typing_of c.in_ok-left-in-Binary.left) c.in_ok-left-in-Binary.ensures _ c.operand_position-in-Binary.ensures (typing_of c.in_ok-right-in-Binary.right) _
    c.in_ok-right-in-Binary.ensures c.judge_binary.ensures
