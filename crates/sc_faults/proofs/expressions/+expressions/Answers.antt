use Rattle.std.proofs.Common.{◌≡◌, ◌++◌, List, length, Ok, map, refl, ap, sym, subst, ◌∙◌}
use Rattle.sc_tree.specs.declared.expression.Expr.{Expr}
use Rattle.sc_tree.specs.View.{expr_of, exprs_of, name_of, target_of}
use Rattle.sc_class.specs.SystemIn.{system_in}
use Rattle.sc_rules.specs.declared.position.Position.TheVariants.{Plain, Source}
use Rattle.sc_rules.specs.Names.{Entities}
use Rattle.sc_rules.specs.Judging.{Judged, formals_of, judge_given, judged_types}
use Rattle.sc_rules.specs.Typing.{known_handlers}
use Rattle.sc_typing.specs.declared.expressions.typing.JudgedActual.{JudgedActual}
use Rattle.sc_typing.specs.Views.{routine_in, entity_of, formals_in, meaning_in, types_in}
use Rattle.sc_faults.specs.Internal.Listing.{judge_passed, judge_passed_to, faults_in, faults_in_actuals, faults_of}
use Rattle.sc_faults.proofs.Adding.{from_none}
use Rattle.sc_faults.proofs.Steps.{knows_at, site_added}
use Rattle.sc_faults.proofs.ExpressionSteps.{typed_added, untyped_added, integer_added, boolean_added, void_added, current_added, result_added, call_added, unary_added, test_added, apart_added, joint_added, known_added, no_target_added, target_added, actuals_next, actuals_end, arguments_added, call_steps}
use Rattle.sc_faults.proofs.expressions.+expressions.Goals as goal

pub add_expression-returns-in-Ok : goal.add_expression-returns-in-Ok
add_expression-returns-in-Ok t c =
    typed_added (routine_in c.args.routine.now) c.args.context c.args.position (map entity_of c.args.names.now) c.args.e.now (Ok tt)
    c.args.faults.now.items c.args.faults.now.items c.judge_expression.result c.in-Ok.field-0 c.in-Ok.is c.judge_expression.ensures

pub add_expression-returns-in_ok-add_operands-in-Err-Refused : goal.add_expression-returns-in_ok-add_operands-in-Err-Refused
add_expression-returns-in_ok-add_operands-in-Err-Refused t c =
    let h = routine_in c.args.routine.now in
    let n = map entity_of c.args.names.now in
    untyped_added h c.args.context c.args.position n c.args.e.now c.add_first.result c.args.faults.now.items c.add_first.new.faults.items
    c.judge_expression.result c.in-Err-Refused.field-0 c.in-Err-Refused.fault c.add_operands.new.faults.items
    c.in-Err-Refused.is c.in-Err-Refused.field-0-is c.judge_expression.ensures
    (from_none c.new-operands.result.items (faults_in h c.args.context c.args.position n (expr_of c.args.e.now)) c.add_operands.new.faults.items
    c.new-operands.ensures.items c.in_ok-add_operands-in-Err-Refused.ensures)
    c.add_first.ensures

pub add_operands-returns-in-Integer : goal.add_operands-returns-in-Integer
add_operands-returns-in-Integer t c =
    integer_added (routine_in c.args.routine.now) c.args.context c.args.position (map entity_of c.args.names.now) c.args.e.now (Ok tt)
    c.args.faults.now.items c.args.faults.now.items c.in-Integer.field-0 c.in-Integer.field-1 c.in-Integer.is

pub add_operands-returns-in-Boolean : goal.add_operands-returns-in-Boolean
add_operands-returns-in-Boolean t c =
    boolean_added (routine_in c.args.routine.now) c.args.context c.args.position (map entity_of c.args.names.now) c.args.e.now (Ok tt)
    c.args.faults.now.items c.args.faults.now.items c.in-Boolean.field-0 c.in-Boolean.field-1 c.in-Boolean.is

pub add_operands-returns-in-Void : goal.add_operands-returns-in-Void
add_operands-returns-in-Void t c =
    void_added (routine_in c.args.routine.now) c.args.context c.args.position (map entity_of c.args.names.now) c.args.e.now (Ok tt)
    c.args.faults.now.items c.args.faults.now.items c.in-Void.field-0 c.in-Void.is

pub add_operands-returns-in-Current : goal.add_operands-returns-in-Current
add_operands-returns-in-Current t c =
    current_added (routine_in c.args.routine.now) c.args.context c.args.position (map entity_of c.args.names.now) c.args.e.now (Ok tt)
    c.args.faults.now.items c.args.faults.now.items c.in-Current.field-0 c.in-Current.is

pub add_operands-returns-in-Result : goal.add_operands-returns-in-Result
add_operands-returns-in-Result t c =
    result_added (routine_in c.args.routine.now) c.args.context c.args.position (map entity_of c.args.names.now) c.args.e.now (Ok tt)
    c.args.faults.now.items c.args.faults.now.items c.in-Result.field-0 c.in-Result.is

pub add_operands-returns-in-Call : goal.add_operands-returns-in-Call
add_operands-returns-in-Call t c =
    call_added (routine_in c.args.routine.now) c.args.context c.args.position (map entity_of c.args.names.now) c.args.e.now c.add_call.result
    c.args.faults.now.items c.add_call.new.faults.items c.in-Call.call c.in-Call.is c.add_call.ensures

pub add_operands-returns-in_ok-add_expression-in-Binary-2 : goal.add_operands-returns-in_ok-add_expression-in-Binary-2
add_operands-returns-in_ok-add_expression-in-Binary-2 t c =
    apart_added (routine_in c.args.routine.now) c.args.context c.args.position (map entity_of c.args.names.now) c.args.e.now
    c.add_expression-else-shares_names-2.result c.args.faults.now.items c.add_expression-else-shares_names-2.new.faults.items
    c.in-Binary.field-0 c.in-Binary.operator c.in-Binary.left c.in-Binary.right c.in-Binary.is
    c.deref-else-shares_names.result.now c.deref-else-shares_names-2.result.now c.deref-else-shares_names.ensures c.deref-else-shares_names-2.ensures
    c.add_expression-else-shares_names.new.faults.items c.operand_position-side.result (sym c.shares_names.ensures ∙ c.if-shares_names.false)
    c.operand_position-side.ensures c.in_ok-add_expression-in-Binary-2.ensures c.add_expression-else-shares_names-2.ensures

pub add_operands-returns-in_ok-add_expression-in-Binary : goal.add_operands-returns-in_ok-add_expression-in-Binary
add_operands-returns-in_ok-add_expression-in-Binary t c =
    joint_added (routine_in c.args.routine.now) c.args.context c.args.position (map entity_of c.args.names.now) c.args.e.now
    c.add_right.result c.args.faults.now.items c.add_right.new.faults.items
    c.in-Binary.field-0 c.in-Binary.operator c.in-Binary.left c.in-Binary.right c.in-Binary.is
    c.deref-then-shares_names.result.now c.deref-then-shares_names-2.result.now c.deref-then-shares_names.ensures c.deref-then-shares_names-2.ensures
    c.add_expression-then-shares_names.new.faults.items c.deref-then-shares_names-3.result.now c.deref-then-shares_names-3.ensures
    (sym c.shares_names.ensures ∙ c.if-shares_names.true)
    c.in_ok-add_expression-in-Binary.ensures c.add_right.ensures

pub add_right-returns : goal.add_right-returns
add_right-returns t c =
    let names_given : Entities → Judged Entities = λ m. judge_given (routine_in c.args.routine.now) c.args.context m (expr_of c.args.left.now) in
    c.add_where_known.ensures (names_given (map entity_of c.args.names.now))
    (knows_at names_given c.give_names-given.result (map entity_of c.args.names.now) (map entity_of c.in_ok-known.known.items)
    (map entity_of c.give_names-given.new.names.items) (map entity_of c.deref.result.now)
    (ap (map entity_of) c.in_ok-known.ensures.items) (ap (map entity_of) c.deref.ensures.value) c.give_names-given.ensures)

pub add_where_known-returns-in-Ok : goal.add_where_known-returns-in-Ok
add_where_known-returns-in-Ok t c = λ j k.
    known_added (routine_in c.args.routine.now) c.args.context (expr_of c.args.right.now) c.args.given (map entity_of c.args.known.now) j
    c.add_expression.result c.args.faults.now.items c.add_expression.new.faults.items c.in-Ok.field-0 c.in-Ok.is k c.add_expression.ensures

pub add_target-returns-in-None : goal.add_target-returns-in-None
add_target-returns-in-None t c =
    no_target_added (routine_in c.args.routine.now) c.args.context
    (map entity_of c.args.names.now) c.args.target.now c.args.faults.now.items c.in-None.is

pub add_operands-returns-in_ok-add_expression-in-Unary : goal.add_operands-returns-in_ok-add_expression-in-Unary
add_operands-returns-in_ok-add_expression-in-Unary t c =
    unary_added (routine_in c.args.routine.now) c.args.context c.args.position (map entity_of c.args.names.now) c.args.e.now c.add_alone.result
    c.args.faults.now.items c.add_alone.new.faults.items c.in-Unary.span c.in-Unary.operator c.in-Unary.operand c.operand_context-inside.result
    c.deref.result.now c.add_expression.new.faults.items c.judge_old.result c.in-Unary.is c.operand_context-inside.ensures c.deref.ensures
    c.in_ok-add_expression-in-Unary.ensures c.judge_old.ensures c.add_alone.ensures

pub add_operands-returns-in_ok-add_expression-in-ObjectTest : goal.add_operands-returns-in_ok-add_expression-in-ObjectTest
add_operands-returns-in_ok-add_expression-in-ObjectTest t c =
    test_added (routine_in c.args.routine.now) c.args.context c.args.position (map entity_of c.args.names.now) c.args.e.now
    c.add_alone-in-ObjectTest.result c.args.faults.now.items c.add_alone-in-ObjectTest.new.faults.items c.in-ObjectTest.span c.in-ObjectTest.declared
    c.in-ObjectTest.tested c.in-ObjectTest.field-3 c.deref-in-ObjectTest.result.now c.add_type_if_any.new.faults.items
    c.add_expression-in-ObjectTest.new.faults.items c.judge_place.result c.in-ObjectTest.is c.deref-in-ObjectTest.ensures
    c.in_ok-add_type_if_any-in-ObjectTest.ensures c.in_ok-add_expression-in-ObjectTest.ensures c.judge_place.ensures c.add_alone-in-ObjectTest.ensures

pub add_target-returns-in-Some : goal.add_target-returns-in-Some
add_target-returns-in-Some t c =
    let h = routine_in c.args.routine.now in
    let n = map entity_of c.args.names.now in
    target_added h c.args.context n c.args.target.now c.in-Some.target c.deref-in-Some.result.now c.deref.result.now c.judge_before-judged.result
    (faults_of h c.args.context Plain n (expr_of c.deref-in-Some.result.now)) c.add_site.result c.args.faults.now.items c.add_site.new.faults.items
    c.in-Some.is c.deref-in-Some.ensures c.deref.ensures refl c.judge_before-judged.ensures c.add_site.ensures

-- whatever it was that judged the site
pub add_site-returns : goal.add_site-returns
add_site-returns t c = λ j p.
    let listed = faults_of (routine_in c.args.routine.now) c.args.context c.args.position (map entity_of c.args.names.now) (expr_of c.args.e.now) in
    site_added j listed c.args.judged.now c.add.result c.add_expression.new.faults.items c.args.faults.now.items c.add.new.faults.items
    (from_none c.new-operands.result.items listed c.add_expression.new.faults.items c.new-operands.ensures.items c.in_ok-add_expression.ensures)
    p c.add.ensures

pub add_actuals-loop-number-preserved : goal.add_actuals-loop-number-preserved
add_actuals-loop-number-preserved t c =
    let h = routine_in c.args.routine.now in
    let n = map entity_of c.args.names.now in
    let pass = judge_passed h c.args.context c.args.passing.now.receiver c.args.passing.now.target (types_in c.args.passing.now.found.now) in
    let fs = formals_in (system_in c.args.routine.now.tables.now) c.args.passing.now.formals in
    let x = c.index-actuals-number.result in
    actuals_next h c.args.context n pass fs c.args.actuals.now c.loop-number.number x
    (c.args.faults.now.items ++ faults_in_actuals h c.args.context n pass fs (exprs_of c.args.actuals.now)) c.loop-number.faults.items
    c.add_site.new.faults.items (faults_of h c.args.context Source n (expr_of x)) c.judge-judged.result c.loop-number-test.true
    c.index-actuals-number.is c.loop-number.invariant refl c.judge-judged.ensures c.in_ok-add_site.ensures

pub add_actuals-returns : goal.add_actuals-returns
add_actuals-returns t c =
    let h = routine_in c.args.routine.now in
    let n = map entity_of c.args.names.now in
    let pass = judge_passed h c.args.context c.args.passing.now.receiver c.args.passing.now.target (types_in c.args.passing.now.found.now) in
    let fs = formals_in (system_in c.args.routine.now.tables.now) c.args.passing.now.formals in
    actuals_end h c.args.context n pass fs c.args.actuals.now c.loop-number.number
    (c.args.faults.now.items ++ faults_in_actuals h c.args.context n pass fs (exprs_of c.args.actuals.now)) c.loop-number.faults.items
    c.loop-number-test.false c.loop-number.invariant

pub add_arguments-invariant_of-passing : goal.add_arguments-invariant_of-passing
add_arguments-invariant_of-passing t c =
    record {
      is_known =
          c.deref-3.ensures.value ∙ c.in_ok-known.ensures
          ∙ ap (λ (fs : List JudgedActual). known_handlers (types_in fs)) (c.deref.ensures.value ∙ sym c.deref-2.ensures.value);
    }

pub add_arguments-returns : goal.add_arguments-returns
add_arguments-returns t c =
    let h = routine_in c.args.routine.now in
    let n = map entity_of c.args.names.now in
    let s = system_in c.args.routine.now.tables.now in
    arguments_added h c.args.context n c.args.receiver (meaning_in s c.args.meaning.now) (exprs_of c.args.actuals.now) c.target_type.result
    (types_in c.deref-2.result.now) (formals_in s c.formals_of.result) c.add_actuals.result c.args.faults.now.items c.add_actuals.new.faults.items
    (c.target_type.ensures s) (ap types_in c.deref-2.ensures.value ∙ ap judged_types c.in_ok-found.ensures) (c.formals_of.ensures s)
    c.add_actuals.ensures

pub add_call-returns : goal.add_call-returns
add_call-returns t c =
    let h = routine_in c.args.routine.now in
    let n = map entity_of c.args.names.now in
    let m = meaning_in (system_in c.args.routine.now.tables.now) c.meaning_of-meaning.result in
    let o = c.in_ok-receiver.receiver in
    let call = c.args.call.now in
    call_steps h c.args.context n c.args.usage (target_of call.target) (name_of call.name) call.actuals.items o m c.len.result
    c.judge_name-judged.result c.add_alone.result c.args.faults.now.items c.add_target.new.faults.items c.add_arguments.new.faults.items
    c.add_alone.new.faults.items c.in_ok-receiver.ensures c.meaning_of-meaning.ensures
    (c.len.ensures ∙ sym c.deref.ensures.len ∙ ap (λ (es : List Expr). length es) c.deref.ensures.value) c.in_ok-add_target.ensures
    (subst (λ (es : List Expr). c.add_arguments.new.faults.items
    ≡ c.add_target.new.faults.items ++ faults_in_actuals h c.args.context n (judge_passed_to h c.args.context n o m (exprs_of es)) (formals_of m) (exprs_of es))
    c.deref.ensures.value c.in_ok-add_arguments.ensures)
    c.judge_name-judged.ensures c.add_alone.ensures
