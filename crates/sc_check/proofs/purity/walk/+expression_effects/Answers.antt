use Rattle.std.proofs.Common.{◌≡◌, List, [], ◌++◌, map, ap, inl, inr, ◌∙◌}
use Rattle.sc_tree.specs.declared.expression.Expr.{Expr}
use Rattle.sc_tree.specs.View.{expr_of, name_of, target_of, type_if_any}
use Rattle.sc_tree.proofs.ViewLemmas.{expr_of-unary, expr_of-binary, expr_of-object_test}
use Rattle.sc_rules.specs.declared.position.Position.TheVariants.{Plain}
use Rattle.sc_rules.specs.Positions.{operand_position}
use Rattle.sc_rules.specs.Judging.{judge}
use Rattle.sc_rules.specs.JudgingPurity as judging
use Rattle.sc_rules.specs.JudgingPurity.{effects}
use Rattle.sc_typing.specs.Views.{routine_in, entity_of, judged_in, meaning_in}
use Rattle.sc_class.specs.SystemIn.{system_in}
use Rattle.sc_check.specs.purity.Internal.Effects.{effect_of}
use Rattle.sc_check.proofs.purity.EffectSteps.{added_two, none_added, in_call, in_parts, kept_adds, kept_found, call_found, found_in_call, found_in_unary, found_in_binary, found_in_test, effects_in_unary, effects_in_binary, effects_in_test}
use Rattle.sc_check.proofs.purity.walk.+expression_effects.Goals as goal

pub add_expression-returns-in-Call-clause-effects : goal.add_expression-returns-in-Call-clause-effects
add_expression-returns-in-Call-clause-effects t c =
    in_call (routine_in c.args.routine.now) c.args.context c.args.position (map entity_of c.args.names.now) c.args.e.now
    c.in-Call.call c.args.effects.now.items c.add_call.new.effects.items c.add_call.result c.in-Call.is c.add_call.ensures.effects

pub add_expression-returns-in-Call-clause-found : goal.add_expression-returns-in-Call-clause-found
add_expression-returns-in-Call-clause-found t c =
    found_in_call (routine_in c.args.routine.now) c.args.context (map entity_of c.args.names.now) c.args.position c.args.e.now
    c.in-Call.call c.add_call.result c.in-Call.is c.add_call.ensures.found

pub add_call-returns-clause-effects : goal.add_call-returns-clause-effects
add_call-returns-clause-effects t c =
    kept_adds c.args.effects.now.items c.add_named.new.effects.items _ c.judge_met.result c.keep_fault.result c.keep_fault.ensures
    (in_parts (routine_in c.args.routine.now) c.args.context (map entity_of c.args.names.now) (target_of c.args.call.now.target) (name_of c.args.call.now.name)
    c.args.call.now.actuals.items c.deref.result.now c.deref.ensures.value (judged_in c.in_ok-target.target) c.judged_type.result c.in_ok-target.ensures.found c.judged_type.ensures
    c.args.effects.now.items c.add_target.new.effects.items c.add_actuals.new.effects.items c.add_named.new.effects.items
    c.in_ok-target.ensures.effects c.in_ok-found.ensures.effects c.in_ok-meaning.ensures.effects)

pub add_call-returns-clause-found : goal.add_call-returns-clause-found
add_call-returns-clause-found t c =
    call_found (routine_in c.args.routine.now) c.args.context (map entity_of c.args.names.now) (target_of c.args.call.now.target) (name_of c.args.call.now.name)
    c.args.call.now.actuals.items c.deref.result.now c.in_ok-found.found.items c.deref-2.result.now (judged_in c.in_ok-target.target) c.judged_type.result
    (meaning_in (system_in c.args.routine.now.tables.now) c.in_ok-meaning.meaning) c.judge_met.result c.keep_fault.result
    c.in_ok-target.ensures.found c.judged_type.ensures c.in_ok-meaning.ensures.meaning c.deref.ensures.value c.in_ok-found.ensures.found c.deref-2.ensures.value
    c.keep_fault.ensures c.judge_met.ensures

pub add_expression-returns-in_ok-right-in-Binary-clause-found : goal.add_expression-returns-in_ok-right-in-Binary-clause-found
add_expression-returns-in_ok-right-in-Binary-clause-found t c =
    let h = routine_in c.args.routine.now in
    let n = map entity_of c.args.names.now in
    found_in_binary h c.args.context n c.args.position (expr_of c.args.e.now) c.in-Binary.span c.in-Binary.operator (expr_of c.in-Binary.left.value) (expr_of c.in-Binary.right.value)
    (judged_in c.in_ok-left-in-Binary.left) (judged_in c.in_ok-right-in-Binary.right) c.judge_behind_operands.result c.keep_fault-in-Binary.result c.requires
    (ap expr_of c.in-Binary.is ∙ expr_of-binary c.in-Binary.span c.in-Binary.operator c.in-Binary.left c.in-Binary.right)
    (c.in_ok-left-in-Binary.ensures.found ∙ ap (λ k. judge h c.args.context k n (expr_of c.deref-in-Binary.result.now)) c.operand_position-side.ensures
    ∙ ap (λ (e : Expr). judge h c.args.context (operand_position c.in-Binary.operator) n (expr_of e)) c.deref-in-Binary.ensures)
    (c.in_ok-right-in-Binary.ensures.found ∙ ap (λ k. judge h c.args.context k n (expr_of c.deref-in-Binary-2.result.now)) c.operand_position-side.ensures
    ∙ ap (λ (e : Expr). judge h c.args.context (operand_position c.in-Binary.operator) n (expr_of e)) c.deref-in-Binary-2.ensures)
    c.keep_fault-in-Binary.ensures c.judge_behind_operands.ensures

pub add_expression-returns-in_ok-tested-in-ObjectTest-clause-found : goal.add_expression-returns-in_ok-tested-in-ObjectTest-clause-found
add_expression-returns-in_ok-tested-in-ObjectTest-clause-found t c =
    let h = routine_in c.args.routine.now in
    let n = map entity_of c.args.names.now in
    found_in_test h c.args.context n c.args.position (expr_of c.args.e.now) c.in-ObjectTest.span (type_if_any c.in-ObjectTest.declared) (expr_of c.in-ObjectTest.tested.value)
    (name_of c.in-ObjectTest.field-3) (judged_in c.in_ok-tested-in-ObjectTest.tested) c.judge_misplaced.result c.keep_fault-in-ObjectTest.result c.requires
    (ap expr_of c.in-ObjectTest.is ∙ expr_of-object_test c.in-ObjectTest.span c.in-ObjectTest.declared c.in-ObjectTest.tested c.in-ObjectTest.field-3)
    (c.in_ok-tested-in-ObjectTest.ensures.found ∙ ap (λ (e : Expr). judge h c.args.context Plain n (expr_of e)) c.deref-in-ObjectTest.ensures)
    c.keep_fault-in-ObjectTest.ensures c.judge_misplaced.ensures

pub add_expression-returns-in-Integer-clause-effects : goal.add_expression-returns-in-Integer-clause-effects
unfolding effects expr_of
add_expression-returns-in-Integer-clause-effects t c =
    let done = λ (e : Expr). effects (routine_in c.args.routine.now) c.args.context c.args.position (map entity_of c.args.names.now) (expr_of e) in
    let none : done c.args.e.now ≡ [] =
    elim c.in-Integer.is [
      | inl w ↦ ap done w.2
      | inr w ↦ ap done w.2
    ] in
    kept_adds c.args.effects.now.items c.args.effects.now.items _ c.expression-in-Integer.result c.keep_fault-in-Integer.result c.keep_fault-in-Integer.ensures
    (none_added c.args.effects.now.items _ none)

pub add_expression-returns-in-Integer-clause-found : goal.add_expression-returns-in-Integer-clause-found
add_expression-returns-in-Integer-clause-found t c =
    kept_found _ c.expression-in-Integer.result c.keep_fault-in-Integer.result c.keep_fault-in-Integer.ensures c.expression-in-Integer.ensures

pub add_expression-returns-in-Void-clause-effects : goal.add_expression-returns-in-Void-clause-effects
unfolding effects expr_of
add_expression-returns-in-Void-clause-effects t c =
    let done = λ (e : Expr). effects (routine_in c.args.routine.now) c.args.context c.args.position (map entity_of c.args.names.now) (expr_of e) in
    let none : done c.args.e.now ≡ [] =
    elim c.in-Void.is [
      | inl w ↦ ap done w.1
      | inr v ↦ elim v [
        | inl w ↦ ap done w.1
        | inr w ↦ ap done w.1
      ]
    ] in
    kept_adds c.args.effects.now.items c.args.effects.now.items _ c.expression.result c.keep_fault-in-Void.result c.keep_fault-in-Void.ensures
    (none_added c.args.effects.now.items _ none)

pub add_expression-returns-in-Void-clause-found : goal.add_expression-returns-in-Void-clause-found
add_expression-returns-in-Void-clause-found t c =
    kept_found _ c.expression.result c.keep_fault-in-Void.result c.keep_fault-in-Void.ensures c.expression.ensures

pub add_expression-returns-in_ok-found-in-Unary-clause-effects : goal.add_expression-returns-in_ok-found-in-Unary-clause-effects
add_expression-returns-in_ok-found-in-Unary-clause-effects t c =
    kept_adds c.args.effects.now.items c.add_expression.new.effects.items _ c.judge_behind_operand.result c.keep_fault.result c.keep_fault.ensures
    (c.in_ok-found-in-Unary.ensures.effects
    ∙ ap (λ (ds : List judging.Effect). map effect_of c.args.effects.now.items ++ ds)
    (effects_in_unary (routine_in c.args.routine.now) c.args.context (map entity_of c.args.names.now) c.operand_context-inside.result c.args.position (expr_of c.args.e.now)
    c.in-Unary.span c.in-Unary.operator (expr_of c.deref.result.now) (expr_of c.in-Unary.operand.value)
    (ap expr_of c.in-Unary.is ∙ expr_of-unary c.in-Unary.span c.in-Unary.operator c.in-Unary.operand) c.operand_context-inside.ensures (ap expr_of c.deref.ensures)))

pub add_expression-returns-in_ok-found-in-Unary-clause-found : goal.add_expression-returns-in_ok-found-in-Unary-clause-found
add_expression-returns-in_ok-found-in-Unary-clause-found t c =
    found_in_unary (routine_in c.args.routine.now) c.args.context (map entity_of c.args.names.now) c.operand_context-inside.result c.args.position (expr_of c.args.e.now)
    c.in-Unary.span c.in-Unary.operator (expr_of c.deref.result.now) (expr_of c.in-Unary.operand.value) (judged_in c.in_ok-found-in-Unary.found) c.judge_behind_operand.result c.keep_fault.result
    (ap expr_of c.in-Unary.is ∙ expr_of-unary c.in-Unary.span c.in-Unary.operator c.in-Unary.operand) c.operand_context-inside.ensures (ap expr_of c.deref.ensures)
    c.in_ok-found-in-Unary.ensures.found c.keep_fault.ensures c.judge_behind_operand.ensures

pub add_expression-returns-in_ok-right-in-Binary-clause-effects : goal.add_expression-returns-in_ok-right-in-Binary-clause-effects
add_expression-returns-in_ok-right-in-Binary-clause-effects t c =
    kept_adds c.args.effects.now.items c.add_expression-in-Binary-2.new.effects.items _ c.judge_behind_operands.result c.keep_fault-in-Binary.result c.keep_fault-in-Binary.ensures
    (added_two c.args.effects.now.items c.add_expression-in-Binary.new.effects.items c.add_expression-in-Binary-2.new.effects.items _ _
    c.in_ok-left-in-Binary.ensures.effects c.in_ok-right-in-Binary.ensures.effects
    ∙ ap (λ (ds : List judging.Effect). map effect_of c.args.effects.now.items ++ ds)
    (effects_in_binary (routine_in c.args.routine.now) c.args.context (map entity_of c.args.names.now) c.args.position c.operand_position-side.result (expr_of c.args.e.now)
    c.in-Binary.span c.in-Binary.operator (expr_of c.deref-in-Binary.result.now) (expr_of c.deref-in-Binary-2.result.now) (expr_of c.in-Binary.left.value) (expr_of c.in-Binary.right.value)
    c.requires (ap expr_of c.in-Binary.is ∙ expr_of-binary c.in-Binary.span c.in-Binary.operator c.in-Binary.left c.in-Binary.right)
    c.operand_position-side.ensures (ap expr_of c.deref-in-Binary.ensures) (ap expr_of c.deref-in-Binary-2.ensures)))

pub add_expression-returns-in_ok-tested-in-ObjectTest-clause-effects : goal.add_expression-returns-in_ok-tested-in-ObjectTest-clause-effects
add_expression-returns-in_ok-tested-in-ObjectTest-clause-effects t c =
    kept_adds c.args.effects.now.items c.add_expression-in-ObjectTest.new.effects.items _ c.judge_misplaced.result c.keep_fault-in-ObjectTest.result c.keep_fault-in-ObjectTest.ensures
    (c.in_ok-tested-in-ObjectTest.ensures.effects
    ∙ ap (λ (ds : List judging.Effect). map effect_of c.args.effects.now.items ++ ds)
    (effects_in_test (routine_in c.args.routine.now) c.args.context (map entity_of c.args.names.now) c.args.position (expr_of c.args.e.now)
    c.in-ObjectTest.span (type_if_any c.in-ObjectTest.declared) (expr_of c.deref-in-ObjectTest.result.now) (expr_of c.in-ObjectTest.tested.value) (name_of c.in-ObjectTest.field-3)
    (ap expr_of c.in-ObjectTest.is ∙ expr_of-object_test c.in-ObjectTest.span c.in-ObjectTest.declared c.in-ObjectTest.tested c.in-ObjectTest.field-3)
    (ap expr_of c.deref-in-ObjectTest.ensures)))
