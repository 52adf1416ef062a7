use Rattle.std.proofs.Common.{◌+◌, refl, ◌∙◌, ap, sym, List, [], Ok, arith}
use Rattle.std.proofs.lemmas.Result.{err_from_is_err_and}
use Rattle.sc_tree.proofs.ReadingSteps.{bind_ok, choose_false}
use Rattle.sc_tree.proofs.ViewLemmas.{expr_of-current, expr_of-result, expr_of-call, expr_of-object_test}
use Rattle.sc_parse.proofs.Views.{exprs_of-push}
use Rattle.std.specs.declared.boxed.Box.{Box}
use Rattle.std.specs.declared.alloc.Global.{Global}
use Rattle.sc_tree.specs.declared.expression.Expr.{Expr}
use Rattle.sc_text.specs.declared.token.Span.{Span}
use Rattle.sc_tree.specs.Plain as plain
use Rattle.sc_tree.specs.View.{exprs_of}
use Rattle.sc_parse.specs.Reading.Expressions.{nested, actuals}
use Rattle.sc_parse.specs.Reading.Reads.{ahead, name_in, type_if_any_in, expr_in, exprs_in, target_in}
use Rattle.sc_parse.proofs.Faults.{Fails-along, Fails-bind, Reads-along}
use Rattle.sc_parse.proofs.Levels.{free_of_no_class, stays, reaches, fails_higher}
use Rattle.sc_parse.proofs.Turns.{expr_zero, operators_end, operators_begin, operators_deep, operators_fail, operators_done, operators_more, calls_begin, calls_fail, calls_more, chain_current, chain_result, chain_fail, chain_dots, exprs_begin, exprs_more, exprs_none, exprs_fail, exprs_end, calls_none, calls_end}
use Rattle.sc_parse.proofs.Parts.{object_test_read}
use Rattle.sc_parse.proofs.Steps.{calling_is, actuals_read, primary_constant, primary_otherwise, primary_parenthesis, primary_test, primary_chain, closed, parenthesized_is, parenthesized_read}
use Rattle.sc_parse.proofs.cursor.Parser.+expression.Goals as goal

-- ---- levels

pub expr-returns-in_err-first-clause-read : goal.expr-returns-in_err-first-clause-read
expr-returns-in_err-first-clause-read t c =
    let ts = ahead c.args.self.now in
    let p = err_from_is_err_and c.from_residual.result c.from_residual.ensures.1 in
    rw (p.1, p.2)
    (fails_higher c.args.room 0 c.args.class ts c.in_err-first.field-0.0 (omega arith)
    (Fails-along _ _ c.in_err-first.field-0.0 (expr_zero c.args.room 0 ts refl) c.in_err-first.ensures.read))

pub expr-returns-clause-read : goal.expr-returns-clause-read
expr-returns-clause-read t c =
    let ts = ahead c.args.self.now in
    c.operators_up_to.ensures.read ts (expr_zero c.args.room 0 ts refl ∙ c.in_ok-first.ensures.read)

pub operators_up_to-returns-in_default-clause-read : goal.operators_up_to-returns-in_default-clause-read
operators_up_to-returns-in_default-clause-read t c =
    λ ts given. stays c.args.room c.args.least c.args.class ts _ _ _ c.requires.ordered given (free_of_no_class c.next_class.result _ _ c.next_class.ensures c.in_default.not-Some)

pub operators_up_to-returns-in_err-left-clause-read : goal.operators_up_to-returns-in_err-left-clause-read
operators_up_to-returns-in_err-left-clause-read t c =
    λ ts given.
    let p = err_from_is_err_and c.from_residual.result c.from_residual.ensures.1 in
    rw (p.1, p.2)
    (fails_higher c.args.room (c.in-Some.below + 1) c.args.class ts c.in_err-left.field-0.0 (omega (arith, c.in-Some.ensures.1))
    (Fails-along _ _ c.in_err-left.field-0.0 (reaches c.args.room c.args.least c.in-Some.below ts _ _ _ c.in-Some.ensures.0 given c.in-Some.ensures.2) c.in_err-left.ensures.read))

pub operators_up_to-returns-clause-read : goal.operators_up_to-returns-clause-read
operators_up_to-returns-clause-read t c =
    λ ts given. c.operators_up_to.ensures.read ts
    (reaches c.args.room c.args.least c.in-Some.below ts _ _ _ c.in-Some.ensures.0 given c.in-Some.ensures.2 ∙ c.in_ok-left.ensures.read)

-- ---- operators

pub operators-loop-turn-init : goal.operators-loop-turn-init
operators-loop-turn-init t c = record { high = c.requires; same = operators_begin _ _ _ _ _ _ }

pub operators-returns-in_err-right-clause-read : goal.operators-returns-in_err-right-clause-read
operators-returns-in_err-right-clause-read t c =
    let p = err_from_is_err_and c.from_residual.result c.from_residual.ensures.1 in
    rw (p.1, p.2)
    (operators_fail (nested c.args.room) c.args.room c.args.class _ c.loop-turn._turn (expr_in c.loop-turn.left) c.loop-turn.height (ahead c.loop-turn.self) _ c.loop-turn.invariant.same
    _ _ _ c.loop-turn-test.true c.operator.ensures c.in-Some.is c.if-room-height.false c.take_operator.ensures c.in_err-right.field-0.0 c.in_err-right.ensures.read)

pub operators-returns-then-room-height-clause-read : goal.operators-returns-then-room-height-clause-read
operators-returns-then-room-height-clause-read t c =
    sym c.loop-turn.invariant.same
    ∙ operators_deep (nested c.args.room) c.args.room c.args.class _ c.loop-turn._turn (expr_in c.loop-turn.left) c.loop-turn.height (ahead c.loop-turn.self) _ _
    c.loop-turn-test.true c.operator.ensures c.in-Some.is c.if-room-height.true

pub operators-returns-then-not-is_grouped-clause-read : goal.operators-returns-then-not-is_grouped-clause-read
operators-returns-then-not-is_grouped-clause-read t c =
    operators_done (nested c.args.room) c.args.room c.args.class _ c.loop-turn._turn (expr_in c.loop-turn.left) c.loop-turn.height (ahead c.loop-turn.self) _ c.loop-turn.invariant.same
    _ _ _ c.loop-turn-test.true c.operator.ensures c.in-Some.is c.if-room-height.false c.take_operator.ensures _ _ _ _ _ _ c.in_ok-right.ensures.read c.is_grouped.ensures c.if-not-is_grouped.true
    c.in_ok-left.ensures
    c.deeper-height.ensures

pub operators-loop-turn-preserved : goal.operators-loop-turn-preserved
operators-loop-turn-preserved t c = record {
  high = omega (arith, c.deeper-height.ensures, c.in_ok-right.ensures.high, c.if-room-height.false);
  same = operators_more (nested c.args.room) c.args.room c.args.class _ c.loop-turn._turn (expr_in c.loop-turn.left) c.loop-turn.height (ahead c.loop-turn.self) _ c.loop-turn.invariant.same
      _ _ _ c.loop-turn-test.true c.operator.ensures c.in-Some.is c.if-room-height.false c.take_operator.ensures _ _ _ _ _ _ c.in_ok-right.ensures.read c.is_grouped.ensures c.if-not-is_grouped.false
      c.in_ok-left.ensures c.deeper-height.ensures;
}

-- ---- primaries

pub primary-returns-in-Some-clause-read : goal.primary-returns-in-Some-clause-read
primary-returns-in-Some-clause-read t c = primary_constant (nested c.args.room) c.args.room (ahead c.args.self.now) _ _ c.in-Some.ensures c.take.ensures.past

pub primary-returns-in_err-inner-clause-read : goal.primary-returns-in_err-inner-clause-read
primary-returns-in_err-inner-clause-read t c =
    let ts = ahead c.args.self.now in
    let p = err_from_is_err_and c.from_residual.result c.from_residual.ensures.1 in
    rw (p.1, p.2)
    (Fails-along _ _ c.in_err-inner.field-0.0
    (primary_parenthesis (nested c.args.room) c.args.room ts (primary_otherwise (nested c.args.room) c.args.room ts c.constant.result _ c.constant.ensures c.in_default.not-Some) _ c.sees.ensures _ c.if-sees.true c.take-then-sees.ensures.past
    ∙ parenthesized_is (nested c.args.room) _)
    (Fails-bind _ _ c.in_err-inner.field-0.0 c.in_err-inner.ensures.read))

pub primary-returns-in_err-closed-clause-read : goal.primary-returns-in_err-closed-clause-read
primary-returns-in_err-closed-clause-read t c =
    let ts = ahead c.args.self.now in
    let p = err_from_is_err_and c.from_residual-in_err-closed.result c.from_residual-in_err-closed.ensures.1 in
    rw (p.1, p.2)
    (Fails-along _ _ c.in_err-closed.field-0.0
    (primary_parenthesis (nested c.args.room) c.args.room ts (primary_otherwise (nested c.args.room) c.args.room ts c.constant.result _ c.constant.ensures c.in_default.not-Some) _ c.sees.ensures _ c.if-sees.true c.take-then-sees.ensures.past
    ∙ parenthesized_is (nested c.args.room) _ ∙ bind_ok _ _ closed c.in_ok-inner.ensures.read)
    (Fails-bind _ _ c.in_err-closed.field-0.0 c.in_err-closed.ensures.read))

pub primary-returns-then-sees-clause-read : goal.primary-returns-then-sees-clause-read
primary-returns-then-sees-clause-read t c =
    let ts = ahead c.args.self.now in
    primary_parenthesis (nested c.args.room) c.args.room ts (primary_otherwise (nested c.args.room) c.args.room ts c.constant.result _ c.constant.ensures c.in_default.not-Some) _ c.sees.ensures _ c.if-sees.true c.take-then-sees.ensures.past
    ∙ parenthesized_read (nested c.args.room) _ _ _ _ _ _ c.in_ok-inner.ensures.read c.in_ok-closed.ensures.read (ap (λ (e : Expr). expr_in e) c.in_ok-closed.ensures.same)

pub primary-returns-then-sees-2-clause-read : goal.primary-returns-then-sees-2-clause-read
primary-returns-then-sees-2-clause-read t c =
    let ts = ahead c.args.self.now in
    Reads-along expr_in _ _ c.object_test.result _
    (primary_test (nested c.args.room) c.args.room ts (primary_otherwise (nested c.args.room) c.args.room ts c.constant.result _ c.constant.ensures c.in_default.not-Some) _ c.sees.ensures c.if-sees.false _ c.sees-2.ensures _ c.if-sees-2.true
    c.take-then-sees-2.ensures.past)
    c.object_test.ensures.read

pub primary-returns-clause-read : goal.primary-returns-clause-read
primary-returns-clause-read t c =
    let ts = ahead c.args.self.now in
    Reads-along expr_in _ _ c.chain.result _
    (primary_chain (nested c.args.room) c.args.room ts (primary_otherwise (nested c.args.room) c.args.room ts c.constant.result _ c.constant.ensures c.in_default.not-Some) _ c.sees.ensures c.if-sees.false _ c.sees-2.ensures c.if-sees-2.false)
    c.chain.ensures.read

-- ---- calls

pub calls-loop-turn-init : goal.calls-loop-turn-init
calls-loop-turn-init t c = record { high = c.requires; same = calls_begin _ _ _ _ _ }

pub calls-returns-in_err-call-clause-read : goal.calls-returns-in_err-call-clause-read
calls-returns-in_err-call-clause-read t c =
    let p = err_from_is_err_and c.from_residual-in_err-call.result c.from_residual-in_err-call.ensures.1 in
    rw (p.1, p.2)
    (calls_fail (nested c.args.room) c.args.room _ c.loop-turn._turn (expr_in c.loop-turn.chain) c.loop-turn.height (ahead c.loop-turn.self) _ c.loop-turn.invariant.same
    _ _ _ c.loop-turn-test.true c.sees.ensures c.if-not-sees.false c.if-room-height.false c.take.ensures.past
    (ap (λ (e : Expr). plain.target (expr_in e)) c.in_ok-target.ensures.ok) _ (ap (λ (s : Span). s.start) c.span-start.ensures) c.in_err-call.field-0.0 c.in_err-call.ensures.read)

pub calls-loop-turn-preserved : goal.calls-loop-turn-preserved
calls-loop-turn-preserved t c = record {
  high = omega (arith, c.deeper-height.ensures, c.in_ok-call.ensures.high, c.if-room-height.false);
  same = calls_more (nested c.args.room) c.args.room _ c.loop-turn._turn (expr_in c.loop-turn.chain) c.loop-turn.height (ahead c.loop-turn.self) _ c.loop-turn.invariant.same
      _ _ _ c.loop-turn-test.true c.sees.ensures c.if-not-sees.false c.if-room-height.false c.take.ensures.past
      (ap (λ (e : Expr). plain.target (expr_in e)) c.in_ok-target.ensures.ok) _ (ap (λ (s : Span). s.start) c.span-start.ensures) _ _ _ _ c.in_ok-call.ensures.read c.deeper-height.ensures;
}

pub calling-returns-clause-read : goal.calling-returns-clause-read
calling-returns-clause-read t c =
    calling_is (nested c.args.room) c.args.start (target_in c.args.target) (ahead c.args.self.now) _ _ _ _ _ _ c.in_ok-name.ensures c.in_ok-actuals.ensures.read
    (expr_of-call _ ∙ ap (λ (s : Span). plain.Call s (target_in c.args.target) (name_in c.in_ok-name.name) (exprs_in c.in_ok-actuals.actuals)) c.span_from.ensures)

-- ---- chains

pub chain-returns-then-sees-clause-read : goal.chain-returns-then-sees-clause-read
chain-returns-then-sees-clause-read t c =
    Reads-along expr_in _ _ c.calls.result _
    (chain_current (nested c.args.room) c.args.room (ahead c.args.self.now) _ c.sees.ensures _ _ c.if-sees.true c.take.ensures.past (expr_of-current _)) c.calls.ensures.read

pub chain-returns-then-sees-2-clause-read : goal.chain-returns-then-sees-2-clause-read
chain-returns-then-sees-2-clause-read t c =
    Reads-along expr_in _ _ c.calls-then-sees-2.result _
    (chain_result (nested c.args.room) c.args.room (ahead c.args.self.now) _ c.sees.ensures c.if-sees.false _ c.sees-2.ensures _ _ c.if-sees-2.true c.take-then-sees-2.ensures.past (expr_of-result _))
    c.calls-then-sees-2.ensures.read

pub chain-returns-in_err-head-clause-read : goal.chain-returns-in_err-head-clause-read
chain-returns-in_err-head-clause-read t c =
    let p = err_from_is_err_and c.from_residual.result c.from_residual.ensures.1 in
    rw (p.1, p.2)
    (chain_fail (nested c.args.room) c.args.room (ahead c.args.self.now) _ c.sees.ensures c.if-sees.false _ c.sees-2.ensures _ _ c.if-sees-2.false c.next_start-start.ensures refl c.in_err-head.field-0.0
    c.in_err-head.ensures.read)

pub chain-returns-clause-read : goal.chain-returns-clause-read
chain-returns-clause-read t c =
    Reads-along expr_in _ _ c.calls-2.result _
    (chain_dots (nested c.args.room) c.args.room (ahead c.args.self.now) _ c.sees.ensures c.if-sees.false _ c.sees-2.ensures _ _ c.if-sees-2.false c.next_start-start.ensures refl _ _ _ c.in_ok-head.ensures.read)
    c.calls-2.ensures.read

pub object_test-returns-clause-read : goal.object_test-returns-clause-read
object_test-returns-clause-read t c =
    object_test_read (nested c.args.room) c.args.room (ahead c.args.self.now) _ _ _ _ _ _ _ _ c.in_ok-declared.ensures c.in_ok-chain.ensures.read c.in_ok-tested.ensures.read
    (expr_of-object_test c.span_from-span.result c.in_ok-declared.declared c.in_ok-tested.tested c.in_ok-tested.name
    ∙ ap (λ (b : Box Expr Global). plain.ObjectTest c.span_from-span.result (type_if_any_in c.in_ok-declared.declared) (expr_in b.value) (name_in c.in_ok-tested.name)) c.in_ok-tested.ensures.same
    ∙ ap (λ (e : Expr). plain.ObjectTest c.span_from-span.result (type_if_any_in c.in_ok-declared.declared) (expr_in e) (name_in c.in_ok-tested.name)) c.in_ok-boxed.ensures.ok
    ∙ ap (λ (s : Span). plain.ObjectTest s (type_if_any_in c.in_ok-declared.declared) (expr_in c.in_ok-chain.chain) (name_in c.in_ok-tested.name)) c.span_from-span.ensures)

-- ---- actuals

pub actuals-returns-clause-read : goal.actuals-returns-clause-read
actuals-returns-clause-read t c =
    actuals_read (nested c.args.room) (ahead c.args.self.now) _ _ _ _ _ _ _ c.sees.ensures c.if-not-sees.false c.take.ensures.past c.in_ok-exprs.ensures.read c.in_ok-actuals.ensures.read
    (ap (λ (es : _). exprs_in es) c.in_ok-actuals.ensures.same)

pub actuals-returns-then-not-sees-clause-read : goal.actuals-returns-then-not-sees-clause-read
unfolding actuals
actuals-returns-then-not-sees-clause-read t c =
    choose_false _ _ _ (sym c.sees.ensures ∙ c.if-not-sees.true) ∙ ap (λ (es : plain.Exprs). Ok (es, 0, ahead c.args.self.now)) (sym (ap exprs_of c.new.ensures.items))

pub exprs-loop-turn-init : goal.exprs-loop-turn-init
exprs-loop-turn-init t c = record {
  high = c.in_ok-first.ensures.high;
  same = exprs_begin (nested c.args.room) (ahead c.args.self.now) _ _ _ _ c.in_ok-first.ensures.read
      (ap (λ (es : List Expr). exprs_of es) c.in_ok-found.ensures ∙ exprs_of-push [] c.in_ok-first.first);
}

pub exprs-loop-turn-preserved : goal.exprs-loop-turn-preserved
exprs-loop-turn-preserved t c = record {
  high = omega (arith, c.deeper-height.ensures, c.in_ok-expr.ensures.high, c.loop-turn.invariant.high);
  same = exprs_more (nested c.args.room) _ c.loop-turn._turn (exprs_in c.loop-turn.found) c.loop-turn.height (ahead c.loop-turn.self) _ _ _ _ _ _ _ c.loop-turn-test.true c.sees.ensures c.if-not-sees.false
      c.take.ensures.past c.in_ok-expr.ensures.read (ap (λ (es : List Expr). exprs_of es) c.in_ok-found-2.ensures ∙ exprs_of-push _ _) c.deeper-height.ensures
      ∙ c.loop-turn.invariant.same;
}

pub exprs-returns-then-not-sees-clause-read : goal.exprs-returns-then-not-sees-clause-read
exprs-returns-then-not-sees-clause-read t c =
    sym c.loop-turn.invariant.same
    ∙ exprs_none (nested c.args.room) _ c.loop-turn._turn (exprs_in c.loop-turn.found) c.loop-turn.height (ahead c.loop-turn.self) _ c.loop-turn-test.true c.sees.ensures c.if-not-sees.true
    ∙ ap (λ (es : plain.Exprs). Ok (es, c.loop-turn.height, ahead c.loop-turn.self)) (sym (ap exprs_of c.fitted.ensures))

pub exprs-returns-in_err-expr-clause-read : goal.exprs-returns-in_err-expr-clause-read
exprs-returns-in_err-expr-clause-read t c =
    let p = err_from_is_err_and c.from_residual-in_err-expr.result c.from_residual-in_err-expr.ensures.1 in
    rw (p.1, p.2)
    (Fails-along _ _ c.in_err-expr.field-0.0 (sym c.loop-turn.invariant.same)
    (exprs_fail (nested c.args.room) _ c.loop-turn._turn (exprs_in c.loop-turn.found) c.loop-turn.height (ahead c.loop-turn.self) _ _ c.in_err-expr.field-0.0
    c.loop-turn-test.true c.sees.ensures c.if-not-sees.false c.take.ensures.past c.in_err-expr.ensures.read))

pub exprs-returns-clause-read : goal.exprs-returns-clause-read
exprs-returns-clause-read t c =
    sym c.loop-turn.invariant.same ∙ exprs_end (nested c.args.room) _ c.loop-turn._turn (exprs_in c.loop-turn.found) c.loop-turn.height (ahead c.loop-turn.self) c.loop-turn-test.false

pub calls-returns-then-not-sees-clause-read : goal.calls-returns-then-not-sees-clause-read
calls-returns-then-not-sees-clause-read t c =
    sym c.loop-turn.invariant.same
    ∙ calls_none (nested c.args.room) c.args.room _ c.loop-turn._turn (expr_in c.loop-turn.chain) c.loop-turn.height (ahead c.loop-turn.self) _ c.loop-turn-test.true c.sees.ensures c.if-not-sees.true

pub calls-returns-clause-read : goal.calls-returns-clause-read
calls-returns-clause-read t c =
    sym c.loop-turn.invariant.same ∙ calls_end (nested c.args.room) c.args.room _ c.loop-turn._turn (expr_in c.loop-turn.chain) c.loop-turn.height (ahead c.loop-turn.self) c.loop-turn-test.false

pub operators-returns-clause-read : goal.operators-returns-clause-read
operators-returns-clause-read t c =
    sym c.loop-turn.invariant.same
    ∙ operators_end (nested c.args.room) c.args.room c.args.class _ c.loop-turn._turn (expr_in c.loop-turn.left) c.loop-turn.height (ahead c.loop-turn.self) c.loop-turn-test.false
