use Rattle.std.proofs.Common.{ap, sym, ◌∙◌}
use Rattle.std.proofs.lemmas.Result.{err_from_is_err_and}
use Rattle.sc_typing.specs.Views.{routine_in, formals_in, types_in, typing_of}
use Rattle.sc_class.specs.SystemIn.{system_in}
use Rattle.sc_typing.proofs.Steps.{judged_from, actual_fails, actual_untaken, actual_unpassed, actual_passed}
use Rattle.std.proofs.Common.{◌+◌, drop}
use Rattle.sc_typing.proofs.routine_context.RoutineContext.judge_actuals.Goals as goal

pub returns-in_err-typing : goal.returns-in_err-typing
returns-in_err-typing c =
    let q = err_from_is_err_and c.from_residual-in_err-typing.result c.from_residual-in_err-typing.ensures.1 in
    rw (q.1, q.2) (actual_fails (routine_in c.args.self.now) c.args.context c.args.receiver c.args.target (types_in c.args.found.now) (formals_in (system_in c.args.self.now.tables.now) c.args.formals) c.args.found.now c.loop-number.number _ c.loop-number.is_separate _
    c.loop-number-test.true c.loop-number.invariant _ c.in_err-typing.ensures)

pub returns-in_err-required : goal.returns-in_err-required
returns-in_err-required c =
    let q = err_from_is_err_and c.from_residual-in_err-required.result c.from_residual-in_err-required.ensures.1 in
    rw (q.1, q.2) (actual_untaken (routine_in c.args.self.now) c.args.context c.args.receiver c.args.target (types_in c.args.found.now) (formals_in (system_in c.args.self.now.tables.now) c.args.formals) c.args.found.now c.loop-number.number _ c.loop-number.is_separate _
    c.loop-number-test.true c.loop-number.invariant (typing_of c.in_ok-typing.typing) c.in_ok-typing.ensures
    c.is_taken-is_taken.result _ c.is_taken-is_taken.ensures c.in_err-required.ensures)

pub returns-in_err-required-2 : goal.returns-in_err-required-2
returns-in_err-required-2 c =
    let q = err_from_is_err_and c.from_residual-in_err-required-2.result c.from_residual-in_err-required-2.ensures.1 in
    rw (q.1, q.2) (actual_unpassed (routine_in c.args.self.now) c.args.context c.args.receiver c.args.target (types_in c.args.found.now) (formals_in (system_in c.args.self.now.tables.now) c.args.formals) c.args.found.now c.loop-number.number _ c.loop-number.is_separate _
    c.loop-number-test.true c.loop-number.invariant (typing_of c.in_ok-typing.typing) c.in_ok-typing.ensures
    c.is_taken-is_taken.result c.is_taken-is_taken.ensures c.in_ok-required.ensures c.may_pass-may_pass.result _ c.may_pass-may_pass.ensures c.in_err-required-2.ensures)

pub loop-number-preserved : goal.loop-number-preserved
loop-number-preserved c =
    actual_passed (routine_in c.args.self.now) c.args.context c.args.receiver c.args.target (types_in c.args.found.now) (formals_in (system_in c.args.self.now.tables.now) c.args.formals) c.args.found.now c.loop-number.number _ c.loop-number.is_separate _
    c.loop-number-test.true c.loop-number.invariant (typing_of c.in_ok-typing.typing) c.in_ok-typing.ensures
    c.is_taken-is_taken.result c.is_taken-is_taken.ensures c.in_ok-required.ensures c.may_pass-may_pass.result c.may_pass-may_pass.ensures c.in_ok-required-2.ensures
    ∙ ap (λ b. judged_from (routine_in c.args.self.now) c.args.context c.args.receiver c.args.target (types_in c.args.found.now) b (drop (c.loop-number.number + 1) (formals_in (system_in c.args.self.now.tables.now) c.args.formals)) (drop (c.loop-number.number + 1) c.args.found.now))
    (sym c.is_either_separate-is_separate.ensures)
