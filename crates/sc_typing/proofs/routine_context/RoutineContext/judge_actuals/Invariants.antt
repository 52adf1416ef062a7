use Rattle.std.proofs.Common.{◌≡◌, false, drop, map}
use Rattle.sc_rules.specs.Judging.{judge_actuals}
use Rattle.sc_typing.specs.Views.{routine_in, formals_in, actual_in, types_in}
use Rattle.sc_class.specs.SystemIn.{system_in}
use Rattle.sc_typing.specs.Judges.{any_separate}
use Rattle.sc_typing.proofs.routine_context.RoutineContext.judge_actuals.Given as goal

abbrev pub invariant-loop-number : goal.invariant-loop-number
invariant-loop-number l =
    any_separate false (judge_actuals (routine_in l.fn.self) l.fn.context l.fn.receiver l.fn.target (types_in l.fn.found) (formals_in (system_in l.fn.self.tables.now) l.fn.formals) (map actual_in l.fn.found))
    ≡ any_separate l.is_separate (judge_actuals (routine_in l.fn.self) l.fn.context l.fn.receiver l.fn.target (types_in l.fn.found) (drop l.number (formals_in (system_in l.fn.self.tables.now) l.fn.formals)) (map actual_in (drop l.number l.fn.found)))
