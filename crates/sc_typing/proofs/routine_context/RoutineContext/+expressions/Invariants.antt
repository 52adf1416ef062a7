use Rattle.std.proofs.Common.{◌≡◌, ◌++◌, drop, map}
use Rattle.sc_tree.specs.View.{exprs_of}
use Rattle.sc_rules.specs.Judging as judging
use Rattle.sc_typing.specs.Views.{routine_in, entity_of, actual_in}
use Rattle.sc_typing.proofs.routine_context.RoutineContext.+expressions.Given as goal

abbrev pub invariant-judged_actuals-loop-actual : goal.invariant-judged_actuals-loop-actual
invariant-judged_actuals-loop-actual l =
    map actual_in l.found.items ++ judging.judged_actuals (routine_in l.fn.self) l.fn.context (map entity_of l.fn.names) (exprs_of (drop l.actual-index l.fn.actuals))
    ≡ judging.judged_actuals (routine_in l.fn.self) l.fn.context (map entity_of l.fn.names) (exprs_of l.fn.actuals)
