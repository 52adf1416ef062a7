use Rattle.std.proofs.Common.{◌≡◌, ◌++◌, drop, map}
use Rattle.sc_tree.specs.View.{exprs_of}
use Rattle.sc_class.specs.SystemIn.{system_in}
use Rattle.sc_typing.specs.Views.{routine_in, entity_of, formals_in, types_in}
use Rattle.sc_faults.specs.Internal.Listing.{judge_passed, faults_in_actuals}
use Rattle.sc_faults.proofs.expressions.+expressions.Given as goal

abbrev pub invariant-add_actuals-loop-number : goal.invariant-add_actuals-loop-number
invariant-add_actuals-loop-number l =
    l.fn.faults.items ++ faults_in_actuals (routine_in l.routine) l.context (map entity_of l.names)
    (judge_passed (routine_in l.routine) l.context l.passing.receiver l.passing.target (types_in l.passing.found.now))
    (formals_in (system_in l.routine.tables.now) l.passing.formals) (exprs_of l.actuals)
    ≡ l.faults.items ++ faults_in_actuals (routine_in l.routine) l.context (map entity_of l.names)
    (judge_passed (routine_in l.routine) l.context l.passing.receiver l.passing.target (types_in l.passing.found.now))
    (drop l.number (formals_in (system_in l.routine.tables.now) l.passing.formals)) (exprs_of (drop l.number l.actuals))
