use Rattle.std.proofs.Common.{map}
use Rattle.std.proofs.lemmas.Result.{err_from_is_err_and}
use Rattle.sc_tree.specs.View.{name_of}
use Rattle.sc_typing.specs.Views.{routine_in, entity_of, meaning_in}
use Rattle.sc_class.specs.SystemIn.{system_in}
use Rattle.sc_check.proofs.CreationSteps.{creation_fails}
use Rattle.sc_check.proofs.instructions.creation.judge_creation_call.Goals as goal

pub returns-in_err-judge_actuals_and_name : goal.returns-in_err-judge_actuals_and_name
returns-in_err-judge_actuals_and_name c =
    let q = err_from_is_err_and c.from_residual-in_err-judge_actuals_and_name.result c.from_residual-in_err-judge_actuals_and_name.ensures.1 in
    rw (q.1, q.2) (creation_fails (routine_in c.args.routine.now) (map entity_of c.args.names.now) c.args.created (name_of c.args.call.now.name) c.args.call.now.actuals.items c.deref.result.now c.in_ok-found.found.items c.deref-2.result.now
    (meaning_in (system_in c.args.routine.now.tables.now) c.creation_meaning-meaning.result) _ c.creation_meaning-meaning.ensures c.deref.ensures.value c.in_ok-found.ensures c.deref-2.ensures.value c.in_err-judge_actuals_and_name.ensures)
