use Rattle.std.proofs.Common.{length, refl}
use Rattle.std.proofs.lemmas.Result.{err_from_is_err_and}
use Rattle.sc_tree.specs.View.{target_of}
use Rattle.sc_typing.specs.Views.{routine_in, formals_in, meaning_in, typing_of}
use Rattle.sc_class.specs.SystemIn.{system_in}
use Rattle.sc_typing.proofs.Steps.{meant_fails, meant_misnamed, meant_done}
use Rattle.sc_typing.proofs.routine_context.RoutineContext.judge_actuals_and_name.Goals as goal

pub returns-in_err-is_separate : goal.returns-in_err-is_separate
returns-in_err-is_separate c =
    let s = system_in c.args.self.now.tables.now in
    let q = err_from_is_err_and c.from_residual.result c.from_residual.ensures.1 in
    rw (q.1, q.2) (meant_fails (routine_in c.args.self.now) c.args.site.now.context c.args.site.now.usage (target_of c.args.site.now.target.now) (meaning_in s c.args.meaning.now) c.args.site.now.span c.args.found.now (typing_of c.args.receiver) c.target_of.result (formals_in s c.formals_of.result)
    (c.target_of.ensures s) (c.formals_of.ensures s) _ c.in_err-is_separate.ensures)

pub returns-in_err-entity_type : goal.returns-in_err-entity_type
returns-in_err-entity_type c =
    let s = system_in c.args.self.now.tables.now in
    let q = err_from_is_err_and c.from_residual-in_err-entity_type.result c.from_residual-in_err-entity_type.ensures.1 in
    rw (q.1, q.2) (meant_misnamed (routine_in c.args.self.now) c.args.site.now.context c.args.site.now.usage (target_of c.args.site.now.target.now) (meaning_in s c.args.meaning.now) c.args.site.now.span c.args.found.now (typing_of c.args.receiver) c.target_of.result (formals_in s c.formals_of.result)
    (c.target_of.ensures s) (c.formals_of.ensures s) _ c.in_ok-is_separate.ensures (length c.args.found.now) refl _ c.in_err-entity_type.ensures)

pub returns : goal.returns
returns c =
    let s = system_in c.args.self.now.tables.now in
    meant_done (routine_in c.args.self.now) c.args.site.now.context c.args.site.now.usage (target_of c.args.site.now.target.now) (meaning_in s c.args.meaning.now) c.args.site.now.span c.args.found.now (typing_of c.args.receiver) c.target_of.result (formals_in s c.formals_of.result)
    (c.target_of.ensures s) (c.formals_of.ensures s) _ c.in_ok-is_separate.ensures (length c.args.found.now) refl _ _ c.in_ok-entity_type.ensures c.is_either_separate.ensures
