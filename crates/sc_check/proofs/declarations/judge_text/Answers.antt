use Rattle.std.proofs.Common.{map, ap, sym, ◌∙◌, ◌++◌, arith}
use Rattle.std.proofs.lemmas.Result.{err_from_is_err_and}
use Rattle.sc_tree.specs.View.{clause_of, declaration_of, instrs_of}
use Rattle.sc_rules.specs.Names.{formals_known, locals_known}
use Rattle.sc_typing.specs.Views.{routine_in, entity_of}
use Rattle.sc_class.specs.SystemIn.{system_in}
use Rattle.sc_check.proofs.DeclarationSteps.{body_fails, had_out, text_passes}
use Rattle.sc_check.proofs.declarations.judge_text.Goals as goal

pub returns-in_err-judge_instructions : goal.returns-in_err-judge_instructions
returns-in_err-judge_instructions c =
    let formals = formals_known (system_in c.args.routine.now.tables.now) (map declaration_of c.args.routine.now.formals.now) in
    let locals = locals_known (system_in c.args.routine.now.tables.now) (map declaration_of c.args.routine.now.formals.now) (map declaration_of c.args.locals.now) in
    let q = err_from_is_err_and c.from_residual-in_err-judge_instructions.result c.from_residual-in_err-judge_instructions.ensures.1 in
    rw (q.1, q.2) (body_fails (routine_in c.args.routine.now)
    (map clause_of c.args.precondition.now) (map declaration_of c.args.locals.now) (instrs_of c.args.body.now) (map clause_of c.args.postcondition.now)
    (map entity_of c.deref.result.now) (map entity_of c.add_locals.new.names.items)
    (ap (map entity_of) c.deref.ensures.value ∙ c.in_ok-add_formals.ensures ∙ ap (λ es. map entity_of es ++ formals) c.new-names.ensures.items)
    c.in_ok-judge_clauses.ensures c.in_ok-judge_declarations.ensures
    (c.in_ok-add_locals.ensures ∙ ap (λ es. map entity_of es ++ locals) (sym c.deref.ensures.value))
    _ c.in_err-judge_instructions.ensures.judged)

-- behind the body the formals alone are known again
pub returns : goal.returns
returns c =
    let formals = formals_known (system_in c.args.routine.now.tables.now) (map declaration_of c.args.routine.now.formals.now) in
    let locals = locals_known (system_in c.args.routine.now.tables.now) (map declaration_of c.args.routine.now.formals.now) (map declaration_of c.args.locals.now) in
    text_passes (routine_in c.args.routine.now)
    (map clause_of c.args.precondition.now) (map declaration_of c.args.locals.now) (instrs_of c.args.body.now) (map clause_of c.args.postcondition.now)
    (map entity_of c.deref.result.now) (map entity_of c.add_locals.new.names.items)
    (ap (map entity_of) c.deref.ensures.value ∙ c.in_ok-add_formals.ensures ∙ ap (λ es. map entity_of es ++ formals) c.new-names.ensures.items)
    c.in_ok-judge_clauses.ensures c.in_ok-judge_declarations.ensures
    (c.in_ok-add_locals.ensures ∙ ap (λ es. map entity_of es ++ locals) (sym c.deref.ensures.value))
    (map entity_of c.deref-2.result.now) c.judge_clauses-2.result
    (ap (map entity_of) c.deref-2.ensures.value
    ∙ had_out c.add_formals.new.names.items c.judge_instructions.new.names.items c.truncate.new.self.items c.len-known.result locals
    (omega (arith, c.len-known.ensures, c.add_formals.new.names.ok.0)) (c.in_ok-judge_instructions.ensures.kept ∙ c.in_ok-add_locals.ensures)
    c.truncate.ensures.items
    ∙ sym (ap (map entity_of) c.deref.ensures.value))
    c.in_ok-judge_instructions.ensures.judged c.judge_clauses-2.ensures
