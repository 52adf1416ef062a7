use Rattle.std.proofs.Common.{List, map, ap, ◌∙◌, ◌++◌}
use Rattle.sc_tree.specs.declared.declaration.Declaration.{Declaration}
use Rattle.sc_tree.specs.declared.instruction.Clause.{Clause}
use Rattle.sc_tree.specs.declared.instruction.Instr.{Instr}
use Rattle.sc_tree.specs.View.{clause_of, declaration_of, instrs_of}
use Rattle.sc_rules.specs.declared.fault.Fault.{Fault}
use Rattle.sc_rules.specs.Names.{formals_known}
use Rattle.sc_typing.specs.Views.{routine_in, entity_of}
use Rattle.sc_class.specs.SystemIn.{system_in}
use Rattle.sc_faults.specs.Internal.Listing.{faults_of_text}
use Rattle.sc_faults.proofs.Adding.{named_if_ok}
use Rattle.sc_faults.proofs.Steps.{text_added}
use Rattle.sc_faults.proofs.features.add_text.Goals as goal

pub returns : goal.returns
returns c =
    let h = routine_in c.args.routine.now in
    let declared = c.args.declared.now in
    let formals = formals_known (system_in c.args.routine.now.tables.now) (map declaration_of c.args.routine.now.formals.now) in
    let text : List Clause → List Declaration → List Instr → List Clause → List Fault =
    λ pre ds is post. faults_of_text h (map clause_of pre) (map declaration_of ds) (instrs_of is) (map clause_of post) in
    let pre = c.deref.result.now in
    let locals = c.deref-2.result.now in
    let body = c.deref-3.result.now in
    let post = c.deref-4.result.now in
    named_if_ok c.add_clauses-2.result c.args.faults.now.items c.add_clauses-2.new.faults.items (text pre locals body post)
    (text declared.precondition.items declared.locals.items declared.body.items declared.postcondition.items)
    (ap (λ pre. text pre locals body post) c.deref.ensures.value
    ∙ ap (λ ds. text declared.precondition.items ds body post) c.deref-2.ensures.value
    ∙ ap (λ is. text declared.precondition.items declared.locals.items is post) c.deref-3.ensures.value
    ∙ ap (text declared.precondition.items declared.locals.items declared.body.items) c.deref-4.ensures.value)
    (text_added h (map clause_of pre) (map clause_of post) (map declaration_of locals) (instrs_of body) c.add_clauses-2.result
    c.args.faults.now.items c.add_clauses.new.faults.items c.add_body.new.faults.items c.add_clauses-2.new.faults.items
    (map entity_of c.as_slice-known.result.now)
    (ap (map entity_of) c.as_slice-known.ensures.value ∙ c.in_ok-add_formals.ensures
    ∙ ap (λ es. map entity_of es ++ formals) c.new-names.ensures.items)
    c.in_ok-add_clauses.ensures c.in_ok-add_body.ensures c.add_clauses-2.ensures)
