use Rattle.std.proofs.Common.{map, ap, ◌∙◌, ◌++◌}
use Rattle.sc_tree.specs.View.{declaration_of, instrs_of}
use Rattle.sc_rules.specs.Names.{locals_known}
use Rattle.sc_typing.specs.Views.{routine_in, entity_of}
use Rattle.sc_class.specs.SystemIn.{system_in}
use Rattle.sc_faults.proofs.Steps.{body_added}
use Rattle.sc_faults.proofs.features.add_body.Goals as goal

pub returns : goal.returns
returns c =
    let s = system_in c.args.routine.now.tables.now in
    let ds = map declaration_of c.args.routine.now.formals.now in
    let locals = map declaration_of c.args.locals.now in
    body_added (routine_in c.args.routine.now) (map entity_of c.args.names.now) (map entity_of c.deref.result.now) locals
    (instrs_of c.args.body.now) c.add_instructions.result c.args.faults.now.items c.add_types.new.faults.items
    c.add_instructions.new.faults.items
    (ap (map entity_of) c.deref.ensures.value ∙ c.in_ok-add_locals.ensures
    ∙ ap (λ es. map entity_of es ++ locals_known s ds locals) c.in_ok-known.ensures.items)
    c.in_ok-add_types.ensures c.add_instructions.ensures
