use Rattle.std.proofs.Common.{◌++◌, length, map, refl, ap, sym, ◌∙◌}
use Rattle.std.specs.Option.{option_copied}
use Rattle.sc_tree.specs.View.{creation_call_of, variable_of}
use Rattle.sc_rules.specs.Names.{Entities}
use Rattle.sc_typing.specs.Views.{assignee_in, entity_of}
use Rattle.sc_model.specs.Instructions.{actuals_of, procedure_of}
use Rattle.sc_code.specs.Emitted.{assign_code}
use Rattle.sc_routines.specs.Settings.{setting_in}
use Rattle.sc_routines.proofs.Creations.{created}
use Rattle.sc_routines.proofs.instructions.creation.lower_creation.Goals as goal

pub returns-clause-code : goal.returns-clause-code
returns-clause-code c =
    let h = setting_in c.args.setting.now in
    let v = variable_of c.args.variable.now in
    created h (map entity_of c.args.names.now.items) (map entity_of c.deref.result.now) v c.args.code.now c.lower_actuals.new.code c.push_creation.new.code c.push_store.new.code
    (ap (map entity_of) c.deref.ensures.value ∙ c.in_ok-lowered.ensures.names)
    c.actuals_of-actuals.result.now (actuals_of (creation_call_of c.args.call.now)) (length c.actuals_of-actuals.result.now) c.in_ok-lowered.lowered.types.items c.deref-2.result.now
    (option_copied c.procedure_of.result) (procedure_of (creation_call_of c.args.call.now)) (assignee_in c.assignee_at.result) c.created_type-created.result
    c.actuals_of-actuals.ensures refl c.in_ok-lowered.ensures.types c.deref-2.ensures.value c.procedure_of.ensures c.assignee_at.ensures c.created_type-created.ensures
    c.in_ok-lowered.ensures.code c.in_ok-push_creation.ensures
    (c.in_ok-push_store.ensures ∙ ap (λ (m : Entities). c.push_creation.new.code ++ assign_code h m v) (ap (map entity_of) (c.deref-3.ensures.value ∙ sym c.deref.ensures.value)))
