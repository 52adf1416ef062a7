use Rattle.std.proofs.Common.{sym, ◌∙◌, ap}
use Rattle.std.specs.Prelude.{Some}
use Rattle.sc_acts.specs.Tables.{version_in}
use Rattle.sc_interp.proofs.Targets.{feature_none, feature_attribute, feature_routine}
use Rattle.sc_interp.proofs.features.feature_of.Goals as goal

pub returns-in-None-version_in : goal.returns-in-None-version_in
returns-in-None-version_in c = feature_none c.args.store.now c.args.object c.args.name (ap (λ p. version_in p c.args.object.class c.args.name) (sym c.program.ensures) ∙ sym c.version_in.ensures ∙ c.in-None-version_in.is)

pub returns-in-Some-Routine : goal.returns-in-Some-Routine
returns-in-Some-Routine c =
    feature_routine c.args.store.now c.args.object c.args.name c.in-Some.field-0 c.in-Some-Routine.field-0-0 (sym c.class_of.ensures ∙ c.in-Some.is)
    (ap (λ p. version_in p c.args.object.class c.args.name) (sym c.program.ensures) ∙ sym c.version_in.ensures ∙ c.in-Some-Routine.is ∙ ap (λ v. Some v) c.in-Some-Routine.field-0-is)

pub returns-in-Some-Attribute : goal.returns-in-Some-Attribute
returns-in-Some-Attribute c =
    feature_attribute c.args.store.now c.args.object c.args.name c.in-Some.field-0 c.in-Some-Attribute.field-0-0 c.attribute_value.result (sym c.class_of.ensures ∙ c.in-Some.is)
    (ap (λ p. version_in p c.args.object.class c.args.name) (sym c.program.ensures) ∙ sym c.version_in.ensures ∙ c.in-Some-Attribute.is ∙ ap (λ v. Some v) c.in-Some-Attribute.field-0-is) c.attribute_value.ensures
