use Rattle.std.proofs.Common.{◌++◌, ◌∷◌, [], map, take, append-nil, ap, sym, ◌∙◌}
use Rattle.std.proofs.lemmas.List.{map-append}
use Rattle.std.specs.Option.{option_map}
use Rattle.sc_class.specs.SystemIn.{system_in}
use Rattle.sc_tree.specs.View.{feature_of}
use Rattle.sc_class.specs.Tables.Features.{declared_in}
use Rattle.sc_model.specs.Objects.{fresh_attributes}
use Rattle.sc_lower.specs.AttributeBindings.{binding_of}
use Rattle.sc_lower.proofs.FreshAttributes.{listed, fresh_more}
use Rattle.sc_lower.proofs.program.attributes.attributes_declared.Goals as goal
use Rattle.sc_lower.proofs.program.attributes.attributes_declared.Goals.{in-Some+in_ok-push, in_default}

pub loop-feature-preserved : goal.loop-feature-preserved
loop-feature-preserved c =
    let s = system_in c.args.tables.now in
    let before = fresh_attributes s (map (declared_in c.args.class) (map feature_of (take c.loop-feature.feature-index c.own_features-feature-items.result.now))) in
    let more = fresh_more s c.args.class c.own_features-feature-items.result.now c.loop-feature.feature-index c.feature-item.result c.loop-feature-test.true c.feature-item.is in
    elim c.match-declared_attribute.branch [
      | in-Some+in_ok-push w ↦
          ap (λ items. map binding_of items.items) w.attributes-is ∙ ap (map binding_of) w.in_ok-push.ensures.items
          ∙ map-append binding_of c.loop-feature.attributes.items (w.in-Some.attribute ∷ []) ∙ ap (λ items. items ++ binding_of w.in-Some.attribute ∷ []) c.loop-feature.invariant
          ∙ ap (λ o. before ++ listed o) (ap (option_map binding_of) (sym w.in-Some.is) ∙ c.declared_attribute.ensures) ∙ sym more
      | in_default w ↦
          ap (λ items. map binding_of items.items) w.attributes-is ∙ c.loop-feature.invariant ∙ sym (append-nil before)
          ∙ ap (λ o. before ++ listed o) (ap (option_map binding_of) (sym w.in_default.is) ∙ c.declared_attribute.ensures) ∙ sym more
    ]
