use Rattle.std.proofs.Common.{None, cond, ap, sym, subst, ◌∙◌}
use Rattle.sc_tree.specs.View.{system_of}
use Rattle.sc_class.specs.declared.class_tables.line.NamedFeatures.{NamedFeatures}
use Rattle.sc_class.specs.declared.faults.scopes.features.Part.{Part}
use Rattle.sc_class.specs.declared.faults.scopes.features.Part.TheVariants.{Inherited}
use Rattle.sc_class.specs.Tables.Features.{inherited_features, redefined_names}
use Rattle.sc_class.specs.Faults.Scopes.{feature_names}
use Rattle.sc_class.specs.Internal.Lines.{KnowsPart}
use Rattle.sc_class.specs.Internal.NameIndex.{place_among}
use Rattle.sc_class.specs.Internal.ScopeSearch.{names_of_part}
use Rattle.sc_class.proofs.FeaturePlaces.{place-not_redefined}
use Rattle.sc_class.proofs.faults.scopes.features.Features.place.Goals as goal

pub returns-then-redefines : goal.returns-then-redefines
returns-then-redefines c =
    let s = system_of c.self.inside.outline.now.hierarchy.system.now in
    let k = c.self.inside.number in
    let x = c.args.name.now in
    let inherited = inherited_features s k in
    sym (place-not_redefined x (redefined_names s k) inherited ∙ ap (λ b. cond b None (place_among x (feature_names inherited))) (sym c.redefines.ensures ∙ c.if-redefines.true))
    ∙ ap (place_among x) (ap (λ (p : Part). names_of_part p s k) (sym c.in-Inherited.is) ∙ c.self.view_is)

pub returns-else-redefines : goal.returns-else-redefines
returns-else-redefines c =
    let s = system_of c.self.inside.outline.now.hierarchy.system.now in
    let k = c.self.inside.number in
    let x = c.args.name.now in
    let inherited = inherited_features s k in
    let knows : KnowsPart Inherited s k c.self.inside.line.now = subst (λ (p : Part). KnowsPart p s k c.self.inside.line.now) c.in-Inherited.is c.self.invariant in
    ap (λ (f : NamedFeatures). f.place) (c.named-else-redefines.ensures ∙ knows x)
    ∙ sym (place-not_redefined x (redefined_names s k) inherited ∙ ap (λ b. cond b None (place_among x (feature_names inherited))) (sym c.redefines.ensures ∙ c.if-redefines.false))
    ∙ ap (place_among x) (ap (λ (p : Part). names_of_part p s k) (sym c.in-Inherited.is) ∙ c.self.view_is)
