-- The attributes of a new object, feature by feature.
use Rattle.std.proofs.Common.{◌≡◌, ℕ, ◌+◌, ◌<◌, List, [], ◌∷◌, ◌++◌, Option, Some, None, length, map, take, get_or, refl, sym, ap, ◌∙◌}
use Rattle.std.proofs.lemmas.List.{map-append, take_more}
use Rattle.std.proofs.lemmas.List.Elements.{filter_map-append}
use Rattle.sc_tree.specs.Plain.{System}
use Rattle.sc_tree.specs.declared.system.Feature.{Feature}
use Rattle.sc_tree.specs.View.{feature_of}
use Rattle.sc_class.specs.Tables.Features.{DeclaredFeature, declared_in}
use Rattle.sc_model.specs.Environments.{Binding}
use Rattle.sc_model.specs.Objects.{fresh_attribute, fresh_attributes}

-- none or one
abbrev pub listed : Option Binding → List Binding
listed None = []
listed (Some attribute) = attribute ∷ []

fresh_one : (s : System) (f : DeclaredFeature) (o : Option Binding) → fresh_attribute s f.feature.name.text f.feature.kind ≡ o → fresh_attributes s (f ∷ []) ≡ listed o
fresh_one s f None e = rw e refl
fresh_one s f (Some a) e = rw e refl

-- one feature more, which is f
pub fresh_more : (s : System) (k : ℕ) (fs : List Feature) (i : ℕ) (f : Feature) → i < length fs → f ≡ get_or fs i f →
    fresh_attributes s (map (declared_in k) (map feature_of (take (i + 1) fs)))
    ≡ fresh_attributes s (map (declared_in k) (map feature_of (take i fs))) ++ listed (fresh_attribute s (feature_of f).name.text (feature_of f).kind)
fresh_more s k fs i f l at =
    ap (λ t. fresh_attributes s (map (declared_in k) (map feature_of t))) (take_more fs i f l ∙ ap (λ g. take i fs ++ g ∷ []) (sym at))
    ∙ ap (λ t. fresh_attributes s (map (declared_in k) t)) (map-append feature_of (take i fs) (f ∷ []))
    ∙ ap (fresh_attributes s) (map-append (declared_in k) (map feature_of (take i fs)) (feature_of f ∷ []))
    ∙ filter_map-append (λ (g : DeclaredFeature). fresh_attribute s g.feature.name.text g.feature.kind) (map (declared_in k) (map feature_of (take i fs))) (declared_in k (feature_of f) ∷ [])
    ∙ ap (λ t. fresh_attributes s (map (declared_in k) (map feature_of (take i fs))) ++ t)
    (fresh_one s (declared_in k (feature_of f)) (fresh_attribute s (feature_of f).name.text (feature_of f).kind) refl)
