-- Where the features of a name stand, class by class up the ancestors.
use Rattle.std.proofs.Common.{◌≡◌, ℕ, Bool, true, false, cond, List, [], ◌∷◌, map, Option, Some, None, refl, ap, ◌∙◌}
use Rattle.std.specs.Prelude.{bytes_eq, not, slice_get, if◌then◌else◌}
use Rattle.std.specs.Option.{option_map_or}
use Rattle.std.proofs.lemmas.List.{map-append}
use Rattle.sc_text.specs.declared.token.Span.{Span}
use Rattle.sc_tree.specs.Plain.{System, Class, Feature, Name}
use Rattle.sc_class.specs.Names.{is_listed}
use Rattle.sc_class.specs.Tables.Declared.{declared_feature_names, declared_feature_names_at}
use Rattle.sc_class.specs.Tables.Features.{DeclaredFeature, declared_in, declared_features, redefined_names, not_redefined, features_along}
use Rattle.sc_class.specs.Faults.Scopes.{feature_names}
use Rattle.sc_class.specs.Internal.Found.{first_place}
use Rattle.sc_class.specs.Internal.NameIndex.{place_among}
use Rattle.sc_class.proofs.NameLemmas.{same_text}
use Rattle.sc_class.proofs.Places.{place-append}

pub place-not_redefined : (x : List ℕ) (names : List Name) (fs : List DeclaredFeature) → place_among x (feature_names (not_redefined names fs)) ≡ cond (is_listed x names) None (place_among x (feature_names fs))
place-not_redefined x names [] = by (is_listed x names) None refl
  where
    by : (b : Bool) (o : Option Span) → o ≡ None → o ≡ cond b None o
    by true o e = e
    by false o e = refl
place-not_redefined x names (f ∷ fs) =
    by (is_listed f.feature.name.text names) (bytes_eq f.feature.name.text x) (is_listed x names) (λ e. ap (λ (y : List ℕ). is_listed y names) (same_text f.feature.name.text x e)) refl (place-not_redefined x names fs)
  where
    by : (b e l : Bool) → (e ≡ true → b ≡ l) → bytes_eq f.feature.name.text x ≡ e → place_among x (feature_names (not_redefined names fs)) ≡ cond l None (place_among x (feature_names fs)) →
        place_among x (feature_names (cond (not b) (f ∷ not_redefined names fs) (not_redefined names fs))) ≡ cond l None (first_place (if e then Some f.feature.name.span else None) (place_among x (feature_names fs)))
    by true true true g i h = h
    by true true false g i h = let q = g refl in cc
    by true false l g i h = h
    by false true true g i h = let q = g refl in cc
    by false true false g i h = ap (λ (b : Bool). first_place (if b then Some f.feature.name.span else None) (place_among x (feature_names (not_redefined names fs)))) i ∙ ap (first_place (Some f.feature.name.span)) h
    by false false l g i h = ap (λ (b : Bool). first_place (if b then Some f.feature.name.span else None) (place_among x (feature_names (not_redefined names fs)))) i ∙ h

pub declared_names : (s : System) (k : ℕ) → feature_names (declared_features s k) ≡ declared_feature_names_at s k
declared_names s k = by (slice_get s.classes k)
  where
    names_of : (fs : List Feature) → feature_names (map (declared_in k) fs) ≡ map (λ (f : Feature). f.name) fs
    names_of [] = refl
    names_of (f ∷ fs) = ap (λ (ns : List Name). f.name ∷ ns) (names_of fs)

    by : (o : Option Class) → feature_names (option_map_or (λ (c : Class). map (declared_in k) c.features) o []) ≡ option_map_or declared_feature_names o []
    by None = refl
    by (Some c) = names_of c.features

pub place-along : (s : System) (x : List ℕ) (k : ℕ) (ks : List ℕ) →
    place_among x (feature_names (features_along s (k ∷ ks))) ≡ first_place (place_among x (declared_feature_names_at s k)) (cond (is_listed x (redefined_names s k)) None (place_among x (feature_names (features_along s ks))))
place-along s x k ks =
    let declared = declared_features s k in
    let above = not_redefined (redefined_names s k) (features_along s ks) in
    ap (place_among x) (map-append (λ (f : DeclaredFeature). f.feature.name) declared above) ∙ place-append x (feature_names declared) (feature_names above)
    ∙ ap (λ ns. first_place (place_among x ns) (place_among x (feature_names above))) (declared_names s k)
    ∙ ap (first_place (place_among x (declared_feature_names_at s k))) (place-not_redefined x (redefined_names s k) (features_along s ks))
