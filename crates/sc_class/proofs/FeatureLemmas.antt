-- Features that are found by number, and those that are added along the ancestors of a class.
use Rattle.std.proofs.Common.{◌≡◌, ◌+◌, ◌<◌, ◌≤◌, ℕ, Bool, true, false, cond, List, [], ◌∷◌, ◌++◌, Option, Some, None, length, get_or, map, drop, refl, ap, sym, ◌∙◌, append_assoc, add-one}
use Rattle.std.specs.Prelude.{bytes_eq, not, slice_get, string_bytes}
use Rattle.std.specs.Option.{option_map, option_map_or, option_and_then, option_copied}
use Rattle.std.specs.Borrow.{Bor}
use Rattle.std.proofs.lemmas.Option.{slice_get-map}
use Rattle.std.proofs.lemmas.List.{drop_all, map-append, append-nil}
use Rattle.sc_tree.specs.declared.system.Class as tree_class
use Rattle.sc_tree.specs.declared.system.Feature as tree_feature
use Rattle.sc_tree.specs.Plain.{System, Class, Feature, Name}
use Rattle.sc_tree.specs.View.{class_of, feature_of}
use Rattle.sc_class.specs.declared.class_tables.feature_entry.FeatureEntry.{FeatureEntry}
use Rattle.sc_class.specs.Names.{is_listed, number_among}
use Rattle.sc_class.specs.Tables.Declared.{declared_feature_names, declared_feature_names_at, features_at}
use Rattle.sc_class.specs.Tables.Features.{DeclaredFeature, declared_in, declared_features, not_redefined, features_along, named_among}
use Rattle.sc_class.specs.View.{entry_of}
use Rattle.sc_class.proofs.Anys.{at}
use Rattle.sc_class.proofs.AncestorLemmas.{not_redefined-none}

-- a list that is the image of another, read at one number
pub at_image : {A B C : Type 0} (f : B → A) (g : A → C) (xs : List A) (ys : List B) → xs ≡ map f ys → (k : ℕ) (x : A) (d : C) → slice_get xs k ≡ Some x → g x ≡ option_map_or (λ y. g (f y)) (slice_get ys k) d
at_image {A} {B} {C} f g xs ys e k x d i = by (slice_get ys k) (sym (slice_get-map f ys k) ∙ ap (λ (zs : List A). slice_get zs k) (sym e) ∙ i)
  where
    by : (o : Option B) → option_map f o ≡ Some x → g x ≡ option_map_or (λ y. g (f y)) o d
    by None h = cc
    by (Some y) h = cc

-- an item that was got
pub got_item : {A : Type 0} (xs ys : List A) (k : ℕ) (o : Option (Bor A)) (x : Bor A) → option_copied o ≡ slice_get xs k → o ≡ Some x → xs ≡ ys → slice_get ys k ≡ Some x.now
got_item xs ys k o x e f g = ap (λ zs. slice_get zs k) (sym g) ∙ sym e ∙ ap option_copied f

-- ---- by number

named_in : (k : ℕ) (x : List ℕ) (fs : List Feature) → named_among x (map (declared_in k) fs) ≡ option_map (declared_in k) (option_and_then (slice_get fs) (number_among x (map (λ (f : Feature). f.name) fs)))
named_in k x [] = refl
named_in k x (f ∷ fs) = by (bytes_eq f.name.text x) (number_among x (map (λ (f : Feature). f.name) fs)) (named_in k x fs)
  where
    next : (j : ℕ) → slice_get (f ∷ fs) (j + 1) ≡ slice_get fs j
    next j = ap (slice_get (f ∷ fs)) (add-one j)

    by : (b : Bool) (o : Option ℕ) → named_among x (map (declared_in k) fs) ≡ option_map (declared_in k) (option_and_then (slice_get fs) o) →
        cond b (Some (declared_in k f)) (named_among x (map (declared_in k) fs)) ≡ option_map (declared_in k) (option_and_then (slice_get (f ∷ fs)) (cond b (Some 0) (option_map (λ k. k + 1) o)))
    by true o e = refl
    by false None e = e
    by false (Some j) e = e ∙ ap (option_map (declared_in k)) (sym (next j))

pub named_declared : (s : System) (k : ℕ) (x : List ℕ) → named_among x (declared_features s k) ≡ option_map (declared_in k) (option_and_then (slice_get (features_at s k)) (number_among x (declared_feature_names_at s k)))
named_declared s k x = by (slice_get s.classes k)
  where
    by : (o : Option Class) → named_among x (option_map_or (λ (c : Class). map (declared_in k) c.features) o []) ≡ option_map (declared_in k) (option_and_then (slice_get (option_map_or (λ (c : Class). c.features) o [])) (number_among x (option_map_or declared_feature_names o [])))
    by None = refl
    by (Some c) = named_in k x c.features

pub none_named : (s : System) (k : ℕ) (x : List ℕ) (o : Option ℕ) → o ≡ number_among x (declared_feature_names_at s k) → o ≡ None → None ≡ named_among x (declared_features s k)
none_named s k x o e f = sym (named_declared s k x ∙ ap (λ o. option_map (declared_in k) (option_and_then (slice_get (features_at s k)) o)) (sym e ∙ f))

pub named_by : (s : System) (k : ℕ) (x : List ℕ) (o : Option ℕ) (n : ℕ) (f : Option Feature) → o ≡ number_among x (declared_feature_names_at s k) → o ≡ Some n → f ≡ slice_get (features_at s k) n → option_map (declared_in k) f ≡ named_among x (declared_features s k)
named_by s k x o n f e g h = ap (option_map (declared_in k)) h ∙ sym (named_declared s k x ∙ ap (λ o. option_map (declared_in k) (option_and_then (slice_get (features_at s k)) o)) (sym e ∙ g))

pub feature_in : (s : System) (k n : ℕ) (c : tree_class.Class) (fs : List tree_feature.Feature) (o : Option (Bor tree_feature.Feature)) → slice_get s.classes k ≡ Some (class_of c) → fs ≡ c.features.items → option_copied o ≡ slice_get fs n →
    option_map feature_of (option_copied o) ≡ slice_get (features_at s k) n
unfolding class_of
feature_in s k n c fs o e f g =
    ap (option_map feature_of) (g ∙ ap (λ fs. slice_get fs n) f) ∙ sym (slice_get-map feature_of c.features.items n) ∙ ap (λ (o : Option Class). slice_get (option_map_or (λ (c : Class). c.features) o []) n) (sym e)

-- ---- along the ancestors

module _ (redefined : List Name) (k : ℕ) (fs : List tree_feature.Feature) (i : ℕ) (x : tree_feature.Feature) (l : i < length fs) (g : x ≡ get_or fs i x) (total : List DeclaredFeature)
    (y : List ℕ) (text : y ≡ string_bytes x.name.text.value) (b : Bool) (listed : b ≡ is_listed y redefined) where
  -- the features from the one at the index on
  others : List DeclaredFeature
  others = not_redefined redefined (map (declared_in k) (map feature_of (drop (i + 1) fs)))

  split : not_redefined redefined (map (declared_in k) (map feature_of (drop i fs))) ≡ cond (not b) (declared_in k (feature_of x) ∷ not_redefined redefined (map (declared_in k) (map feature_of (drop (i + 1) fs)))) (not_redefined redefined (map (declared_in k) (map feature_of (drop (i + 1) fs))))
  unfolding feature_of
  split =
      ap (λ gs. not_redefined redefined (map (declared_in k) (map feature_of gs))) (at fs i x l g)
      ∙ ap (λ b. cond (not b) (declared_in k (feature_of x) ∷ not_redefined redefined (map (declared_in k) (map feature_of (drop (i + 1) fs)))) (not_redefined redefined (map (declared_in k) (map feature_of (drop (i + 1) fs)))))
      (sym (listed ∙ ap (λ y. is_listed y redefined) text))

  pub declared_added : (es es' : List FeatureEntry) (e : FeatureEntry) → b ≡ false → es' ≡ es ++ e ∷ [] → entry_of e ≡ declared_in k (feature_of x) → map entry_of es ++ not_redefined redefined (map (declared_in k) (map feature_of (drop i fs))) ≡ total →
      map entry_of es' ++ not_redefined redefined (map (declared_in k) (map feature_of (drop (i + 1) fs))) ≡ total
  declared_added es es' e q a is inv =
      ap (λ es. map entry_of es ++ not_redefined redefined (map (declared_in k) (map feature_of (drop (i + 1) fs)))) a
      ∙ ap (λ ds. ds ++ not_redefined redefined (map (declared_in k) (map feature_of (drop (i + 1) fs)))) (map-append entry_of es (e ∷ []))
      ∙ append_assoc (map entry_of es) (entry_of e ∷ []) (not_redefined redefined (map (declared_in k) (map feature_of (drop (i + 1) fs))))
      ∙ ap (λ d. map entry_of es ++ (d ∷ not_redefined redefined (map (declared_in k) (map feature_of (drop (i + 1) fs))))) is
      ∙ ap (λ ds. map entry_of es ++ ds)
      (sym (split ∙ ap (λ b. cond (not b) (declared_in k (feature_of x) ∷ not_redefined redefined (map (declared_in k) (map feature_of (drop (i + 1) fs)))) (not_redefined redefined (map (declared_in k) (map feature_of (drop (i + 1) fs))))) q))
      ∙ inv

  pub redefined_passed : (es : List FeatureEntry) → b ≡ true → map entry_of es ++ not_redefined redefined (map (declared_in k) (map feature_of (drop i fs))) ≡ total → map entry_of es ++ not_redefined redefined (map (declared_in k) (map feature_of (drop (i + 1) fs))) ≡ total
  redefined_passed es q inv =
      ap (λ ds. map entry_of es ++ ds)
      (sym (split ∙ ap (λ b. cond (not b) (declared_in k (feature_of x) ∷ not_redefined redefined (map (declared_in k) (map feature_of (drop (i + 1) fs)))) (not_redefined redefined (map (declared_in k) (map feature_of (drop (i + 1) fs))))) q))
      ∙ inv

pub features_begin : (es : List FeatureEntry) (redefined : List Name) (fs : List DeclaredFeature) → es ≡ [] → redefined ≡ [] → map entry_of es ++ not_redefined redefined fs ≡ fs
features_begin es redefined fs e h = ap (λ es. map entry_of es ++ not_redefined redefined fs) e ∙ ap (λ ns. not_redefined ns fs) h ∙ not_redefined-none fs

pub features_end : (s : System) (ks : List ℕ) (i : ℕ) (fs total : List DeclaredFeature) (redefined : List Name) → length ks ≤ i → fs ++ not_redefined redefined (features_along s (drop i ks)) ≡ total → fs ≡ total
features_end s ks i fs total redefined l inv = sym (append-nil fs) ∙ ap (λ ds. fs ++ not_redefined redefined (features_along s ds)) (sym (drop_all i ks l)) ∙ inv

pub kept_begin : (es : List FeatureEntry) (none names redefined : List Name) (fs : List DeclaredFeature) → es ≡ [] → none ≡ [] → redefined ≡ none ++ names → map entry_of es ++ not_redefined redefined fs ≡ not_redefined names fs
kept_begin es none names redefined fs e f g =
    ap (λ (es : List FeatureEntry). map entry_of es ++ not_redefined redefined fs) e ∙ ap (λ ns. not_redefined ns fs) (g ∙ ap (λ ns. ns ++ names) f)
