-- Features that are found by the names of all that a class has.
use Rattle.std.proofs.Common.{◌≡◌, ◌<◌, ◌≤◌, ◌+◌, ℕ, zero, suc, Bool, true, false, cond, List, [], ◌∷◌, ◌++◌, Option, Some, None, length, map, refl, ap, sym, ◌∙◌, arith, add-one, below_more}
use Rattle.std.specs.Prelude.{bytes_eq, nat_lt, slice_get}
use Rattle.std.specs.Option.{option_map, option_map_or, option_and_then}
use Rattle.std.proofs.lemmas.List.{length-append}
use Rattle.std.proofs.lemmas.Option.{slice_get-map, slice_get_past, slice_get_within}
use Rattle.sc_tree.specs.Plain.{System, Class}
use Rattle.sc_class.specs.declared.class_tables.feature_entry.FeatureEntry.{FeatureEntry}
use Rattle.sc_class.specs.declared.class_tables.known_features.KnownFeatures.{KnownFeatures}
use Rattle.sc_class.specs.Names.{number_among}
use Rattle.sc_class.specs.Tables.Features.{DeclaredFeature, declared_in, features, features_along, declared_features, named_among, not_redefined, redefined_by}
use Rattle.sc_class.specs.Tables.Ancestors.{ancestors_within, parent_of}
use Rattle.sc_class.specs.Faults.Scopes.{feature_names}
use Rattle.sc_class.specs.View.{entry_of}
use Rattle.sc_class.specs.Internal.KnownFeatures.{entries_of, class_of_first, declarer_known, declarer}
use Rattle.sc_class.proofs.Items.{read_append, read_last}
use Rattle.sc_class.proofs.Declarers.{found_stands}
use Rattle.sc_class.proofs.TableLemmas.{not_past}

-- ---- by number

by_number : (x : List ℕ) (fs : List DeclaredFeature) → named_among x fs ≡ option_and_then (slice_get fs) (number_among x (feature_names fs))
by_number x [] = refl
by_number x (f ∷ fs) = by (bytes_eq f.feature.name.text x) (number_among x (feature_names fs)) (by_number x fs)
  where
    next : (j : ℕ) → slice_get (f ∷ fs) (j + 1) ≡ slice_get fs j
    next j = ap (slice_get (f ∷ fs)) (add-one j)

    by : (b : Bool) (o : Option ℕ) → named_among x fs ≡ option_and_then (slice_get fs) o → cond b (Some f) (named_among x fs) ≡ option_and_then (slice_get (f ∷ fs)) (cond b (Some 0) (option_map (λ k. k + 1) o))
    by true o e = refl
    by false None e = e
    by false (Some j) e = e ∙ sym (next j)

module _ (x : List ℕ) (es : List FeatureEntry) (o : Option ℕ) (e : o ≡ number_among x (feature_names (map entry_of es))) where
  pub none_by_number : o ≡ None → None ≡ named_among x (map entry_of es)
  none_by_number f = sym (by_number x (map entry_of es) ∙ ap (option_and_then (slice_get (map entry_of es))) (sym e ∙ f))

  pub entry_by_number : (n : ℕ) (r : Option FeatureEntry) → o ≡ Some n → r ≡ slice_get es n → option_map entry_of r ≡ named_among x (map entry_of es)
  entry_by_number n r f g = ap (option_map entry_of) g ∙ sym (slice_get-map entry_of es n) ∙ sym (by_number x (map entry_of es) ∙ ap (option_and_then (slice_get (map entry_of es))) (sym e ∙ f))

-- ---- one class more

-- what is asked of the features of a class by name is what is asked of those that are known of it
abbrev pub Tells : {X : Type 0} → (List ℕ → List DeclaredFeature → Option X) → System → List KnownFeatures → ℕ → Type 0
Tells g s ts n = (k : ℕ) → k < n → (x : List ℕ) → option_and_then (λ t. g x (entries_of t)) (slice_get ts k) ≡ g x (features s k)

module _ {X : Type 0} (g : List ℕ → List DeclaredFeature → Option X) (s : System) (ts ts' : List KnownFeatures) (t : KnownFeatures) (n : ℕ) (e : entries_of t ≡ features s n) (f : ts' ≡ ts ++ t ∷ []) (l : length ts ≡ n) where
  pub known_more : Tells g s ts n → Tells g s ts' (n + 1)
  known_more below = below_more (λ k. (x : List ℕ) → option_and_then (λ t. g x (entries_of t)) (slice_get ts' k) ≡ g x (features s k)) n before here
    where
      before : (k : ℕ) → k < n → (x : List ℕ) → option_and_then (λ t. g x (entries_of t)) (slice_get ts' k) ≡ g x (features s k)
      before k m x =
          let m' : k < length ts = omega (arith, l, m) in
          ap (λ (us : List KnownFeatures). option_and_then (λ t. g x (entries_of t)) (slice_get us k)) f ∙ ap (λ (o : Option KnownFeatures). option_and_then (λ (t : KnownFeatures). g x (entries_of t)) o) (read_append ts t k m') ∙ below k m x

      here : (x : List ℕ) → option_and_then (λ t. g x (entries_of t)) (slice_get ts' n) ≡ g x (features s n)
      here x =
          ap (λ (us : List KnownFeatures). option_and_then (λ t. g x (entries_of t)) (slice_get us n)) f
          ∙ ap (λ (o : Option KnownFeatures). option_and_then (λ (t : KnownFeatures). g x (entries_of t)) o) (ap (slice_get (ts ++ t ∷ [])) (sym l) ∙ read_last ts t) ∙ ap (g x) e

  pub as_many : length ts' ≡ n + 1
  as_many = ap length f ∙ length-append ts (t ∷ []) ∙ ap (λ k. k + 1) l

-- ---- by the class that declares it

module _ (s : System) (k : ℕ) (x : List ℕ) (o : Option DeclaredFeature) (known : option_map (λ (f : DeclaredFeature). f.class) o ≡ declarer s k x) where
  pub not_declared : o ≡ None → None ≡ named_among x (features s k)
  not_declared e = by (named_among x (features s k)) (ap (option_map (λ (f : DeclaredFeature). f.class)) (sym e) ∙ known)
    where
      by : (r : Option DeclaredFeature) → None ≡ option_map (λ (f : DeclaredFeature). f.class) r → None ≡ r
      by None q = refl
      by (Some f) q = cc

  pub declared_there : (g : DeclaredFeature) → o ≡ Some g → named_among x (declared_features s g.class) ≡ named_among x (features s k)
  declared_there g e = by (named_among x (features s k)) refl (ap (option_map (λ (f : DeclaredFeature). f.class)) (sym e) ∙ known)
    where
      by : (r : Option DeclaredFeature) → named_among x (features s k) ≡ r → Some g.class ≡ option_map (λ (f : DeclaredFeature). f.class) r → named_among x (declared_features s g.class) ≡ r
      by None h q = cc
      by (Some f) h q = let same : g.class ≡ f.class = cc in ap (λ (c : ℕ). named_among x (declared_features s c)) same ∙ (found_stands s k x f h).is_declared

pub known_at : (s : System) (ts : List KnownFeatures) → ((k : ℕ) → k < length ts → (x : List ℕ) → declarer_known ts k x ≡ declarer s k x) → (k : ℕ) (t : KnownFeatures) → slice_get ts k ≡ Some t →
    (x : List ℕ) (o : Option DeclaredFeature) → o ≡ named_among x (entries_of t) → option_map (λ (f : DeclaredFeature). f.class) o ≡ declarer s k x
known_at s ts are k t e x o f =
    ap (option_map (λ (f : DeclaredFeature). f.class)) f ∙ sym (ap (λ (o : Option KnownFeatures). option_and_then (λ (t : KnownFeatures). class_of_first x (entries_of t)) o) e)
    ∙ are k (slice_get_within ts k t e) x

-- ---- a number that no class has

module _ (s : System) (k : ℕ) where
  none_beyond : (n : ℕ) → slice_get s.classes k ≡ None → features_along s (ancestors_within n s k) ≡ []
  none_beyond zero e = refl
  none_beyond (suc n) e = by (slice_get s.classes k) e
    where
      by : (o : Option Class) → o ≡ None → option_map_or (λ (c : Class). map (declared_in k) c.features) o [] ++ not_redefined (option_map_or redefined_by o []) (features_along s (option_map_or (ancestors_within n s) (option_and_then (parent_of s) o) [])) ≡ []
      by None e = refl
      by (Some c) e = cc

  pub none_known : (ts : List KnownFeatures) → length ts ≡ length s.classes → slice_get ts k ≡ None → (x : List ℕ) → None ≡ named_among x (features s k)
  none_known ts l e x = by (nat_lt k (length s.classes)) refl
    where
      by : (b : Bool) → nat_lt k (length s.classes) ≡ b → None ≡ named_among x (features s k)
      by true f = let m : k < length s.classes = grind arith in absurd (not_past ts k (omega (arith, l, m)) e)
      by false f = let m : length s.classes ≤ k = grind arith in sym (ap (named_among x) (none_beyond (length s.classes) (slice_get_past s.classes k m)))
