-- Features by number: what the number of a name leads to.
use Rattle.std.proofs.Common.{◌≡◌, ◌+◌, ◌<◌, ℕ, zero, suc, Bool, true, false, cond, inl, inr, List, [], ◌∷◌, ◌++◌, length, map, Option, Some, None, refl, ap, sym, ◌∙◌, subst, arith}
use Rattle.std.specs.Prelude.{◌⊎◌, is_some, slice_get, bytes_eq}
use Rattle.std.proofs.lemmas.Slice.Eq.{bytes_eq-Decides}
use Rattle.std.proofs.lemmas.Option.{slice_get_within}
use Rattle.std.specs.Option.{option_map, option_map_or, option_and_then}
use Rattle.sc_tree.specs.Plain.{System, Class, Feature}
use Rattle.sc_class.specs.Names.{number_among}
use Rattle.sc_class.specs.Tables.Declared.{declared_feature_names, declared_feature_names_at, features_at}
use Rattle.sc_class.specs.Tables.Features.{DeclaredFeature, declared_in, declared_features, named_among}
use Rattle.sc_class.proofs.NameLemmas.{same_text, number_below}
use Rattle.sc_class.proofs.FeatureLemmas.{named_declared}
use Rattle.sc_class.proofs.Items.{some_is}
use Rattle.sc_rules.specs.Names.{RoutineName, routine_of}
use Rattle.sc_rules.specs.Purity.{routine_named}
use Rattle.sc_typing.specs.FeatureNumbers.{features_from, all_features, start, feature_number}
use Rattle.sc_typing.proofs.FeatureLemmas.{named_text, own_class, same_routine}

in_first : {A : Type 0} (xs ys : List A) (i : ℕ) (x : A) → slice_get xs i ≡ Some x → slice_get (xs ++ ys) i ≡ Some x
in_first [] ys i x e = cc
in_first (y ∷ xs) ys zero x e = e
in_first (y ∷ xs) ys (suc i) x e = in_first xs ys i x e

in_second : {A : Type 0} (xs ys : List A) (i : ℕ) → slice_get (xs ++ ys) (length xs + i) ≡ slice_get ys i
in_second [] ys i = ap (slice_get ys) (zero_more i)
  where
    zero_more : (i : ℕ) → 0 + i ≡ i
    zero_more i = omega arith
in_second (x ∷ xs) ys i = ap (slice_get (x ∷ xs ++ ys)) (one_more (length xs) i) ∙ in_second xs ys i
  where
    one_more : (n i : ℕ) → suc n + i ≡ suc (n + i)
    one_more n i = omega arith

mapped : {A B : Type 0} (f : A → B) (xs : List A) (i : ℕ) (x : A) → slice_get xs i ≡ Some x → slice_get (map f xs) i ≡ Some (f x)
mapped f [] i x e = cc
mapped f (y ∷ xs) zero x e = ap (option_map f) e
mapped f (y ∷ xs) (suc i) x e = mapped f xs i x e

length_mapped : {A B : Type 0} (f : A → B) (xs : List A) → length (map f xs) ≡ length xs
length_mapped f [] = refl
length_mapped f (x ∷ xs) = ap suc (length_mapped f xs)

-- the feature of a class at a number, among all
at_start : (j : ℕ) (cs : List Class) (k i : ℕ) (f : Feature) → slice_get (option_map_or (λ (c : Class). c.features) (slice_get cs k) []) i ≡ Some f →
    slice_get (features_from j cs) (start cs k + i) ≡ Some (declared_in (j + k) f)
at_start j [] k i f e = cc
at_start j (c ∷ cs) zero i f e =
    ap (slice_get (map (declared_in j) c.features ++ features_from (suc j) cs)) (plus_nothing i) ∙
    in_first (map (declared_in j) c.features) (features_from (suc j) cs) i (declared_in j f) (mapped (declared_in j) c.features i f e) ∙ ap (λ k. Some (declared_in k f)) (nothing_more j)
  where
    plus_nothing : (i : ℕ) → 0 + i ≡ i
    plus_nothing i = omega arith

    nothing_more : (j : ℕ) → j ≡ j + 0
    nothing_more j = omega arith
at_start j (c ∷ cs) (suc k) i f e =
    ap (slice_get (map (declared_in j) c.features ++ features_from (suc j) cs)) (regrouped (length c.features) (length (map (declared_in j) c.features)) (start cs k) i (length_mapped (declared_in j) c.features)) ∙
    in_second (map (declared_in j) c.features) (features_from (suc j) cs) (start cs k + i) ∙ at_start (suc j) cs k i f e ∙ ap (λ k. Some (declared_in k f)) (shifted j k)
  where
    regrouped : (a b c i : ℕ) → b ≡ a → (a + c) + i ≡ b + (c + i)
    regrouped a b c i e = omega (arith, e)

    shifted : (j k : ℕ) → suc j + k ≡ j + suc k
    shifted j k = omega arith

-- what a name's number leads to: the feature of this name
pub record Numbered (s : System) (f : RoutineName) (i : ℕ) : Type 0 where
  pub feature : DeclaredFeature
  pub stands_at : slice_get (all_features s) i ≡ Some feature
  pub is_named : routine_named s f ≡ Some feature
  pub is_it : routine_of feature ≡ f

named_is : (s : System) (f : RoutineName) (d : DeclaredFeature) → routine_named s f ≡ Some d → routine_of d ≡ f
named_is s f d e = same_routine (routine_of d) f (own_class s f.class f.name d e) (same_text d.feature.name.text f.name (named_text f.name (declared_features s f.class) d e))

-- what is named by a number in its class
named_at : (s : System) (f : RoutineName) (k : Option ℕ) (o : Option Feature) → number_among f.name (declared_feature_names_at s f.class) ≡ k → option_and_then (slice_get (features_at s f.class)) k ≡ o →
    routine_named s f ≡ option_map (declared_in f.class) o
named_at s f k o e j =
    named_declared s f.class f.name ∙ ap (λ k. option_map (declared_in f.class) (option_and_then (slice_get (features_at s f.class)) k)) e ∙ ap (option_map (declared_in f.class)) j

never : {A : Type 0} (o : Option A) → o ≡ None → is_some o ≡ true → ⊥
never o e i = cc

pub numbered : (s : System) (f : RoutineName) (i : ℕ) → is_some (routine_named s f) ≡ true → feature_number s f ≡ Some i → Numbered s f i
numbered s f i n e = by_number (number_among f.name (declared_feature_names_at s f.class)) refl e
  where
    nothing_before : (k : ℕ) → 0 + k ≡ k
    nothing_before k = omega arith

    by_feature : (k : ℕ) → number_among f.name (declared_feature_names_at s f.class) ≡ Some k → (o : Option Feature) → slice_get (features_at s f.class) k ≡ o → start s.classes f.class + k ≡ i → Numbered s f i
    by_feature k h None j g = absurd (never (routine_named s f) (named_at s f (Some k) None h j) n)
    by_feature k h (Some x) j g = record {
      feature = declared_in f.class x;
      stands_at = ap (slice_get (all_features s)) (sym g) ∙ at_start 0 s.classes f.class k x j ∙ ap (λ (k : ℕ). Some (declared_in k x)) (nothing_before f.class);
      is_named = named_at s f (Some k) (Some x) h j;
      is_it = named_is s f (declared_in f.class x) (named_at s f (Some k) (Some x) h j);
    }

    by_number : (o : Option ℕ) → number_among f.name (declared_feature_names_at s f.class) ≡ o → option_map (λ k. start s.classes f.class + k) o ≡ Some i → Numbered s f i
    by_number None h e = cc
    by_number (Some k) h e = by_feature k h (slice_get (features_at s f.class) k) refl (some_is (start s.classes f.class + k) i e)

-- a routine that is declared has a number
pub has_number : (s : System) (f : RoutineName) → is_some (routine_named s f) ≡ true → is_some (feature_number s f) ≡ true
has_number s f n = by_number (number_among f.name (declared_feature_names_at s f.class)) refl
  where
    by_number : (o : Option ℕ) → number_among f.name (declared_feature_names_at s f.class) ≡ o → is_some (option_map (λ k. start s.classes f.class + k) o) ≡ true
    by_number None h = absurd (never (routine_named s f) (named_at s f None None h refl) n)
    by_number (Some k) h = refl

-- a number that a name has in its class is within the class's features
as_many_names : (o : Option Class) → length (option_map_or declared_feature_names o []) ≡ length (option_map_or (λ (c : Class). c.features) o [])
as_many_names None = refl
as_many_names (Some c) = length_mapped (λ (f : Feature). f.name) c.features

within : {A : Type 0} (xs : List A) (k : ℕ) → k < length xs → slice_get xs k ≡ None → ⊥
within [] k l e = omega (arith, l)
within (x ∷ xs) zero l e = cc
within (x ∷ xs) (suc k) l e = within xs k (less l) e
  where
    less : suc k < suc (length xs) → k < length xs
    less l = omega arith

-- what has a number is declared
pub is_declared : (s : System) (f : RoutineName) (i : ℕ) → feature_number s f ≡ Some i → is_some (routine_named s f) ≡ true
is_declared s f i e = by_number (number_among f.name (declared_feature_names_at s f.class)) refl e
  where
    by_feature : (k : ℕ) → number_among f.name (declared_feature_names_at s f.class) ≡ Some k → (o : Option Feature) → slice_get (features_at s f.class) k ≡ o → is_some (routine_named s f) ≡ true
    by_feature k h None j =
        absurd (within (features_at s f.class) k (subst (λ n. k < n) (as_many_names (slice_get s.classes f.class)) (number_below f.name (declared_feature_names_at s f.class) k h)) j)
    by_feature k h (Some x) j = ap is_some (named_at s f (Some k) (Some x) h j)

    by_number : (o : Option ℕ) → number_among f.name (declared_feature_names_at s f.class) ≡ o → option_map (λ k. start s.classes f.class + k) o ≡ Some i → is_some (routine_named s f) ≡ true
    by_number None h e = cc
    by_number (Some k) h e = by_feature k h (slice_get (features_at s f.class) k) refl

pub number_stands : (s : System) (f : RoutineName) (i : ℕ) → feature_number s f ≡ Some i → Numbered s f i
number_stands s f i e = numbered s f i (is_declared s f i e) e

-- ---- all features are declared

same_bytes : (x : List ℕ) → bytes_eq x x ≡ true
same_bytes x = (bytes_eq-Decides x x).1 refl

-- one of the features has its name
found_there : (j : ℕ) (fs : List Feature) (i : ℕ) (f : Feature) → slice_get fs i ≡ Some f → is_some (named_among f.name.text (map (declared_in j) fs)) ≡ true
found_there j [] i f e = cc
found_there j (g ∷ fs) zero f e = by_first (bytes_eq g.name.text f.name.text) (ap (λ (g : Feature). bytes_eq g.name.text f.name.text) (some_is g f e) ∙ same_bytes f.name.text)
  where
    by_first : (b : Bool) → b ≡ true → is_some (cond b (Some (declared_in j g)) (named_among f.name.text (map (declared_in j) fs))) ≡ true
    by_first true e = refl
    by_first false e = cc
found_there j (g ∷ fs) (suc i) f e = by_first (bytes_eq g.name.text f.name.text) (found_there j fs i f e)
  where
    by_first : (b : Bool) → is_some (named_among f.name.text (map (declared_in j) fs)) ≡ true →
        is_some (cond b (Some (declared_in j g)) (named_among f.name.text (map (declared_in j) fs))) ≡ true
    by_first true h = refl
    by_first false h = h

unmapped : {A B : Type 0} (f : A → B) (xs : List A) (ys : List B) (i : ℕ) (y : B) → slice_get (map f xs ++ ys) i ≡ Some y →
    ((x : A) × (slice_get xs i ≡ Some x) × (f x ≡ y)) ⊎ ((k : ℕ) × (slice_get ys k ≡ Some y))
unmapped f [] ys i y e = inr (i, e)
unmapped f (x ∷ xs) ys zero y e = inl (x, refl, some_is (f x) y e)
unmapped f (x ∷ xs) ys (suc i) y e = unmapped f xs ys i y e

-- a feature of one of the classes, of which the first is at the number
record Stands (j : ℕ) (cs : List Class) (d : DeclaredFeature) : Type 0 where
  pub class : ℕ
  pub text : Class
  pub number : ℕ
  pub is_class : slice_get cs class ≡ Some text
  pub is_feature : slice_get text.features number ≡ Some d.feature
  pub is_declared_in : d.class ≡ j + class

stands_among : (j : ℕ) (cs : List Class) (i : ℕ) (d : DeclaredFeature) → slice_get (features_from j cs) i ≡ Some d → Stands j cs d
stands_among j [] i d e = cc
stands_among j (c ∷ cs) i d e = by_class (unmapped (declared_in j) c.features (features_from (suc j) cs) i d e) (λ k. stands_among (suc j) cs k d)
  where
    nothing_more : (j : ℕ) → j ≡ j + 0
    nothing_more j = omega arith

    shifted : (k n : ℕ) → n ≡ suc j + k → n ≡ j + suc k
    shifted k n e = omega (arith, e)

    further : Stands (suc j) cs d → Stands j (c ∷ cs) d
    further t = record { class = suc t.class; text = t.text; number = t.number; is_class = t.is_class; is_feature = t.is_feature; is_declared_in = shifted t.class d.class t.is_declared_in }

    here : (f : Feature) → slice_get c.features i ≡ Some f → declared_in j f ≡ d → Stands j (c ∷ cs) d
    here f g h = record {
      class = 0;
      text = c;
      number = i;
      is_class = refl;
      is_feature = g ∙ ap (λ (d : DeclaredFeature). Some d.feature) h;
      is_declared_in = ap (λ (d : DeclaredFeature). d.class) (sym h) ∙ nothing_more j;
    }

    by_class : ((f : Feature) × (slice_get c.features i ≡ Some f) × (declared_in j f ≡ d)) ⊎ ((k : ℕ) × (slice_get (features_from (suc j) cs) k ≡ Some d)) →
        ((k : ℕ) → slice_get (features_from (suc j) cs) k ≡ Some d → Stands (suc j) cs d) → Stands j (c ∷ cs) d
    by_class (inl (f, g, h)) r = here f g h
    by_class (inr (k, g)) r = further (r k g)

-- each of all features is of a name that its class declares
pub all_named : (s : System) (i : ℕ) (d : DeclaredFeature) → slice_get (all_features s) i ≡ Some d → is_some (routine_named s (routine_of d)) ≡ true
all_named s i d e = named_in (stands_among 0 s.classes i d e)
  where
    nothing_before : (k : ℕ) → 0 + k ≡ k
    nothing_before k = omega arith

    named_in : Stands 0 s.classes d → is_some (routine_named s (routine_of d)) ≡ true
    named_in t =
        subst (λ k. is_some (named_among d.feature.name.text (declared_features s k)) ≡ true) (sym (t.is_declared_in ∙ nothing_before t.class))
        (subst (λ (o : Option Class). is_some (named_among d.feature.name.text (option_map_or (λ (c : Class). map (declared_in t.class) c.features) o [])) ≡ true) (sym t.is_class)
        (found_there t.class t.text.features t.number d.feature t.is_feature))

-- the class of a name that is declared is there
pub class_there : (s : System) (f : RoutineName) → is_some (routine_named s f) ≡ true → f.class < length s.classes
class_there s f e = by_class (slice_get s.classes f.class) refl e
  where
    by_class : (o : Option Class) → slice_get s.classes f.class ≡ o → is_some (named_among f.name (option_map_or (λ (c : Class). map (declared_in f.class) c.features) o [])) ≡ true →
        f.class < length s.classes
    by_class None i e = cc
    by_class (Some c) i e = slice_get_within s.classes f.class c i
