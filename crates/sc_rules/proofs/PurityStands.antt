-- A test that tells the pure functions, for every system: it begins with the routines that aren't impure themselves,
-- and drops those that may run one that was dropped, until none is dropped any more.
use Rattle.std.proofs.Common.{◌≡◌, ◌≤◌, ◌<◌, ℕ, zero, suc, ◌==◌, Bool, true, false, cond, List, [], ◌∷◌, length, map, Option, Some, None, refl, subst, arith}
use Rattle.std.specs.Prelude.{◌++◌, not, ◌||◌, ◌&&◌, is_some, bytes_eq, find, slice_get}
use Rattle.std.specs.List.{list_all}
use Rattle.std.specs.Option.{option_map_or}
use Rattle.std.proofs.lemmas.Option.{slice_get_within}
use Rattle.std.proofs.lemmas.Slice.Eq.{bytes_eq-Decides}
use Rattle.sc_text.proofs.Classes.{and_true}
use Rattle.sc_tree.specs.Plain.{System, Class}
use Rattle.sc_class.specs.Tables.Conformance.{is_ancestor}
use Rattle.sc_class.specs.Tables.Features.{DeclaredFeature, declared_in, declared_features}
use Rattle.sc_class.proofs.NameLemmas.{same_text}
use Rattle.sc_rules.specs.Names.{RoutineName, routine_of}
use Rattle.sc_rules.specs.Purity.{routine_named, Impure, IsPurity}
use Rattle.sc_rules.specs.JudgingPurity.{Effect, side_effect, routine_call, effects_of_routine, is_impure_itself, Lists, first, later, RunsInto, called, redeclared}
use Rattle.sc_rules.proofs.PurityLists.{in_left, in_right}
use Rattle.sc_rules.proofs.PurityHeirs.{named_text, own_class, one_there, same_routine, fit_there, AreMarks, are_purity, impure_first, impure_next}

-- ---- lists

found_in : {A : Type 0} (p : A → Bool) (xs : List A) (x : A) → find p xs ≡ Some x → Lists x xs
found_in p [] x e = cc
found_in {A} p (y ∷ ys) x e = by_first (p y) (found_in p ys x) e
  where
    by_first : (b : Bool) → (find p ys ≡ Some x → Lists x ys) → cond b (Some y) (find p ys) ≡ Some x → Lists x (y ∷ ys)
    by_first true f e = subst (λ z. Lists z (y ∷ ys)) (some_is e) first
      where
        some_is : Some y ≡ Some x → y ≡ x
        some_is e = cc
    by_first false f e = later (f e)

in_map : {A B : Type 0} (f : A → B) {x : A} {xs : List A} → Lists x xs → Lists (f x) (map f xs)
in_map f first = first
in_map f (later p) = later (in_map f p)

listed_passes : {A : Type 0} (p : A → Bool) {x : A} {xs : List A} → Lists x xs → list_all p xs ≡ true → p x ≡ true
listed_passes p (first {xs}) e = (and_true _ (list_all p xs) e).0
listed_passes p (later {y} {xs} q) e = listed_passes p q (and_true (p y) (list_all p xs) e).1

-- one of the list that doesn't pass
record Fails {A : Type 0} (p : A → Bool) (xs : List A) : Type 0 where
  pub one : A
  pub is_listed : Lists one xs
  pub fails : p one ≡ false

fails_in : {A : Type 0} (p : A → Bool) (xs : List A) → list_all p xs ≡ false → Fails p xs
fails_in p [] e = cc
fails_in {A} p (x ∷ xs) e = by_first (p x) refl (fails_in p xs) e
  where
    further : Fails p xs → Fails p (x ∷ xs)
    further f = record { one = f.one; is_listed = later f.is_listed; fails = f.fails }

    by_first : (b : Bool) → p x ≡ b → (list_all p xs ≡ false → Fails p xs) → (b && list_all p xs) ≡ false →
        Fails p (x ∷ xs)
    by_first true i f e = further (f e)
    by_first false i f e = record { one = x; is_listed = first; fails = i }

-- how many of the list the marks have
abbrev marked : {A : Type 0} → (A → Bool) → List A → ℕ
marked m [] = 0
marked m (x ∷ xs) = cond (m x) (suc (marked m xs)) (marked m xs)

module _ {A : Type 0} (m stays : A → Bool) where
  abbrev kept : A → Bool
  kept x = m x && stays x

  fewer_or_same : (xs : List A) → marked kept xs ≤ marked m xs
  fewer_or_same [] = grind arith
  fewer_or_same (x ∷ xs) = by_mark (m x) (stays x) (fewer_or_same xs)
    where
      by_mark : (a b : Bool) → marked kept xs ≤ marked m xs →
          cond (a && b) (suc (marked kept xs)) (marked kept xs) ≤ cond a (suc (marked m xs)) (marked m xs)
      by_mark true true l = grind arith
      by_mark true false l = grind arith
      by_mark false b l = l

  fewer : (xs : List A) → list_all (λ x. not (m x) || stays x) xs ≡ false → marked kept xs < marked m xs
  fewer [] e = cc
  fewer (x ∷ xs) e = by_mark (m x) (stays x) (fewer_or_same xs) (fewer xs) e
    where
      by_mark : (a b : Bool) → marked kept xs ≤ marked m xs →
          (list_all (λ x. not (m x) || stays x) xs ≡ false → marked kept xs < marked m xs) →
          ((not a || b) && list_all (λ x. not (m x) || stays x) xs) ≡ false →
          cond (a && b) (suc (marked kept xs)) (marked kept xs) < cond a (suc (marked m xs)) (marked m xs)
      by_mark true true l f e = let g = f e in grind arith
      by_mark true false l f e = grind arith
      by_mark false b l f e = f e

module _ (s : System) where
  -- ---- the routines that classes declare

  abbrev declared_by : ℕ → List RoutineName
  declared_by k = map routine_of (declared_features s k)

  -- by the classes below the number
  abbrev declared_below : ℕ → List RoutineName
  declared_below zero = []
  declared_below (suc k) = declared_by k ++ declared_below k

  abbrev all_declared : List RoutineName
  all_declared = declared_below (length s.classes)

  below : (f : RoutineName) (k n : ℕ) → k < n → Lists f (declared_by k) → Lists f (declared_below n)
  below f k zero l p = absurd (none l)
    where
      none : k < 0 → ⊥
      none l = grind arith
  below f k (suc n) l p = by_last (k == n) refl (λ l. below f k n l p)
    where
      by_last : (b : Bool) → (k == n) ≡ b → (k < n → Lists f (declared_below n)) → Lists f (declared_below (suc n))
      by_last true e g = in_left (declared_below n) (subst (λ k. Lists f (declared_by k)) (same e) p)
        where
          same : (k == n) ≡ true → k ≡ n
          same e = grind arith
      by_last false e g = in_right (declared_by n) (g (less e l))
        where
          less : (k == n) ≡ false → k < suc n → k < n
          less e l = grind arith

  is_declared : (f : RoutineName) → is_some (routine_named s f) ≡ true → Lists f all_declared
  is_declared f i = by_own (one_there (routine_named s f) i)
    where
      class_there : (o : Option Class) (d : DeclaredFeature) → slice_get s.classes f.class ≡ o →
          find (λ g. bytes_eq g.feature.name.text f.name)
          (option_map_or (λ (c : Class). map (declared_in f.class) c.features) o []) ≡ Some d →
          f.class < length s.classes
      class_there None d e i = cc
      class_there (Some c) d e i = slice_get_within s.classes f.class c e

      by_own : (d : DeclaredFeature) × (routine_named s f ≡ Some d) → Lists f all_declared
      by_own (d, e) = below f f.class (length s.classes) (class_there (slice_get s.classes f.class) d refl e)
          (subst (λ g. Lists g (declared_by f.class)) (same_routine (routine_of d) f (own_class s f.class f.name d e)
          (same_text d.feature.name.text f.name (named_text f.name (declared_features s f.class) d e)))
          (in_map routine_of (found_in _ (declared_features s f.class) d e)))

  -- ---- dropping those that may run what isn't marked

  abbrev runs_marked : (RoutineName → Bool) → Effect → Bool
  runs_marked m side_effect = true
  runs_marked m (routine_call g) = m g

  abbrev is_redeclared : RoutineName → RoutineName → Bool
  is_redeclared f g = (is_ancestor s g.class f.class && bytes_eq f.name g.name) && is_some (routine_named s g)

  abbrev stays : (RoutineName → Bool) → RoutineName → Bool
  stays m f = list_all (runs_marked m) (effects_of_routine s f) && list_all (λ g. not (is_redeclared f g) || m g) all_declared

  abbrev next : (RoutineName → Bool) → RoutineName → Bool
  next m = kept m (stays m)

  record Sound (m : RoutineName → Bool) : Type 0 where
    pub harmless : (f : RoutineName) → m f ≡ true → is_impure_itself s f ≡ false
    pub refused : (f : RoutineName) → m f ≡ false → Impure s f

  next_sound : (m : RoutineName → Bool) → Sound m → Sound (next m)
  next_sound m a = record {
    harmless = λ f e. a.harmless f (and_true (m f) (stays m f) e).0;
    refused = λ f e. by_mark f (m f) refl e;
  }
    where
      by_effect : (f : RoutineName) (d : Effect) → Lists d (effects_of_routine s f) → runs_marked m d ≡ false →
          Impure s f
      by_effect f side_effect p e = absurd (differ e)
        where
          differ : runs_marked m side_effect ≡ false → ⊥
          differ e = cc
      by_effect f (routine_call g) p e = impure_next (called p) (a.refused g e)

      by_heir : (f g : RoutineName) → is_some (routine_named s f) ≡ true → (b : Bool) → is_redeclared f g ≡ b →
          (not b || m g) ≡ false → Impure s f
      by_heir f g i false r e = absurd (differ e)
        where
          differ : (not false || m g) ≡ false → ⊥
          differ e = cc
      by_heir f g i true r e = impure_next (redeclared
          (and_true (is_ancestor s g.class f.class) (bytes_eq f.name g.name) (and_true _ (is_some (routine_named s g)) r).0).0
          (same_text f.name g.name (and_true (is_ancestor s g.class f.class) (bytes_eq f.name g.name) (and_true _ (is_some (routine_named s g)) r).0).1)
          i (and_true _ (is_some (routine_named s g)) r).1) (a.refused g e)

      by_fail : (f : RoutineName) → is_some (routine_named s f) ≡ true →
          Fails (λ g. not (is_redeclared f g) || m g) all_declared → Impure s f
      by_fail f i x = by_heir f x.one i (is_redeclared f x.one) refl x.fails

      by_list : (f : RoutineName) → is_some (routine_named s f) ≡ true → (b : Bool) →
          list_all (runs_marked m) (effects_of_routine s f) ≡ b →
          (b && list_all (λ g. not (is_redeclared f g) || m g) all_declared) ≡ false → Impure s f
      by_list f i true q e = by_fail f i (fails_in _ all_declared e)
      by_list f i false q e = of_effect (fails_in (runs_marked m) (effects_of_routine s f) q)
        where
          of_effect : Fails (runs_marked m) (effects_of_routine s f) → Impure s f
          of_effect x = by_effect f x.one x.is_listed x.fails

      by_mark : (f : RoutineName) (b : Bool) → m f ≡ b → (b && stays m f) ≡ false → Impure s f
      by_mark f false i e = a.refused f i
      by_mark f true i e = by_list f (fit_there (routine_named s f) _ (a.harmless f i))
          (list_all (runs_marked m) (effects_of_routine s f)) refl e

  -- marks of which none is dropped
  settled : (m : RoutineName → Bool) → Sound m → list_all (λ f. not (m f) || stays m f) all_declared ≡ true →
      AreMarks s m
  settled m a e = record { harmless = a.harmless; closed = closed; refused = a.refused }
    where
      marked_stays : (b c : Bool) → b ≡ true → (not b || c) ≡ true → c ≡ true
      marked_stays true c i e = e
      marked_stays false c i e = cc

      stays_so : (f : RoutineName) → m f ≡ true → stays m f ≡ true
      stays_so f i = marked_stays (m f) (stays m f) i (listed_passes (λ f. not (m f) || stays m f) (is_declared f (fit_there (routine_named s f) _ (a.harmless f i))) e)

      both : (a b c : Bool) → a ≡ true → b ≡ true → c ≡ true → ((a && b) && c) ≡ true
      both true true true i j k = refl
      both false b c i j k = cc
      both true false c i j k = cc
      both true true false i j k = cc

      closed : (f g : RoutineName) → m f ≡ true → RunsInto s f g → m g ≡ true
      closed f g i (called p) = listed_passes (runs_marked m) p (and_true (list_all (runs_marked m) (effects_of_routine s f)) _ (stays_so f i)).0
      closed f g i (redeclared r n j k) = marked_stays (is_redeclared f g) (m g)
          (both (is_ancestor s g.class f.class) (bytes_eq f.name g.name) (is_some (routine_named s g)) r ((bytes_eq-Decides f.name g.name).1 n) k)
          (listed_passes (λ g. not (is_redeclared f g) || m g) (is_declared g k) (and_true (list_all (runs_marked m) (effects_of_routine s f)) _ (stays_so f i)).1)

  by_all : (m : RoutineName → Bool) → Sound m → (n : ℕ) (b : Bool) →
      list_all (λ f. not (m f) || stays m f) all_declared ≡ b → marked m all_declared ≤ n →
      ((marked (next m) all_declared < n) → (pure : RoutineName → Bool) × IsPurity s pure) →
      (pure : RoutineName → Bool) × IsPurity s pure
  by_all m a n true e l f = (m, are_purity s m (settled m a e))
  by_all m a n false e l f = f (less (fewer m (stays m) all_declared e) l)
    where
      less : marked (next m) all_declared < marked m all_declared → marked m all_declared ≤ n →
          marked (next m) all_declared < n
      less i j = grind arith

  settle : (n : ℕ) (m : RoutineName → Bool) → marked m all_declared ≤ n → Sound m → (pure : RoutineName → Bool) ×
      IsPurity s pure
  settle zero m l a = by_all m a zero (list_all (λ f. not (m f) || stays m f) all_declared) refl l (λ i. absurd (none i))
    where
      none : marked (next m) all_declared < 0 → ⊥
      none i = grind arith
  settle (suc n) m l a = by_all m a (suc n)
      (list_all (λ f. not (m f) || stays m f) all_declared) refl l (λ i. settle n (next m) (within i) (next_sound m a))
    where
      within : marked (next m) all_declared < suc n → marked (next m) all_declared ≤ n
      within i = grind arith

  pub purity_stands : (pure : RoutineName → Bool) × IsPurity s pure
  purity_stands = settle (marked harmless all_declared) harmless (grind arith)
      (record { harmless = λ f e. not_so (is_impure_itself s f) e; refused = λ f e. impure_first s f (so (is_impure_itself s f) e) })
    where
      harmless : RoutineName → Bool
      harmless f = not (is_impure_itself s f)

      not_so : (b : Bool) → not b ≡ true → b ≡ false
      not_so false e = refl
      not_so true e = cc

      so : (b : Bool) → not b ≡ false → b ≡ true
      so true e = refl
      so false e = cc
