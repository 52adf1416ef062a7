-- What is at fault in the features of classes, as one class after another is looked at.
use Rattle.std.proofs.Common.{◌≡◌, ◌<◌, ◌≤◌, ◌+◌, ℕ, zero, suc, Bool, true, false, List, [], ◌∷◌, Option, Some, None, length, map, refl, ap, sym, subst, ◌∙◌, ◌⊎◌, inl, inr, arith, below_more}
use Rattle.std.specs.Prelude.{slice_get, slice_set, unwrap_or}
use Rattle.std.proofs.lemmas.Option.{slice_get_within}
use Rattle.sc_text.specs.declared.token.Span.{Span}
use Rattle.sc_tree.specs.Plain.{System, Class, Feature}
use Rattle.sc_class.specs.declared.faults.features.FeatureFaults.{FeatureFaults}
use Rattle.sc_class.specs.declared.faults.scopes.features.Part.TheVariants.{All, Inherited}
use Rattle.sc_class.specs.Faults.Redefinition.{BadlyRedefines}
use Rattle.sc_class.specs.Faults.Scopes.{ClassClashes}
use Rattle.sc_class.specs.Internal.FaultAt.{FaultAt}
use Rattle.sc_class.specs.Internal.FeatureFaults.{AddsThoseOf, AreFound, AreOfAll, Goes, IsDone, Marks}
use Rattle.sc_class.specs.Internal.Places.{Gains, Has, union}
use Rattle.sc_class.specs.Internal.ScopeSearch.{class_clash, names_clash, names_of_part, texts_clash}
use Rattle.sc_class.proofs.Anys.{any_none}
use Rattle.sc_class.proofs.Items.{some_is}
use Rattle.sc_class.proofs.PlaceLists.{gains_union}
use Rattle.sc_class.proofs.ScopesFound.{class_found}
use Rattle.sc_class.proofs.ScopeSteps.{two}

-- the clashes of a class are added, those of its features and then those in its texts
pub class_gained : (s : System) (k : ℕ) (c : Class) → slice_get s.classes k ≡ Some c → (f g h : List Span) → g ≡ union f (names_clash (names_of_part Inherited s k) [] (map (λ (f : Feature). f.name) c.features)) → h ≡ union g (texts_clash (names_of_part All s k) c) → Gains (ClassClashes s k c) f h
class_gained s k c is_class f g h i j =
    gains_union f (class_clash s k c) h (class_found s k c is_class) (j ∙ two f g (names_clash (names_of_part Inherited s k) [] (map (λ (f : Feature). f.name) c.features)) (texts_clash (names_of_part All s k) c) i)

-- ---- classes that have been looked at

set_done : (xs : List Bool) (n : ℕ) → n < length xs → IsDone (slice_set xs n true) n
set_done [] n l = absurd (omega arith)
set_done (x ∷ xs) zero l = refl
set_done (x ∷ xs) (suc n) l = set_done xs n (less l)
  where
    less : suc n < suc (length xs) → n < length xs
    less l = omega arith

set_keeps : (xs : List Bool) (n k : ℕ) → IsDone xs k → IsDone (slice_set xs n true) k
set_keeps [] n k e = e
set_keeps (x ∷ xs) zero zero e = refl
set_keeps (x ∷ xs) zero (suc k) e = e
set_keeps (x ∷ xs) (suc n) zero e = e
set_keeps (x ∷ xs) (suc n) (suc k) e = set_keeps xs n k e

set_before : (xs : List Bool) (n k : ℕ) → IsDone (slice_set xs n true) k → (k ≡ n) ⊎ IsDone xs k
set_before [] n k e = inr e
set_before (x ∷ xs) zero zero e = inl refl
set_before (x ∷ xs) zero (suc k) e = inr e
set_before (x ∷ xs) (suc n) zero e = inr e
set_before (x ∷ xs) (suc n) (suc k) e = of (set_before xs n k e)
  where
    of : (k ≡ n) ⊎ IsDone xs k → (suc k ≡ suc n) ⊎ IsDone xs k
    of (inl p) = inl (ap suc p)
    of (inr p) = inr p

set_length : (xs : List Bool) (n : ℕ) → length (slice_set xs n true) ≡ length xs
set_length [] n = refl
set_length (x ∷ xs) zero = refl
set_length (x ∷ xs) (suc n) = ap suc (set_length xs n)

pub set_marks : (xs : List Bool) (n : ℕ) → n < length xs → Marks n xs (slice_set xs n true)
set_marks xs n l = record { same_length = set_length xs n; keeps = set_keeps xs n; done = λ m. set_done xs n m; before = set_before xs n }

pub none_marked : (xs : List Bool) (n : ℕ) → length xs ≤ n → Marks n xs xs
none_marked xs n l = record { same_length = refl; keeps = λ k d. d; done = λ m. absurd (omega (arith, l, m)); before = λ k d. inr d }

pub is_done : (xs : List Bool) (n : ℕ) → unwrap_or (slice_get xs n) false ≡ true → IsDone xs n
is_done xs n e = by (slice_get xs n) e
  where
    by : (o : Option Bool) → unwrap_or o false ≡ true → o ≡ Some true
    by None e = cc
    by (Some true) e = refl
    by (Some false) e = cc

pub goes_done : (s : System) (xs : List Bool) (n : ℕ) → IsDone xs n → Goes s n xs xs
goes_done s xs n d = record { same_length = refl; keeps = λ k e. e; done = λ l m. d }

pub goes_past : (s : System) (xs : List Bool) (n : ℕ) → slice_get s.classes n ≡ None → Goes s n xs xs
goes_past s xs n e = record { same_length = refl; keeps = λ k d. d; done = λ l m. absurd (there s.classes n m e) }
  where
    there : (cs : List Class) (n : ℕ) → n < length cs → slice_get cs n ≡ None → ⊥
    there [] n l e = absurd (omega arith)
    there (c ∷ cs) zero l e = cc
    there (c ∷ cs) (suc n) l e = there cs n (less l) e
      where
        less : suc n < suc (length cs) → n < length cs
        less l = omega arith

pub goes_on : (s : System) (n : ℕ) (old new : List Bool) → Marks n old new → Goes s n old new
goes_on s n old new m = record { same_length = m.same_length; keeps = m.keeps; done = λ l k. m.done l }

-- ---- what is found

module _ (s : System) (n : ℕ) (c : Class) (is_class : slice_get s.classes n ≡ Some c) (done done' : List Bool) (marks : Marks n done done') where
  -- of one kind of faults
  module _ (P : ℕ → Class → Span → Type 0) (found found' : List Span) (gains : Gains (P n c) found found') where
    are_more : ((p : Span) → Has found p → FaultAt s P p) → (p : Span) → Has found' p → FaultAt s P p
    are_more are p h = of (gains.each_is p h)
      where
        of : Has found p ⊎ P n c p → FaultAt s P p
        of (inl i) = are p i
        of (inr y) = (n, c, is_class, y)

    of_more : ((k : ℕ) (d : Class) → IsDone done k → slice_get s.classes k ≡ Some d → (p : Span) → P k d p → Has found p) →
        (k : ℕ) (d : Class) → IsDone done' k → slice_get s.classes k ≡ Some d → (p : Span) → P k d p → Has found' p
    of_more all k d i e p y = of (marks.before k i)
      where
        of : (k ≡ n) ⊎ IsDone done k → Has found' p
        of (inl q) =
            let same : d ≡ c = some_is d c (sym e ∙ ap (slice_get s.classes) q ∙ is_class) in
            gains.each_listed p (subst (λ (d : Class). P n d p) same (subst (λ (k : ℕ). P k d p) q y))
        of (inr j) = gains.keeps p (all k d j e p y)

  pub more_found : (found found' : FeatureFaults) → AreFound s done found → AddsThoseOf s n c found found' → AreFound s done' found'
  more_found found found' are adds = record {
    clashes_are = are_more (ClassClashes s) found.clash found'.clash adds.clash are.clashes_are;
    clashes_of = of_more (ClassClashes s) found.clash found'.clash adds.clash are.clashes_of;
    redefinitions_are = are_more (BadlyRedefines s) found.redefinition found'.redefinition adds.redefinition are.redefinitions_are;
    redefinitions_of = of_more (BadlyRedefines s) found.redefinition found'.redefinition adds.redefinition are.redefinitions_of;
  }

pub none_found : (s : System) (done : List Bool) (found : FeatureFaults) → ((k : ℕ) → IsDone done k → ⊥) → found.clash ≡ [] → found.redefinition ≡ [] → AreFound s done found
none_found s done found none e f = record {
  clashes_are = λ p h. absurd (any_none (subst (λ ps. Has ps p) e h));
  clashes_of = λ k c d g p y. absurd (none k d);
  redefinitions_are = λ p h. absurd (any_none (subst (λ ps. Has ps p) f h));
  redefinitions_of = λ k c d g p y. absurd (none k d);
}

pub all_found : (s : System) (done : List Bool) (found : FeatureFaults) (n : ℕ) → length s.classes ≤ n → ((k : ℕ) → k < n → IsDone done k) → AreFound s done found → AreOfAll s found
all_found s done found n l all are = record {
  clash = record { each_is = are.clashes_are; each_listed = λ p y. are.clashes_of y.0 y.1 (there y.0 y.1 y.2) y.2 p y.3 };
  redefinition = record { each_is = are.redefinitions_are; each_listed = λ p y. are.redefinitions_of y.0 y.1 (there y.0 y.1 y.2) y.2 p y.3 };
}
  where
    there : (k : ℕ) (c : Class) → slice_get s.classes k ≡ Some c → IsDone done k
    there k c e = let m = slice_get_within s.classes k c e in all k (omega (arith, l, m))

pub done_more : (s : System) (n : ℕ) (old new : List Bool) → Goes s n old new → n < length old → n < length s.classes → ((k : ℕ) → k < n → IsDone old k) → (k : ℕ) → k < n + 1 → IsDone new k
done_more s n old new goes l m below = below_more (λ k. IsDone new k) n (λ k i. goes.keeps k (below k i)) (goes.done l m)
