-- If each marked routine's callers and the version that it redefines are marked, so are all versions above it.
use Rattle.std.proofs.Common.{◌≡◌, ◌<◌, ◌==◌, ℕ, zero, suc, Bool, true, false, List, [], ◌∷◌, length, Option, Some, None, refl, ap, sym, ◌∙◌, subst, arith}
use Rattle.std.specs.Prelude.{◌||◌, nat_lt, if◌then◌else◌}
use Rattle.std.specs.List.{list_any}
use Rattle.std.specs.Option.{option_and_then, option_map_or, option_or}
use Rattle.sc_tree.specs.Plain.{System}
use Rattle.sc_class.specs.declared.identity.ClassId.TheVariants as class
use Rattle.sc_class.specs.ClassNames.{Root}
use Rattle.sc_class.specs.Faults.ClassRules.{IsFaultless}
use Rattle.sc_class.specs.Tables.Ancestors.{parent_number, ancestors_within, ancestors}
use Rattle.sc_class.specs.Tables.ByClass.{ancestors_of}
use Rattle.sc_class.specs.Tables.Conformance.{is_ancestor}
use Rattle.sc_class.specs.Internal.Search.{IsSeen}
use Rattle.sc_class.proofs.Acyclic.{ancestors_climb}
use Rattle.sc_class.proofs.Ancestry.{parent_within}
use Rattle.sc_class.proofs.Anys.{any_first, any_later}
use Rattle.sc_class.proofs.Items.{some_is}
use Rattle.sc_rules.specs.Names.{RoutineName}
use Rattle.sc_typing.specs.FeatureNumbers.{feature_number}
use Rattle.sc_typing.proofs.FeatureNumbers.{is_declared, class_there}
use Rattle.sc_check.specs.purity.Internal.Versions.{nearest_in, nearest_above, IsFollowed}
use Rattle.sc_check.specs.purity.Internal.ImpureSearch.{IsNamedIn}

-- the ancestors in the tables, of a class that is there
pub ancestors_there : (s : System) (m : ℕ) → m < length s.classes → ancestors_of s (class.Declared m) ≡ ancestors s m
ancestors_there s m l = ap (λ b. if b then ancestors s m else []) (below m (length s.classes) l)
  where
    below : (m n : ℕ) → m < n → nat_lt m n ≡ true
    below m n l = grind (arith, l)

-- the nearest version is one of these
nearest_named : (s : System) (x : List ℕ) (ks : List ℕ) (k : ℕ) → nearest_in s x ks ≡ Some k → IsNamedIn s ks x k
nearest_named s x [] k e = cc
nearest_named s x (i ∷ ks) k e = by (feature_number s (record { class = i; name = x })) refl (nearest_named s x ks k) e
  where
    by : (o : Option ℕ) → feature_number s (record { class = i; name = x }) ≡ o → (nearest_in s x ks ≡ Some k → IsNamedIn s ks x k) →
        option_or o (nearest_in s x ks) ≡ Some k → IsNamedIn s (i ∷ ks) x k
    by None h further e = any_later {P = λ (i : ℕ). feature_number s (record { class = i; name = x }) ≡ Some k} i ks (further e)
    by (Some m) h further e = any_first {P = λ (i : ℕ). feature_number s (record { class = i; name = x }) ≡ Some k} i ks (h ∙ e)

-- the version that a routine redefines is declared in an ancestor
pub version_named : (s : System) (root : Root) → IsFaultless s root → (g : RoutineName) (k : ℕ) → nearest_above s g ≡ Some k → IsNamedIn s (ancestors s g.class) g.name k
version_named s root w g k e = by (parent_number s g.class) refl e
  where
    by : (o : Option ℕ) → parent_number s g.class ≡ o → option_and_then (λ i. nearest_in s g.name (ancestors_of s (class.Declared i))) o ≡ Some k → IsNamedIn s (ancestors s g.class) g.name k
    by None p e = cc
    by (Some i) p e =
        subst (λ ks. IsNamedIn s ks g.name k) (sym (ancestors_climb s root w g.class i p))
        (any_later {P = λ (i : ℕ). feature_number s (record { class = i; name = g.name }) ≡ Some k} g.class (ancestors s i)
        (nearest_named s g.name (ancestors s i) k (sym (ap (nearest_in s g.name) (ancestors_there s i (parent_within s g.class i p).1)) ∙ e)))

-- the nearest version, in the class at the number or above it, is marked
abbrev NearestSeen : System → List ℕ → List Bool → ℕ → Type 0
NearestSeen s x impure k = (m : ℕ) → nearest_in s x (ancestors s k) ≡ Some m → IsSeen impure m

module _ (s : System) (root : Root) (w : IsFaultless s root) (x : List ℕ) (impure : List Bool)
    (followed : (g : RoutineName) (j : ℕ) → feature_number s g ≡ Some j → IsSeen impure j → IsFollowed s impure g) where
  next_seen : (k i : ℕ) → parent_number s k ≡ Some i → NearestSeen s x impure k → NearestSeen s x impure i
  next_seen k i p n m a = by (feature_number s (record { class = k; name = x })) refl
    where
      here : (o : Option ℕ) → feature_number s (record { class = k; name = x }) ≡ o → nearest_in s x (ancestors s k) ≡ option_or o (nearest_in s x (ancestors s i))
      here o e = ap (nearest_in s x) (ancestors_climb s root w k i p) ∙ ap (λ o. option_or o (nearest_in s x (ancestors s i))) e

      above : nearest_above s (record { class = k; name = x }) ≡ nearest_in s x (ancestors s i)
      above =
          ap (option_and_then (λ i. nearest_in s x (ancestors_of s (class.Declared i)))) p
          ∙ ap (nearest_in s x) (ancestors_there s i (parent_within s k i p).1)

      by : (o : Option ℕ) → feature_number s (record { class = k; name = x }) ≡ o → IsSeen impure m
      by None e = n m (here None e ∙ a)
      by (Some j) e = (followed (record { class = k; name = x }) j e (n j (here (Some j) e))).version_seen m (above ∙ a)

  -- so it is in each ancestor
  ancestors_seen : (j n k : ℕ) → list_any (λ i. i == j) (ancestors_within n s k) ≡ true → NearestSeen s x impure k → NearestSeen s x impure j
  ancestors_seen j zero k e seen = cc
  ancestors_seen j (suc n) k e seen = by_first (k == j) refl e (ancestors_seen j n)
    where
      number_is : (k == j) ≡ true → k ≡ j
      number_is e = grind arith

      by_parent : (o : Option ℕ) → parent_number s k ≡ o → list_any (λ i. i == j) (option_map_or (ancestors_within n s) o []) ≡ true →
          ((i : ℕ) → list_any (λ i. i == j) (ancestors_within n s i) ≡ true → NearestSeen s x impure i → NearestSeen s x impure j) → NearestSeen s x impure j
      by_parent None p e further = cc
      by_parent (Some i) p e further = further i e (next_seen k i p seen)

      by_first : (b : Bool) → (k == j) ≡ b → (b || list_any (λ i. i == j) (option_map_or (ancestors_within n s) (parent_number s k) [])) ≡ true →
          ((i : ℕ) → list_any (λ i. i == j) (ancestors_within n s i) ≡ true → NearestSeen s x impure i → NearestSeen s x impure j) → NearestSeen s x impure j
      by_first true h e further = subst (NearestSeen s x impure) (number_is h) seen
      by_first false h e further = by_parent (parent_number s k) refl e further

  nearest_itself : (k m : ℕ) → feature_number s (record { class = k; name = x }) ≡ Some m → nearest_in s x (ancestors s k) ≡ Some m
  nearest_itself k m e = at (length s.classes) (class_there s (record { class = k; name = x }) (is_declared s (record { class = k; name = x }) m e))
    where
      at : (n : ℕ) → k < n → nearest_in s x (ancestors_within n s k) ≡ Some m
      at zero l = absurd (omega (arith, l))
      at (suc n) l = ap (λ o. option_or o (nearest_in s x (option_map_or (ancestors_within n s) (parent_number s k) []))) e

  -- the versions above one that is marked are marked
  pub versions_seen : (k j i m : ℕ) → feature_number s (record { class = k; name = x }) ≡ Some i → IsSeen impure i → is_ancestor s k j ≡ true →
      feature_number s (record { class = j; name = x }) ≡ Some m → IsSeen impure m
  versions_seen k j i m e y a d = ancestors_seen j (length s.classes) k a start m (nearest_itself j m d)
    where
      start : NearestSeen s x impure k
      start m h = subst (IsSeen impure) (some_is i m (sym (nearest_itself k i e) ∙ h)) y
