-- In an accepted system the clauses that classes have in flat code, each its own, make up the joined invariants.
use Rattle.std.proofs.Common.{◌≡◌, ◌<◌, ◌≤◌, ◌+◌, ◌-◌, ℕ, zero, suc, Bool, true, false, cond, List, [], ◌∷◌, ◌++◌, Option, Some, None, length, map, refl, ap, sym, ◌∙◌, arith}
use Rattle.std.specs.Prelude.{◌==◌, not, slice_get}
use Rattle.std.specs.Option.{option_map_or}
use Rattle.std.proofs.lemmas.Bool.{eqb-true}
use Rattle.std.proofs.lemmas.List.{append-nil, length-append, length-map, map-append}
use Rattle.std.proofs.lemmas.List.FromFn.{get_or-map-range_with_len, length-map-range_with_len}
use Rattle.std.proofs.lemmas.Option.{slice_get-get_or}
use Rattle.sc_formula.specs.Formula.{PlainFormula}
use Rattle.sc_tree.specs.Plain.{System, Clause}
use Rattle.sc_class.specs.ClassNames.{Root}
use Rattle.sc_class.specs.Faults.ClassRules.{IsFaultless}
use Rattle.sc_class.specs.Tables.Ancestors.{ancestors, ancestors_within, parent_number}
use Rattle.sc_class.specs.Tables.Features.{declared_features, declared_invariant, features, invariant_along, invariant_of}
use Rattle.sc_class.proofs.Acyclic.{ancestors_climb}
use Rattle.sc_class.proofs.Ancestry.{parent_within}
use Rattle.sc_class.proofs.Apart.{features_differ}
use Rattle.sc_rules.specs.Names.{RoutineName}
use Rattle.sc_rules.specs.Purity.{IsPurity}
use Rattle.sc_rules.specs.SystemRules.{WellFormed}
use Rattle.sc_model.specs.Environments.{Binding}
use Rattle.sc_model.specs.Invariants.{clauses_of, formula_of, formulas_of, with_clause}
use Rattle.sc_model.specs.Objects.{fresh_attributes}
use Rattle.sc_code.specs.Attributes.{has_clauses, known_formulas, own_formulas, with_clauses}
use Rattle.sc_code.specs.Invariants.{InvariantsAreJoined}
use Rattle.sc_code.specs.JoinedInvariants.{joined_in, joined_invariant, kept_along, kept_from, moved}
use Rattle.sc_code.specs.Programs.{PlainClass, class_code_of, class_codes_of}
use Rattle.sc_code.proofs.HeirFormulas.{clauses_there}
use Rattle.sc_code.proofs.InheritedAttributes.{attributes_inherited, own_apart}
use Rattle.sc_code.proofs.InvariantFormulas.{invariants_are_known}
use Rattle.sc_code.proofs.MovedFormulas.{all_still, all_twice, none_in_front}

-- ---- clauses of two lists

abbrev both : Option (List PlainFormula) → Option (List PlainFormula) → Option (List PlainFormula)
both (Some fs) (Some gs) = Some (fs ++ gs)
both (Some fs) None = None
both None o = None

one_more : (f : Option PlainFormula) (o p : Option (List PlainFormula)) → with_clause f (both o p) ≡ both (with_clause f o) p
one_more None o p = refl
one_more (Some f) None p = refl
one_more (Some f) (Some fs) None = refl
one_more (Some f) (Some fs) (Some gs) = refl

clauses_both : (bs : List Binding) (cs ds : List Clause) → clauses_of bs (cs ++ ds) ≡ both (clauses_of bs cs) (clauses_of bs ds)
clauses_both bs [] ds = none (clauses_of bs ds)
  where
    none : (o : Option (List PlainFormula)) → o ≡ both (Some []) o
    none None = refl
    none (Some gs) = refl
clauses_both bs (c ∷ cs) ds =
    ap (with_clause (formula_of bs c.condition)) (clauses_both bs cs ds) ∙ one_more (formula_of bs c.condition) (clauses_of bs cs) (clauses_of bs ds)

known_both : (fs gs : List PlainFormula) (o : Option (List PlainFormula)) → both (Some fs) o ≡ Some gs → gs ≡ fs ++ known_formulas o
known_both fs gs None e = cc
known_both fs gs (Some hs) e = ap known_formulas (sym e)

no_clauses : (cs : List Clause) → not (length cs == 0) ≡ false → cs ≡ []
no_clauses [] e = refl
no_clauses (c ∷ cs) e = by (length (c ∷ cs) == 0) refl e
  where
    by : (b : Bool) → (length (c ∷ cs) == 0) ≡ b → not b ≡ false → c ∷ cs ≡ []
    by true q h = let none : suc (length cs) ≡ 0 = eqb-true (length (c ∷ cs)) 0 q in absurd (omega (arith, none))
    by false q h = cc

-- ---- a class and its parent

-- the ancestors of a class without a parent
alone : (s : System) (k n : ℕ) → k < n → parent_number s k ≡ None → ancestors_within n s k ≡ k ∷ []
alone s k zero l e = absurd (omega (arith, l))
alone s k (suc n) l e = ap (λ (o : Option ℕ). k ∷ option_map_or (ancestors_within n s) o []) e

module _ (s : System) (root : Root) (pure : RoutineName → Bool) (w : IsFaultless s root) (well : WellFormed s) (tells : IsPurity s pure) where
  abbrev attributes : ℕ → List Binding
  attributes k = fresh_attributes s (features s k)

  abbrev own : ℕ → List Binding
  own k = fresh_attributes s (declared_features s k)

  abbrev joined : ℕ → List PlainFormula
  joined k = known_formulas (formulas_of s k)

  known : (k : ℕ) → formulas_of s k ≡ Some (joined k)
  known k = invariants_are_known s root pure w well tells k

  -- the joined invariant of a class without a parent is its own
  joined_alone : (k : ℕ) → k < length s.classes → parent_number s k ≡ None → joined k ≡ own_formulas s k
  joined_alone k l e = ap (λ ks. known_formulas (clauses_of (attributes k) (invariant_along s ks))) (alone s k (length s.classes) l e)

  -- that of an heir is its parent's, moved behind its own attributes, and then its own
  joined_heir : (k i : ℕ) → parent_number s k ≡ Some i → joined k ≡ map (moved (length (own k))) (joined i) ++ own_formulas s k
  joined_heir k i p = known_both (map (moved (length (own k))) (joined i)) (joined k) (clauses_of (attributes k) (declared_invariant s k)) parts
    where
      there : clauses_of (attributes k) (invariant_of s i) ≡ Some (map (moved (length (own k))) (joined i))
      there =
          ap (λ bs. clauses_of bs (invariant_of s i)) (attributes_inherited s root w k i p (features_differ s root w))
          ∙ clauses_there (own k) (attributes i) (own_apart s root w k i p (features_differ s root w)) (invariant_of s i) (joined i) (known i)

      parts : both (Some (map (moved (length (own k))) (joined i))) (clauses_of (attributes k) (declared_invariant s k)) ≡ Some (joined k)
      parts =
          ap (λ o. both o (clauses_of (attributes k) (declared_invariant s k))) (sym there)
          ∙ sym (clauses_both (attributes k) (invariant_of s i) (declared_invariant s k))
          ∙ sym (ap (λ ks. clauses_of (attributes k) (invariant_along s ks)) (ancestors_climb s root w k i p))
          ∙ known k

  module _ (names : List (List ℕ)) where
    abbrev classes : List PlainClass
    classes = class_codes_of s names

    class_there : (k : ℕ) → k < length s.classes → slice_get classes k ≡ Some (class_code_of s names k)
    class_there k l =
        let many = length-map-range_with_len (class_code_of s names) 0 (length s.classes) in
        slice_get-get_or classes k (class_code_of s names k) (omega (arith, many, l))
        ∙ ap (λ c. Some c) (get_or-map-range_with_len (class_code_of s names) 0 (length s.classes) k k (class_code_of s names k) l (none_in_front k))

    many_attributes : (k : ℕ) → length (class_code_of s names k).attributes ≡ length (attributes k)
    many_attributes k = length-map (attributes k) (λ (b : Binding). (b.value, b.type.attached))

    module _ (n : ℕ) where
      abbrev kept : List ℕ → List PlainFormula
      kept ks = kept_along classes n (with_clauses s ks)

      abbrev here : ℕ → List PlainFormula
      here k = map (moved (n - length (attributes k))) (own_formulas s k)

      -- a class's own clauses come behind those of its ancestors, if it has any
      kept_more : (k : ℕ) (ks : List ℕ) → k < length s.classes → kept (k ∷ ks) ≡ kept ks ++ here k
      kept_more k ks l = by (has_clauses s k) refl
        where
          by : (b : Bool) → has_clauses s k ≡ b → kept_along classes n (cond b (k ∷ with_clauses s ks) (with_clauses s ks)) ≡ kept ks ++ here k
          by true e =
              ap (λ o. kept ks ++ kept_from n o) (class_there k l)
              ∙ ap (λ m. kept ks ++ map (moved (n - m)) (own_formulas s k)) (many_attributes k)
          by false e =
              sym (append-nil (kept ks))
              ∙ ap (λ cs. kept ks ++ map (moved (n - length (attributes k))) (known_formulas (clauses_of (attributes k) cs))) (sym (no_clauses (declared_invariant s k) e))

      abbrev Kept : ℕ → Type 0
      Kept k = kept (ancestors s k) ≡ map (moved (n - length (attributes k))) (joined k)

      kept_below : (m k : ℕ) → length (ancestors s k) ≤ m → k < length s.classes → length (attributes k) ≤ n →
          ((i : ℕ) → suc (length (ancestors s i)) ≤ m → i < length s.classes → length (attributes i) ≤ n → Kept i) →
          (o : Option ℕ) → parent_number s k ≡ o → Kept k
      kept_below m k l within few above None e =
          ap kept (alone s k (length s.classes) within e) ∙ kept_more k [] within
          ∙ ap (map (moved (n - length (attributes k)))) (sym (joined_alone k within e))
      kept_below m k l within few above (Some i) e =
          let many : length (ancestors s k) ≡ suc (length (ancestors s i)) = ap length (ancestors_climb s root w k i e) in
          let count : length (attributes k) ≡ length (own k) + length (attributes i) =
          ap length (attributes_inherited s root w k i e (features_differ s root w)) ∙ length-append (own k) (attributes i) in
          let further : n - length (attributes i) ≡ (n - length (attributes k)) + length (own k) = omega (arith, count, few) in
          let higher = above i (omega (arith, l, many)) (parent_within s k i e).1 (omega (arith, count, few)) in
          ap kept (ancestors_climb s root w k i e) ∙ kept_more k (ancestors s i) within
          ∙ ap (λ fs. fs ++ here k) (higher ∙ ap (λ d. map (moved d) (joined i)) further
          ∙ sym (all_twice (n - length (attributes k)) (length (own k)) (joined i)))
          ∙ sym (map-append (moved (n - length (attributes k))) (map (moved (length (own k))) (joined i)) (own_formulas s k))
          ∙ ap (map (moved (n - length (attributes k)))) (sym (joined_heir k i e))

      kept_is : (m k : ℕ) → length (ancestors s k) ≤ m → k < length s.classes → length (attributes k) ≤ n → Kept k
      kept_is zero k l within few = kept_below zero k l within few (λ i more. absurd (omega (arith, more))) (parent_number s k) refl
      kept_is (suc m) k l within few = kept_below (suc m) k l within few (λ i more. kept_is m i (omega (arith, more))) (parent_number s k) refl

    joined_is : (k : ℕ) → k < length s.classes → joined_invariant classes k ≡ joined k
    joined_is k l =
        let n = length (attributes k) in
        let none : n - n ≡ 0 = omega arith in
        ap (joined_in classes) (class_there k l)
        ∙ ap (λ m. kept_along classes m (with_clauses s (ancestors s k))) (many_attributes k)
        ∙ kept_is n (length (ancestors s k)) k (omega arith) l (omega arith)
        ∙ ap (λ d. map (moved d) (joined k)) none ∙ all_still (joined k)

pub invariants_are_joined : InvariantsAreJoined
invariants_are_joined s root pure w well tells names k l = joined_is s root pure w well tells names k l
