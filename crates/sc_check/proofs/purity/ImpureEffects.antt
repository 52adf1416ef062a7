-- What a search comes to, and the effects that it holds.
use Rattle.std.proofs.Common.{◌≡◌, ◌==◌, ℕ, Bool, true, false, List, [], ◌∷◌, ◌++◌, length, Option, Some, None, inl, inr, refl, ap, sym, ◌∙◌, subst, arith}
use Rattle.std.specs.Prelude.{◌⊎◌, Contains, not, ◌||◌, if◌then◌else◌}
use Rattle.std.specs.List.{list_any}
use Rattle.std.specs.declared.vec.Vec.{Vec}
use Rattle.std.specs.declared.alloc.Global.{Global}
use Rattle.std.proofs.lemmas.List.Elements.{Contains-push, Contains-append_left, Contains-push_cases}
use Rattle.sc_tree.specs.Plain.{System}
use Rattle.sc_class.specs.Internal.Search.{IsSeen, IsTodo, Grows}
use Rattle.sc_class.proofs.Anys.{seen}
use Rattle.sc_class.proofs.Items.{some_is}
use Rattle.sc_rules.specs.Names.{RoutineName}
use Rattle.sc_rules.specs.Purity.{routine_named, is_pure_candidate_if_any}
use Rattle.sc_rules.specs.JudgingPurity.{Effect, side_effect, routine_call, side_effect_if, effects_of_routine, is_side_effect, is_impure_itself, Lists, first, later}
use Rattle.sc_rules.proofs.PurityLists.{in_right, in_either, side_effect_listed, listed_side_effect}
use Rattle.sc_typing.specs.FeatureNumbers.{feature_number}
use Rattle.sc_check.specs.purity.Internal.Callers.{callers_in}
use Rattle.sc_check.specs.purity.Internal.Effects.{all_effects}
use Rattle.sc_check.specs.purity.Internal.ImpureSearch.{IsCallOf, IsRecorded}

-- ---- what a search comes to

pub grows_as : {P Q : ℕ → Type 0} {seen seen' : List Bool} {todo todo' : List ℕ} → ((k : ℕ) → P k → Q k) → Grows P seen todo seen' todo' → Grows Q seen todo seen' todo'
grows_as {P} {Q} {seen} {seen'} {todo} {todo'} f g = record {
  same_length = g.same_length;
  keeps = g.keeps;
  seen_before = λ k x. as_one k (g.seen_before k x);
  todo_keeps = g.todo_keeps;
  todo_before = g.todo_before;
  no_more = g.no_more;
}
  where
    as_one : (k : ℕ) → IsSeen seen k ⊎ (P k × IsTodo todo' k) → IsSeen seen k ⊎ (Q k × IsTodo todo' k)
    as_one k (inl x) = inl x
    as_one k (inr (p, t)) = inr (f k p, t)

-- it came to nothing
pub grows_none : (P : ℕ → Type 0) (seen : List Bool) (todo : List ℕ) → Grows P seen todo seen todo
grows_none P seen todo = record {
  same_length = refl;
  keeps = λ k x. x;
  seen_before = λ k x. inl x;
  todo_keeps = λ k t. t;
  todo_before = λ k t. inl t;
  no_more = omega arith;
}

-- ---- effects

leading_is : (f g : RoutineName) → routine_call f ≡ routine_call g → f ≡ g
leading_is f g e = cc

no_call : (g : RoutineName) → side_effect ≡ routine_call g → ⊥
no_call g e = cc

no_act : (g : RoutineName) → routine_call g ≡ side_effect → ⊥
no_act g e = cc

pub only_one : (x d : Effect) → Lists x (d ∷ []) → d ≡ x
only_one x d first = refl
only_one x d (later p) = elim p [ ]

pub act_of : (s : System) (f : RoutineName) → Lists side_effect (all_effects s f) → is_impure_itself s f ≡ true
act_of s f p = in_either (side_effect_if (not (is_pure_candidate_if_any (routine_named s f)))) (effects_of_routine s f) p
    (λ q. by_fit (not (is_pure_candidate_if_any (routine_named s f))) q)
    (λ q. behind (not (is_pure_candidate_if_any (routine_named s f))) (list_any is_side_effect (effects_of_routine s f)) (side_effect_listed (effects_of_routine s f) q))
  where
    behind : (a b : Bool) → b ≡ true → (a || b) ≡ true
    behind true b e = refl
    behind false b e = e

    by_fit : (a : Bool) → Lists side_effect (side_effect_if a) → (a || list_any is_side_effect (effects_of_routine s f)) ≡ true
    by_fit true q = refl
    by_fit false q = elim q [ ]

pub acts_in : (s : System) (f : RoutineName) → is_impure_itself s f ≡ true → Lists side_effect (all_effects s f)
acts_in s f e = by_fit (not (is_pure_candidate_if_any (routine_named s f))) e
  where
    by_fit : (a : Bool) → (a || list_any is_side_effect (effects_of_routine s f)) ≡ true → Lists side_effect (side_effect_if a ++ effects_of_routine s f)
    by_fit true e = first
    by_fit false e = listed_side_effect (effects_of_routine s f) e

pub call_of : (s : System) (f g : RoutineName) → Lists (routine_call g) (all_effects s f) → Lists (routine_call g) (effects_of_routine s f)
call_of s f g p = by_fit (not (is_pure_candidate_if_any (routine_named s f))) p
  where
    by_fit : (a : Bool) → Lists (routine_call g) (side_effect_if a ++ effects_of_routine s f) → Lists (routine_call g) (effects_of_routine s f)
    by_fit true (later p) = p
    by_fit false p = p

pub calls_in : (s : System) (f g : RoutineName) → Lists (routine_call g) (effects_of_routine s f) → Lists (routine_call g) (all_effects s f)
calls_in s f g p = in_right (side_effect_if (not (is_pure_candidate_if_any (routine_named s f)))) p

-- ---- an effect is held

pub recorded_side_effect : (s : System) (impure impure' : List Bool) (todo todo' : List ℕ) (lists : List (Vec ℕ Global)) (n : ℕ) → Grows (λ k. k ≡ n) impure todo impure' todo' × IsSeen impure' n →
    IsRecorded s impure todo lists impure' todo' lists n side_effect
recorded_side_effect s impure impure' todo todo' lists n (g, x) = record {
  grows = grows_as (λ k e. (e, refl)) g;
  found = λ e. x;
  same_length = refl;
  keeps = λ j k c. c;
  called_before = λ j k c. inl c;
  added = λ j c. absurd (no_call c.0 c.1);
}

pub recorded_nothing : (s : System) (impure : List Bool) (todo : List ℕ) (lists : List (Vec ℕ Global)) (n : ℕ) (g : RoutineName) → None ≡ feature_number s g →
    IsRecorded s impure todo lists impure todo lists n (routine_call g)
recorded_nothing s impure todo lists n g e = record {
  grows = grows_none (λ k. (k ≡ n) × (routine_call g ≡ side_effect)) impure todo;
  found = λ i. absurd (no_act g i);
  same_length = refl;
  keeps = λ j k c. c;
  called_before = λ j k c. inl c;
  added = λ j c. absurd (none_there j (e ∙ ap (feature_number s) (leading_is g c.0 c.1) ∙ c.2));
}
  where
    none_there : (j : ℕ) → ◌≡◌ {A = Option ℕ} None (Some j) → ⊥
    none_there j e = cc

same_number : (j i : ℕ) → (j == i) ≡ true → j ≡ i
same_number j i e = grind arith

is_same_number : (j i : ℕ) → j ≡ i → (j == i) ≡ true
is_same_number j i e = grind arith

pub recorded_call : (s : System) (impure : List Bool) (todo : List ℕ) (lists lists' : List (Vec ℕ Global)) (n i : ℕ) (g : RoutineName) → Some i ≡ feature_number s g → length lists' ≡ length lists →
    ((k : ℕ) → callers_in lists' k ≡ (if k == i then callers_in lists k ++ n ∷ [] else callers_in lists k)) → IsRecorded s impure todo lists impure todo lists' n (routine_call g)
recorded_call s impure todo lists lists' n i g e l f = record {
  grows = grows_none (λ k. (k ≡ n) × (routine_call g ≡ side_effect)) impure todo;
  found = λ h. absurd (no_act g h);
  same_length = l;
  keeps = λ j k c. subst (λ xs. Contains xs k) (sym (f j)) (keep_fault j k (j == i) c);
  called_before = λ j k c. before j k (j == i) refl (subst (λ xs. Contains xs k) (f j) c);
  added = λ j c. subst (λ xs. Contains xs n) (sym (f j)) (at_it j (j == i) (is_same_number j i (sym (number_is j c))));
}
  where
    keep_fault : (j k : ℕ) (b : Bool) → Contains (callers_in lists j) k → Contains (if b then callers_in lists j ++ n ∷ [] else callers_in lists j) k
    keep_fault j k true c = Contains-append_left (callers_in lists j) (n ∷ []) k c
    keep_fault j k false c = c

    of_last : (j k : ℕ) → (j == i) ≡ true → Contains (callers_in lists j) k ⊎ (n ≡ k) → Contains (callers_in lists j) k ⊎ ((k ≡ n) × IsCallOf s (routine_call g) j)
    of_last j k h (inl c) = inl c
    of_last j k h (inr q) = inr (sym q, (g, refl, sym e ∙ ap (λ (i : ℕ). Some i) (sym (same_number j i h))))

    before : (j k : ℕ) (b : Bool) → (j == i) ≡ b → Contains (if b then callers_in lists j ++ n ∷ [] else callers_in lists j) k →
        Contains (callers_in lists j) k ⊎ ((k ≡ n) × IsCallOf s (routine_call g) j)
    before j k true h c = of_last j k h (Contains-push_cases (callers_in lists j) n k c)
    before j k false h c = inl c

    number_is : (j : ℕ) → IsCallOf s (routine_call g) j → i ≡ j
    number_is j c = some_is i j (e ∙ ap (feature_number s) (leading_is g c.0 c.1) ∙ c.2)

    at_it : (j : ℕ) (b : Bool) → b ≡ true → Contains (if b then callers_in lists j ++ n ∷ [] else callers_in lists j) n
    at_it j true h = Contains-push (callers_in lists j) n
    at_it j false h = cc
