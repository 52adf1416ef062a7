-- Impurity spreads from the features that are impure themselves to those that may run them, until nothing is left to look at.
use Rattle.std.proofs.Common.{◌≡◌, ℕ, zero, suc, Bool, true, false, List, [], ◌∷◌, ◌++◌, length, Option, Some, None, inl, inr, refl, ap, sym, ◌∙◌, subst, arith}
use Rattle.std.specs.Prelude.{◌⊎◌, not, is_some, slice_get, unwrap_or}
use Rattle.sc_tree.specs.Plain.{System}
use Rattle.sc_class.specs.ClassNames.{Root}
use Rattle.sc_class.specs.Faults.ClassRules.{IsFaultless}
use Rattle.sc_class.specs.Tables.Features.{DeclaredFeature}
use Rattle.sc_class.specs.Internal.Search.{IsSeen, IsTodo, Grows}
use Rattle.sc_class.proofs.Anys.{any_left, any_right, any_parts, any_only, any_first, any_none}
use Rattle.sc_rules.specs.Names.{RoutineName, routine_of}
use Rattle.sc_rules.specs.Purity.{routine_named, is_pure_candidate_if_any, no_candidate, Impure, by_itself}
use Rattle.sc_rules.specs.JudgingPurity.{is_impure_itself, RunsInto, called, redeclared}
use Rattle.sc_typing.specs.FeatureNumbers.{all_features, feature_number, unmarked, pure_by}
use Rattle.sc_check.specs.purity.Internal.ImpureSearch.{AreMarked, MarksRunners, RunsNumber}
use Rattle.sc_check.specs.purity.Internal.Versions.{IsFollowed}
use Rattle.sc_rules.proofs.PurityHeirs.{AreMarks, impure_next}
use Rattle.sc_typing.proofs.FeatureLemmas.{one_there, same_routine}
use Rattle.sc_check.proofs.purity.Called.{runs_named}
use Rattle.sc_check.proofs.purity.Versions.{versions_seen}
use Rattle.sc_typing.proofs.FeatureNumbers.{numbered, has_number}

todo_left : (xs ys : List ℕ) (k : ℕ) → IsTodo xs k → IsTodo (xs ++ ys) k
todo_left xs ys k t = any_left {P = λ (j : ℕ). j ≡ k} xs ys t

todo_last : (xs : List ℕ) (k : ℕ) → IsTodo (xs ++ k ∷ []) k
todo_last xs k = any_right {P = λ (j : ℕ). j ≡ k} xs (k ∷ []) (any_first {P = λ (j : ℕ). j ≡ k} k [] refl)

todo_parts : (xs ys : List ℕ) (k : ℕ) → IsTodo (xs ++ ys) k → IsTodo xs k ⊎ IsTodo ys k
todo_parts xs ys k t = any_parts {P = λ (j : ℕ). j ≡ k} xs ys t

todo_only : (m k : ℕ) → IsTodo (m ∷ []) k → m ≡ k
todo_only m k t = any_only {P = λ (j : ℕ). j ≡ k} m t

todo_none : (k : ℕ) → IsTodo [] k → ⊥
todo_none k t = any_none {P = λ (j : ℕ). j ≡ k} t

-- a list as long as another has something wherever that has
there : {A B : Type 0} (xs : List A) (ys : List B) (i : ℕ) (x : A) → length xs ≡ length ys → slice_get xs i ≡ Some x → (y : B) × (slice_get ys i ≡ Some y)
there [] ys i x e g = cc
there (x ∷ xs) [] i z e g = absurd (longer (length xs) e)
  where
    longer : (n : ℕ) → suc n ≡ 0 → ⊥
    longer n e = omega (arith, e)
there (x ∷ xs) (y ∷ ys) zero z e g = (y, refl)
there (x ∷ xs) (y ∷ ys) (suc i) z e g = there xs ys i z (less e) g
  where
    less : suc (length xs) ≡ suc (length ys) → length xs ≡ length ys
    less e = omega (arith, e)

-- ---- a step

module _ (s : System) (impure : List Bool) (todo rest : List ℕ) (j : ℕ) (n : length impure ≡ length (all_features s)) (sp : AreMarked s impure todo) (e : todo ≡ rest ++ j ∷ []) where
  pub seen_now : IsSeen impure j
  seen_now = sp.todo_seen j (subst (λ (ts : List ℕ). IsTodo ts j) (sym e) (todo_last rest j))

  its_feature : (d : DeclaredFeature) × (slice_get (all_features s) j ≡ Some d)
  its_feature = there impure (all_features s) j true n seen_now

  pub marked_on : (impure' : List Bool) (todo' : List ℕ) → Grows (RunsNumber s j) impure rest impure' todo' → MarksRunners s j impure' → AreMarked s impure' todo'
  marked_on impure' todo' h all = record {
    impure_itself = λ f i m o. h.keeps i (sp.impure_itself f i m o);
    only_impure = λ i d g x. impure_so i d g (h.seen_before i x);
    todo_seen = λ i t. from_todo i (h.todo_before i t);
    followed = λ g i m x. by_followed g i m (h.seen_before i x);
  }
    where
      by_run : (i : ℕ) (d : DeclaredFeature) → slice_get (all_features s) i ≡ Some d → RunsNumber s j i → (c : DeclaredFeature) × (slice_get (all_features s) j ≡ Some c) → Impure s (routine_of d)
      by_run i d g r (c, p) = impure_next (r d c g p) (sp.only_impure j c p seen_now)

      impure_so : (i : ℕ) (d : DeclaredFeature) → slice_get (all_features s) i ≡ Some d → IsSeen impure i ⊎ (RunsNumber s j i × IsTodo todo' i) → Impure s (routine_of d)
      impure_so i d g (inl x) = sp.only_impure i d g x
      impure_so i d g (inr (r, t)) = by_run i d g r its_feature

      from_todo : (i : ℕ) → IsTodo rest i ⊎ IsSeen impure' i → IsSeen impure' i
      from_todo i (inl t) = h.keeps i (sp.todo_seen i (subst (λ (ts : List ℕ). IsTodo ts i) (sym e) (todo_left rest (j ∷ []) i t)))
      from_todo i (inr x) = x

      was_todo : (g : RoutineName) (i : ℕ) → feature_number s g ≡ Some i → IsTodo rest i ⊎ IsTodo (j ∷ []) i →
          IsTodo todo' i ⊎ IsFollowed s impure' g
      was_todo g i m (inl t) = inl (h.todo_keeps i t)
      was_todo g i m (inr t) = inr (all g (m ∙ ap (λ (i : ℕ). Some i) (sym (todo_only j i t))))

      was_followed : (g : RoutineName) (i : ℕ) → feature_number s g ≡ Some i → IsTodo todo i ⊎ IsFollowed s impure g →
          IsTodo todo' i ⊎ IsFollowed s impure' g
      was_followed g i m (inl t) = was_todo g i m (todo_parts rest (j ∷ []) i (subst (λ (ts : List ℕ). IsTodo ts i) e t))
      was_followed g i m (inr c) = inr (record { callers_seen = λ f k p r. h.keeps k (c.callers_seen f k p r); version_seen = λ k e. h.keeps k (c.version_seen k e) })

      by_followed : (g : RoutineName) (i : ℕ) → feature_number s g ≡ Some i → IsSeen impure i ⊎ (RunsNumber s j i × IsTodo todo' i) →
          IsTodo todo' i ⊎ IsFollowed s impure' g
      by_followed g i m (inl x) = was_followed g i m (sp.followed g i m x)
      by_followed g i m (inr (r, t)) = inl t

-- ---- the end

seen_or_not : (impure : List Bool) (i : ℕ) (x : Bool) → slice_get impure i ≡ Some x → not (unwrap_or (slice_get impure i) true) ≡ false → IsSeen impure i
seen_or_not impure i true e f = e
seen_or_not impure i false e f = absurd (differs (sym (ap (λ o. not (unwrap_or o true)) e) ∙ f))
  where
    differs : true ≡ false → ⊥
    differs e = cc

not_seen : (impure : List Bool) (i : ℕ) → not (unwrap_or (slice_get impure i) true) ≡ true → IsSeen impure i → ⊥
not_seen impure i e x = differs (sym (ap (λ o. not (unwrap_or o true)) x) ∙ e)
  where
    differs : false ≡ true → ⊥
    differs e = cc

-- where nothing is left to look at, the marks tell the pure functions
pub marked_out : (s : System) (root : Root) → IsFaultless s root → (impure : List Bool) (todo : List ℕ) → length impure ≡ length (all_features s) → todo ≡ [] → AreMarked s impure todo → AreMarks s (pure_by s impure)
marked_out s root w impure todo n e sp = record {
  harmless = λ f t. harmless_so f (feature_number s f) refl t (is_impure_itself s f) refl;
  closed = λ f g t r. closed_so f g r (feature_number s f) refl t (one_there (feature_number s g) (has_number s g (runs_named r)));
  refused = λ f t. refused_so f t (routine_named s f) refl;
}
  where
    harmless_so : (f : RoutineName) (o : Option ℕ) → feature_number s f ≡ o → unmarked impure o ≡ true → (b : Bool) → is_impure_itself s f ≡ b → b ≡ false
    harmless_so f None m t b j = cc
    harmless_so f (Some i) m t true j = absurd (not_seen impure i t (sp.impure_itself f i m j))
    harmless_so f (Some i) m t false j = refl

    nothing_todo : (k : ℕ) → IsTodo todo k → ⊥
    nothing_todo k t = todo_none k (subst (λ (ts : List ℕ). IsTodo ts k) e t)

    all_followed : (g : RoutineName) (j : ℕ) → feature_number s g ≡ Some j → IsSeen impure j → IsFollowed s impure g
    all_followed g j p x = by (sp.followed g j p x)
      where
        by : IsTodo todo j ⊎ IsFollowed s impure g → IsFollowed s impure g
        by (inl k) = absurd (nothing_todo j k)
        by (inr c) = c

    runs_seen : (f g : RoutineName) → RunsInto s f g → (i : ℕ) → feature_number s f ≡ Some i → (j : ℕ) → feature_number s g ≡ Some j → IsSeen impure j → IsSeen impure i
    runs_seen f g (called l) i m j p x = (all_followed g j p x).callers_seen f i m l
    runs_seen f g (redeclared a n y z) i m j p x =
        versions_seen s root w g.name impure all_followed g.class f.class j i p x a
        (subst (λ f. feature_number s f ≡ Some i) (same_routine f (record { class = f.class; name = g.name }) refl n) m)

    by_number : (f g : RoutineName) → RunsInto s f g → (i : ℕ) → feature_number s f ≡ Some i → unmarked impure (Some i) ≡ true → (j : ℕ) → feature_number s g ≡ Some j → (x : Bool) →
        slice_get impure j ≡ Some x → unmarked impure (Some j) ≡ true
    by_number f g r i m t j p true x = absurd (not_seen impure i t (runs_seen f g r i m j p x))
    by_number f g r i m t j p false x = ap (λ o. not (unwrap_or o true)) x

    mark_at : (g : RoutineName) (j : ℕ) → feature_number s g ≡ Some j → is_some (routine_named s g) ≡ true → (x : Bool) × (slice_get impure j ≡ Some x)
    mark_at g j p d = (let h = numbered s g j d p in there (all_features s) impure j h.feature (sym n) h.stands_at)

    closed_so : (f g : RoutineName) → RunsInto s f g → (o : Option ℕ) → feature_number s f ≡ o → unmarked impure o ≡ true → (j : ℕ) × (feature_number s g ≡ Some j) → pure_by s impure g ≡ true
    closed_so f g r None m t k = cc
    closed_so f g r (Some i) m t (j, p) = (let (x, h) = mark_at g j p (runs_named r) in ap (unmarked impure) p ∙ by_number f g r i m t j p x h)

    unfit_so : (f : RoutineName) → routine_named s f ≡ None → Impure s f
    unfit_so f e = by_itself (no_candidate (ap is_pure_candidate_if_any e))

    refused_at : (f : RoutineName) (j : ℕ) → feature_number s f ≡ Some j → is_some (routine_named s f) ≡ true → pure_by s impure f ≡ false → Impure s f
    refused_at f j p d t =
        let h = numbered s f j d p in
        let (x, y) = mark_at f j p d in
        subst (Impure s) h.is_it (sp.only_impure j h.feature h.stands_at (seen_or_not impure j x y (sym (ap (unmarked impure) p) ∙ t)))

    by_declared : (f : RoutineName) → pure_by s impure f ≡ false → is_some (routine_named s f) ≡ true → (j : ℕ) × (feature_number s f ≡ Some j) → Impure s f
    by_declared f t d (j, p) = refused_at f j p d t

    refused_so : (f : RoutineName) → pure_by s impure f ≡ false → (o : Option DeclaredFeature) → routine_named s f ≡ o → Impure s f
    refused_so f t None e = unfit_so f e
    refused_so f t (Some d) e = by_declared f t (ap is_some e) (one_there (feature_number s f) (has_number s f (ap is_some e)))
