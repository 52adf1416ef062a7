-- Redefinitions, as the declarations of classes tell them, and what marks have to be to tell the pure functions.
use Rattle.std.proofs.Common.{◌≡◌, ℕ, zero, suc, ◌==◌, Bool, true, false, cond, List, [], ◌∷◌, length, Option, Some, None, refl, ap, sym, ◌∙◌, subst, arith}
use Rattle.std.specs.Prelude.{not, ◌||◌, is_some, bytes_eq}
use Rattle.std.specs.List.{list_any}
use Rattle.std.specs.Option.{option_map, option_map_or}
use Rattle.sc_tree.specs.Plain.{System, Feature}
use Rattle.sc_class.specs.declared.identity.ClassId.TheVariants as class
use Rattle.sc_class.specs.Names.{is_listed}
use Rattle.sc_class.specs.Tables.Ancestors.{parent_number, ancestors_within, ancestors}
use Rattle.sc_class.specs.Tables.Conformance.{is_ancestor}
use Rattle.sc_class.specs.Tables.Features.{DeclaredFeature, declared_in, declared_features, redefined_names, features_along, named_among, feature_named}
use Rattle.sc_class.proofs.NameLemmas.{same_text}
use Rattle.sc_class.proofs.Items.{some_is}
use Rattle.sc_class.proofs.AncestorLemmas.{then_named, named-along}
use Rattle.sc_class.proofs.FeatureLemmas.{named_declared}
use Rattle.sc_rules.specs.Names.{RoutineName, routine_of}
use Rattle.sc_rules.specs.Purity.{routine_named, is_pure_candidate_if_any, ImpureItself, MayRun, by_call, by_redefinition, Impure, by_itself, through, IsPurity}
use Rattle.sc_rules.specs.JudgingPurity.{routine_call, is_impure_itself, Lists, of_routine_call, RunsInto, called, redeclared}
use Rattle.sc_rules.proofs.PurityLaws.{marks_are_purity}
use Rattle.sc_rules.proofs.PurityComplete.{listed}
use Rattle.sc_rules.proofs.PurityRoutines.{body_effects, impurity_judged, judged_impurity, listed_call}

-- ---- features by name

pub named_text : (x : List ℕ) (fs : List DeclaredFeature) (d : DeclaredFeature) → named_among x fs ≡ Some d →
    bytes_eq d.feature.name.text x ≡ true
named_text x [] d e = cc
named_text x (f ∷ fs) d e = by_first (bytes_eq f.feature.name.text x) refl (λ e. named_text x fs d e) e
  where
    by_first : (b : Bool) → bytes_eq f.feature.name.text x ≡ b →
        (named_among x fs ≡ Some d → bytes_eq d.feature.name.text x ≡ true) →
        cond b (Some f) (named_among x fs) ≡ Some d → bytes_eq d.feature.name.text x ≡ true
    by_first true i further e = subst (λ f. bytes_eq f.feature.name.text x ≡ true) (some_is f d e) i
    by_first false i further e = further e

pub own_class : (s : System) (k : ℕ) (x : List ℕ) (d : DeclaredFeature) →
    named_among x (declared_features s k) ≡ Some d → d.class ≡ k
own_class s k x d e = of_some _ (sym (named_declared s k x) ∙ e)
  where
    of_some : (o : Option Feature) → option_map (declared_in k) o ≡ Some d → d.class ≡ k
    of_some None e = cc
    of_some (Some f) e = ap (λ (d : DeclaredFeature). d.class) (sym (some_is (declared_in k f) d e))

-- ---- along a line of ancestors

abbrev on : ℕ → List ℕ → Bool
on c ks = list_any (λ i. i == c) ks

number_is : (k c : ℕ) → (k == c) ≡ true → k ≡ c
number_is k c e = grind arith

on_longer : (s : System) (n k c : ℕ) → on c (ancestors_within n s k) ≡ true → on c (ancestors_within (suc n) s k) ≡ true
on_longer s zero k c e = cc
on_longer s (suc n) k c e = by_parent (parent_number s k) (λ p. on_longer s n p c) e
  where
    by_first : (b u v : Bool) → (u ≡ true → v ≡ true) → (b || u) ≡ true → (b || v) ≡ true
    by_first true u v f e = refl
    by_first false u v f e = f e

    by_parent : (o : Option ℕ) → ((p : ℕ) → on c (ancestors_within n s p) ≡ true → on c (ancestors_within (suc n) s p) ≡ true) →
        ((k == c) || on c (option_map_or (ancestors_within n s) o [])) ≡ true →
        ((k == c) || on c (option_map_or (ancestors_within (suc n) s) o [])) ≡ true
    by_parent None f e = e
    by_parent (Some p) f e = by_first (k == c) (on c (ancestors_within n s p)) (on c (ancestors_within (suc n) s p))
        (f p) e

-- what is found along a line stands in a class whose own line leads on
record Stands (s : System) (x : List ℕ) (n c : ℕ) (d : DeclaredFeature) : Type 0 where
  pub leads_on : on c (ancestors_within n s d.class) ≡ true
  pub is_own : named_among x (declared_features s d.class) ≡ Some d

module _ (s : System) (x : List ℕ) (c : ℕ) (f d : DeclaredFeature)
    (i : named_among x (declared_features s c) ≡ Some f) where
  not_there : (k : ℕ) → named_among x (declared_features s k) ≡ None → (k == c) ≡ true → ⊥
  not_there k e j = differ (sym (ap (λ k. named_among x (declared_features s k)) (number_is k c j)) ∙ e)
    where
      differ : named_among x (declared_features s c) ≡ None → ⊥
      differ e = cc

  later_on : (k : ℕ) (ks : List ℕ) → named_among x (declared_features s k) ≡ None → on c (k ∷ ks) ≡ true →
      on c ks ≡ true
  later_on k ks e j = by_first (k == c) refl j
    where
      by_first : (b : Bool) → (k == c) ≡ b → (b || on c ks) ≡ true → on c ks ≡ true
      by_first true h j = absurd (not_there k e h)
      by_first false h j = j

  stands_at : (n k : ℕ) → named_among x (declared_features s k) ≡ Some d → on c (ancestors_within n s k) ≡ true →
      Stands s x n c d
  stands_at n k e j = record {
    leads_on = subst (λ k. on c (ancestors_within n s k) ≡ true) (sym (own_class s k x d e)) j;
    is_own = subst (λ k. named_among x (declared_features s k) ≡ Some d) (sym (own_class s k x d e)) e;
  }

  first_on_line : (n k : ℕ) → named_among x (features_along s (ancestors_within n s k)) ≡ Some d →
      on c (ancestors_within n s k) ≡ true → Stands s x n c d
  first_on_line zero k e j = cc
  first_on_line (suc n) k e j = by_own (named_among x (declared_features s k)) refl (λ p. first_on_line n p)
    where
      ks : List ℕ
      ks = option_map_or (ancestors_within n s) (parent_number s k) []

      found_after : (o : Option DeclaredFeature) → named_among x (declared_features s k) ≡ o →
          then_named o (is_listed x (redefined_names s k)) (named_among x (features_along s ks)) ≡ Some d
      found_after o h = ap (λ o. then_named o (is_listed x (redefined_names s k)) (named_among x (features_along s ks))) (sym h) ∙ sym (named-along s k ks x) ∙ e

      longer : Stands s x n c d → Stands s x (suc n) c d
      longer t = record { leads_on = on_longer s n d.class c t.leads_on; is_own = t.is_own }

      by_parent : (o : Option ℕ) → ((p : ℕ) → named_among x (features_along s (ancestors_within n s p)) ≡ Some d → on c (ancestors_within n s p) ≡ true → Stands s x n c d) →
          named_among x (features_along s (option_map_or (ancestors_within n s) o [])) ≡ Some d →
          on c (option_map_or (ancestors_within n s) o []) ≡ true → Stands s x (suc n) c d
      by_parent None f e j = cc
      by_parent (Some p) f e j = longer (f p e j)

      by_hidden : (b : Bool) (o : Option ℕ) →
          ((p : ℕ) → named_among x (features_along s (ancestors_within n s p)) ≡ Some d → on c (ancestors_within n s p) ≡ true → Stands s x n c d) →
          then_named None b (named_among x (features_along s (option_map_or (ancestors_within n s) o []))) ≡ Some d →
          on c (option_map_or (ancestors_within n s) o []) ≡ true → Stands s x (suc n) c d
      by_hidden true o f e j = cc
      by_hidden false o f e j = by_parent o f e j

      by_own : (own : Option DeclaredFeature) → named_among x (declared_features s k) ≡ own →
          ((p : ℕ) → named_among x (features_along s (ancestors_within n s p)) ≡ Some d → on c (ancestors_within n s p) ≡ true → Stands s x n c d) → Stands s x (suc n) c d
      by_own (Some g) h f = stands_at (suc n) k (h ∙ found_after (Some g) h) j
      by_own None h f = by_hidden (is_listed x (redefined_names s k)) (parent_number s k) f (found_after None h)
          (later_on k ks h j)

-- a class's own feature is the first of its name
own_first : (s : System) (x : List ℕ) (n k c : ℕ) (d : DeclaredFeature) → on c (ancestors_within n s k) ≡ true →
    named_among x (declared_features s k) ≡ Some d →
    named_among x (features_along s (ancestors_within n s k)) ≡ Some d
own_first s x zero k c d j e = cc
own_first s x (suc n) k c d j e =
    named-along s k (option_map_or (ancestors_within n s) (parent_number s k) []) x ∙
    ap (λ o. then_named o (is_listed x (redefined_names s k)) (named_among x (features_along s (option_map_or (ancestors_within n s) (parent_number s k) [])))) e

-- ---- what a routine may run

pub is_there : {A : Type 0} (o : Option A) (x : A) → o ≡ Some x → is_some o ≡ true
is_there o x e = ap is_some e

pub one_there : {A : Type 0} (o : Option A) → is_some o ≡ true → (x : A) × (o ≡ Some x)
one_there None e = cc
one_there (Some x) e = (x, refl)

pub same_routine : (f g : RoutineName) → f.class ≡ g.class → f.name ≡ g.name → f ≡ g
same_routine f g e i = ap (λ (k : ℕ). of f.name k) e ∙ ap (λ (x : List ℕ). of x g.class) i
  where
    of : List ℕ → ℕ → RoutineName
    of x k = record { class = k; name = x }

heir_runs : (s : System) (f : RoutineName) (j : ℕ) (d : DeclaredFeature) → is_some (routine_named s f) ≡ true →
    is_ancestor s j f.class ≡ true →
    feature_named s (class.Declared j) f.name ≡ Some d → RunsInto s f (routine_of d)
heir_runs s f j d i a e = by_own (one_there (routine_named s f) i)
  where
    named_so : d.feature.name.text ≡ f.name
    named_so = same_text d.feature.name.text f.name (named_text f.name (features_along s (ancestors s j)) d e)

    redeclares : Stands s f.name (length s.classes) f.class d → RunsInto s f (routine_of d)
    redeclares t = redeclared t.leads_on (sym named_so) i
        (is_there (routine_named s (routine_of d)) d (subst (λ x. named_among x (declared_features s d.class) ≡ Some d) (sym named_so) t.is_own))

    by_own : (g : DeclaredFeature) × (routine_named s f ≡ Some g) → RunsInto s f (routine_of d)
    by_own (g, h) = redeclares (first_on_line s f.name f.class g d h (length s.classes) j e a)

pub leads_runs : {s : System} {f g : RoutineName} → is_some (routine_named s f) ≡ true → MayRun s f g → RunsInto s f g
leads_runs {s} {f} {g} i (by_call {b} w v c e) =
    called (subst (Lists (routine_call g)) (sym (body_effects w)) (listed (record { site = b; within = v; does = of_routine_call c e })))
leads_runs {s} {f} {g} i (by_redefinition j {d} a e q) = subst (RunsInto s f) (sym q) (heir_runs s f j d i a e)

pub runs_leads : {s : System} {f g : RoutineName} → RunsInto s f g → MayRun s f g
runs_leads (called p) = listed_call p
runs_leads {s} {f} {g} (redeclared a n i j) = by_own (one_there (routine_named s g) j)
  where
    by_own : (d : DeclaredFeature) × (routine_named s g ≡ Some d) → MayRun s f g
    by_own (d, e) = by_redefinition g.class a (own_first s f.name (length s.classes) g.class f.class d a (subst (λ x. named_among x (declared_features s g.class) ≡ Some d) (sym n) e))
        (same_routine g (routine_of d) (sym (own_class s g.class g.name d e)) (sym (same_text d.feature.name.text g.name (named_text g.name (declared_features s g.class) d e))))

-- ---- marks

pub fit_there : (o : Option DeclaredFeature) (b : Bool) → (not (is_pure_candidate_if_any o) || b) ≡ false →
    is_some o ≡ true
fit_there None b e = cc
fit_there (Some g) b e = refl

-- What marks have to be: a marked routine isn't impure itself and may run marked ones alone, and one that isn't
-- marked isn't pure.
pub record AreMarks (s : System) (marks : RoutineName → Bool) : Type 0 where
  pub harmless : (f : RoutineName) → marks f ≡ true → is_impure_itself s f ≡ false
  pub closed : (f g : RoutineName) → marks f ≡ true → RunsInto s f g → marks g ≡ true
  pub refused : (f : RoutineName) → marks f ≡ false → Impure s f

both_ways : (b : Bool) → b ≡ true → b ≡ false → ⊥
both_ways b e i = cc

pub are_purity : (s : System) (marks : RoutineName → Bool) → AreMarks s marks → IsPurity s marks
are_purity s marks a = marks_are_purity s marks (λ f t. (harmless_so f t, closed_so f t)) a.refused
  where
    harmless_so : (f : RoutineName) → marks f ≡ true → ImpureItself s f → ⊥
    harmless_so f t o = both_ways (is_impure_itself s f) (impurity_judged o) (a.harmless f t)

    closed_so : (f : RoutineName) → marks f ≡ true → (g : RoutineName) → MayRun s f g → marks g ≡ true
    closed_so f t g l = a.closed f g t (leads_runs (fit_there (routine_named s f) _ (a.harmless f t)) l)

-- why an unmarked one isn't pure: it is impure itself, or may run one that isn't
pub impure_first : (s : System) (f : RoutineName) → is_impure_itself s f ≡ true → Impure s f
impure_first s f e = by_itself (judged_impurity s f e)

pub impure_next : {s : System} {f g : RoutineName} → RunsInto s f g → Impure s g → Impure s f
impure_next r i = through (runs_leads r) i
