-- What may run a feature: its callers, and what it redefines.
use Rattle.std.proofs.Common.{◌≡◌, ◌+◌, ◌<◌, ◌==◌, ℕ, Bool, true, false, List, [], ◌∷◌, ◌++◌, length, length-append, Option, Some, inl, inr, refl, ap, sym, ◌∙◌, subst, arith}
use Rattle.std.specs.Prelude.{◌⊎◌, ◌||◌, All, Contains, Any, is_some, slice_get}
use Rattle.std.specs.List.{list_any}
use Rattle.std.proofs.lemmas.Option.{slice_get_within}
use Rattle.std.proofs.lemmas.List.Elements.{All-weaker, All-contains_itself}
use Rattle.std.specs.declared.vec.Vec.{Vec}
use Rattle.std.specs.declared.alloc.Global.{Global}
use Rattle.sc_tree.specs.Plain.{System}
use Rattle.sc_class.specs.ClassNames.{Root}
use Rattle.sc_class.specs.Faults.ClassRules.{IsFaultless}
use Rattle.sc_class.specs.Tables.Ancestors.{ancestors}
use Rattle.sc_class.specs.Tables.Features.{DeclaredFeature}
use Rattle.sc_class.specs.Internal.Search.{IsSeen, Grows, left_over}
use Rattle.sc_class.proofs.Anys.{any_none, any_split}
use Rattle.sc_class.proofs.CycleLemmas.{grows_then}
use Rattle.sc_class.proofs.Items.{some_is}
use Rattle.sc_rules.specs.Names.{RoutineName, routine_of}
use Rattle.sc_rules.specs.Purity.{routine_named}
use Rattle.sc_rules.specs.JudgingPurity.{routine_call, effects_of_routine, Lists, RunsInto, redeclared}
use Rattle.sc_typing.specs.FeatureNumbers.{all_features, feature_number}
use Rattle.sc_check.specs.purity.Internal.Callers.{callers_in}
use Rattle.sc_check.specs.purity.Internal.ImpureSearch.{AreMarked, RunsNumber, AreCallers, MarksRunners}
use Rattle.sc_check.specs.purity.Internal.Versions.{nearest_above}
use Rattle.sc_typing.proofs.FeatureNumbers.{Numbered, number_stands, is_declared, all_named}
use Rattle.sc_check.proofs.purity.Versions.{version_named}
use Rattle.sc_check.proofs.purity.Marked.{marked_on, seen_now}
use Rattle.sc_check.proofs.purity.ImpureEffects.{grows_as}
use Rattle.sc_check.proofs.purity.ImpureSearchSteps.{StandsAt, number_within}

number_is : (k c : ℕ) → (k == c) ≡ true → k ≡ c
number_is k c e = grind arith

is_number : (k c : ℕ) → k ≡ c → (k == c) ≡ true
is_number k c e = grind arith

-- one of the numbers of which something holds is on the list, and holds
on_list : (P : ℕ → Type 0) (ks : List ℕ) → Any P ks → (i : ℕ) × (list_any (λ k. k == i) ks ≡ true) × P i
on_list P [] a = absurd (any_none a)
on_list P (k ∷ ks) a = by_first (any_split k ks a) (λ b. on_list P ks b)
  where
    behind : (a b : Bool) → b ≡ true → (a || b) ≡ true
    behind true b e = refl
    behind false b e = e

    before : (a b : Bool) → a ≡ true → (a || b) ≡ true
    before true b e = refl
    before false b e = cc

    further : (i : ℕ) × (list_any (λ k. k == i) ks ≡ true) × P i → (i : ℕ) × (list_any (λ k. k == i) (k ∷ ks) ≡ true) × P i
    further (i, e, p) = (i, behind (k == i) (list_any (λ k. k == i) ks) e, p)

    by_first : P k ⊎ Any P ks → (Any P ks → (i : ℕ) × (list_any (λ k. k == i) ks ≡ true) × P i) → (i : ℕ) × (list_any (λ k. k == i) (k ∷ ks) ≡ true) × P i
    by_first (inl p) f = (k, before (k == k) (list_any (λ i. i == k) ks) (is_number k k refl), p)
    by_first (inr b) f = further (f b)

module _ (s : System) (root : Root) (w : IsFaultless s root) (j : ℕ) (e : DeclaredFeature) (is_it : slice_get (all_features s) j ≡ Some e) where
  is_there : is_some (routine_named s (routine_of e)) ≡ true
  is_there = all_named s j e is_it

  -- the version that it redefines may run it
  redefined_runs : (k : ℕ) → nearest_above s (routine_of e) ≡ Some k → RunsNumber s j k
  redefined_runs k a d c o p =
      by_ancestor (on_list (λ i. feature_number s (record { class = i; name = (routine_of e).name }) ≡ Some k) (ancestors s (routine_of e).class) (version_named s root w (routine_of e) k a))
    where
      by_ancestor : (i : ℕ) × (list_any (λ k. k == i) (ancestors s (routine_of e).class) ≡ true) × (feature_number s (record { class = i; name = (routine_of e).name }) ≡ Some k) →
          RunsInto s (routine_of d) (routine_of c)
      by_ancestor (i, h, m) =
          let f : RoutineName = record { class = i; name = (routine_of e).name } in
          let t = number_stands s f k m in
          let same : routine_of d ≡ f = ap routine_of (some_is d t.feature (sym o ∙ t.stands_at)) ∙ t.is_it in
          let it : c ≡ e = some_is c e (sym p ∙ is_it) in
          let runs : RunsInto s f (routine_of e) = redeclared h refl (is_declared s f k m) is_there in
          subst (λ g. RunsInto s g (routine_of c)) (sym same) (subst (λ c. RunsInto s f (routine_of c)) (sym it) runs)

  module _ (impure impure' impure'' : List Bool) (todo todo' todo'' : List ℕ) (lists : List (Vec ℕ Global)) (c : AreCallers s lists (length (all_features s)))
      (g : Grows (Contains (callers_in lists j)) impure todo impure' todo') (a : (k : ℕ) → Contains (callers_in lists j) k → IsSeen impure' k)
      (h : Grows (λ k. nearest_above s (routine_of e) ≡ Some k) impure' todo' impure'' todo'') (b : (k : ℕ) → nearest_above s (routine_of e) ≡ Some k → IsSeen impure'' k) where
    pub runners_grow : Grows (RunsNumber s j) impure todo impure'' todo''
    runners_grow = grows_then impure impure' impure'' todo todo' todo'' (λ k r. r) (grows_as (c.only_callers j) g) (grows_as redefined_runs h)

    number_of_it : (f : RoutineName) → feature_number s f ≡ Some j → routine_of e ≡ f
    number_of_it f m = let t = number_stands s f j m in ap routine_of (some_is e t.feature (sym is_it ∙ t.stands_at)) ∙ t.is_it

    called_found : (f r : RoutineName) (i : ℕ) → feature_number s r ≡ Some j → Numbered s f i → Lists (routine_call r) (effects_of_routine s f) → IsSeen impure'' i
    called_found f r i m t p =
        h.keeps i (a i (c.all_callers i j t.feature r (slice_get_within (all_features s) i t.feature t.stands_at) t.stands_at m (subst (λ f. Lists (routine_call r) (effects_of_routine s f)) (sym t.is_it) p)))

    pub runners_found : MarksRunners s j impure''
    runners_found r m = record {
      callers_seen = λ f i n p. called_found f r i m (number_stands s f i n) p;
      version_seen = λ i o. b i (subst (λ g. nearest_above s g ≡ Some i) (sym (number_of_it r m)) o);
    }

-- the same, as the code has read it
pub runners_read : (s : System) (root : Root) → IsFaultless s root → (j : ℕ) (f : RoutineName) → StandsAt s j f → (impure impure' impure'' : List Bool) (todo todo' todo'' : List ℕ)
    (lists : List (Vec ℕ Global)) (ks : List ℕ) (o : Option ℕ) → AreCallers s lists (length (all_features s)) → ks ≡ callers_in lists j → o ≡ nearest_above s f →
    Grows (Contains ks) impure todo impure' todo' × ((k : ℕ) → Contains ks k → IsSeen impure' k) →
    Grows (λ k. o ≡ Some k) impure' todo' impure'' todo'' × ((k : ℕ) → o ≡ Some k → IsSeen impure'' k) →
    Grows (RunsNumber s j) impure todo impure'' todo'' × MarksRunners s j impure''
runners_read s root w j f st impure impure' impure'' todo todo' todo'' lists ks o c e a g h =
    of_it (subst (λ (ks : List ℕ). Grows (Contains ks) impure todo impure' todo' × ((k : ℕ) → Contains ks k → IsSeen impure' k)) e g)
    (subst (λ (o : Option ℕ). Grows (λ k. o ≡ Some k) impure' todo' impure'' todo'' × ((k : ℕ) → o ≡ Some k → IsSeen impure'' k)) (a ∙ ap (nearest_above s) (sym st.is_named)) h)
  where
    of_it : Grows (Contains (callers_in lists j)) impure todo impure' todo' × ((k : ℕ) → Contains (callers_in lists j) k → IsSeen impure' k) →
        Grows (λ k. nearest_above s (routine_of st.feature) ≡ Some k) impure' todo' impure'' todo'' × ((k : ℕ) → nearest_above s (routine_of st.feature) ≡ Some k → IsSeen impure'' k) →
        Grows (RunsNumber s j) impure todo impure'' todo'' × MarksRunners s j impure''
    of_it (g, a) (h, b) = (
      runners_grow s root w j st.feature st.is_there impure impure' impure'' todo todo' todo'' lists c g a h b,
      runners_found s root w j st.feature st.is_there impure impure' impure'' todo todo' todo'' lists c g a h b,
    )

-- the callers are among the features
pub callers_within : (s : System) (lists : List (Vec ℕ Global)) (n j m : ℕ) (ks : List ℕ) → AreCallers s lists n → ks ≡ callers_in lists j → m ≡ length (all_features s) → All (λ k. k < m) ks
callers_within s lists n j m ks c e l = All-weaker (Contains ks) (λ k. k < m) within ks (All-contains_itself ks)
  where
    within : (k : ℕ) → Contains ks k → k < m
    within k i = subst (λ (m : ℕ). k < m) (sym l) (c.in_range j k (subst (λ (ks : List ℕ). Contains ks k) e i))

-- the version that a routine redefines is among the features
pub version_within : (s : System) (root : Root) → IsFaultless s root → (g : RoutineName) (o : Option ℕ) → o ≡ nearest_above s g → (m : ℕ) → m ≡ length (all_features s) → (k : ℕ) → o ≡ Some k → k < m
version_within s root w g o e m l k h =
    let (i, _, t) = on_list (λ i. feature_number s (record { class = i; name = g.name }) ≡ Some k) (ancestors s g.class) (version_named s root w g k (sym e ∙ h)) in
    number_within s (record { class = i; name = g.name }) (Some k) (sym t) m l k refl

-- what is taken from those still to be looked at is a feature
pub taken_within : (s : System) (impure : List Bool) (todo rest : List ℕ) (j n : ℕ) → todo ≡ rest ++ j ∷ [] → n ≡ length (all_features s) → length impure ≡ length (all_features s) → AreMarked s impure todo → j < n
taken_within s impure todo rest j n e m l sp = subst (λ (n : ℕ). j < n) (l ∙ sym m) (slice_get_within impure j true (seen_now s impure todo rest j l sp e))

-- a step of the search keeps what it holds, and leaves less to do
pub marked_more : (s : System) (impure impure' : List Bool) (todo rest todo' : List ℕ) (lists : List (Vec ℕ Global)) (j : ℕ) → todo ≡ rest ++ j ∷ [] →
    (length impure ≡ length (all_features s)) × AreMarked s impure todo × AreCallers s lists (length (all_features s)) → Grows (RunsNumber s j) impure rest impure' todo' × MarksRunners s j impure' →
    (length impure' ≡ length (all_features s)) × AreMarked s impure' todo' × AreCallers s lists (length (all_features s))
marked_more s impure impure' todo rest todo' lists j e (n, sp, c) (g, r) = (g.same_length ∙ n, marked_on s impure todo rest j n sp e impure' todo' g r, c)

pub marked_fewer : (s : System) (impure impure' : List Bool) (todo rest todo' : List ℕ) (j : ℕ) → todo ≡ rest ++ j ∷ [] → Grows (RunsNumber s j) impure rest impure' todo' × MarksRunners s j impure' →
    left_over impure' todo' < left_over impure todo
marked_fewer s impure impure' todo rest todo' j e (g, r) =
    let m = g.no_more in
    let l : length todo ≡ length rest + 1 = ap length e ∙ length-append rest (j ∷ []) in
    omega (arith, m, l)
