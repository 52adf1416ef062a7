-- Steps of the search for features that aren't pure functions.
use Rattle.std.proofs.Common.{◌≡◌, ◌+◌, ◌<◌, ◌≤◌, ℕ, zero, suc, Bool, true, List, [], ◌∷◌, ◌++◌, length, drop, get_or, map, take, Option, Some, None, inl, inr, refl, ap, sym, ◌∙◌, subst, arith}
use Rattle.std.specs.Prelude.{◌⊎◌, Contains, slice_get}
use Rattle.std.specs.declared.vec.Vec.{Vec}
use Rattle.std.specs.declared.alloc.Global.{Global}
use Rattle.std.specs.Option.{option_map, option_or}
use Rattle.std.specs.String.{string_bytes}
use Rattle.std.proofs.lemmas.List.{at_drop_more, take_all, map-append, length-map}
use Rattle.std.proofs.lemmas.Option.{slice_get_within, slice_get-map}
use Rattle.std.proofs.lemmas.List.Elements.{Contains-push_cases}
use Rattle.sc_tree.specs.Plain.{System}
use Rattle.sc_tree.specs.View.{feature_of}
use Rattle.sc_class.specs.Tables.Features.{DeclaredFeature}
use Rattle.sc_class.specs.Internal.Search.{IsSeen, IsTodo, Grows}
use Rattle.sc_class.specs.declared.class_tables.feature_entry.FeatureEntry.{FeatureEntry}
use Rattle.sc_class.specs.View.{entry_of}
use Rattle.sc_class.proofs.Anys.{any_none, seen}
use Rattle.sc_class.proofs.CycleLemmas.{grows_then}
use Rattle.sc_class.proofs.Items.{some_is, item_in}
use Rattle.sc_rules.specs.Names.{RoutineName, routine_of}
use Rattle.sc_rules.specs.JudgingPurity.{Effect, side_effect, routine_call, effects_of_routine, is_impure_itself, Lists, first, later, RunsInto, called}
use Rattle.sc_rules.proofs.PurityLists.{in_either}
use Rattle.sc_rules.proofs.PurityHeirs.{impure_first}
use Rattle.sc_typing.specs.FeatureNumbers.{all_features, feature_number}
use Rattle.sc_check.specs.purity.Internal.Callers.{callers_in}
use Rattle.sc_check.specs.declared.purity.effects.Effect as held
use Rattle.sc_check.specs.purity.Internal.Effects.{effect_of, all_effects}
use Rattle.sc_check.specs.purity.Internal.ImpureSearch.{AreMarked, RunsNumber, IsCallOf, IsRecorded, AreCallers, AreCollected, IsCollecting}
use Rattle.sc_check.specs.purity.Internal.Versions.{nearest_in, nearest_above}
use Rattle.sc_typing.proofs.FeatureNumbers.{Numbered, number_stands}
use Rattle.sc_check.proofs.purity.ImpureEffects.{act_of, acts_in, call_of, calls_in, grows_none, only_one}

-- ---- a feature is looked at

pub collecting_start : (s : System) (impure : List Bool) (todo : List ℕ) (lists : List (Vec ℕ Global)) (n : ℕ) → AreCollected s impure todo lists n → IsCollecting s impure todo lists n []
collecting_start s impure todo lists n l = record { collected = l; found = λ p. elim p [ ]; calls = λ g j i p. elim p [ ] }

module _ (s : System) (impure impure' : List Bool) (todo todo' : List ℕ) (lists lists' : List (Vec ℕ Global)) (n : ℕ) (ds : List Effect) (d : Effect) (e : DeclaredFeature)
    (is_it : slice_get (all_features s) n ≡ Some e) (l : IsCollecting s impure todo lists n ds) (m : IsRecorded s impure todo lists impure' todo' lists' n d) (of_it : Lists d (all_effects s (routine_of e))) where
  it_is : (k : ℕ) (c : DeclaredFeature) → slice_get (all_features s) k ≡ Some c → k ≡ n → e ≡ c
  it_is k c g q = some_is e c (sym is_it ∙ ap (slice_get (all_features s)) (sym q) ∙ g)

  only_impure_itself : (k : ℕ) (c : DeclaredFeature) → slice_get (all_features s) k ≡ Some c → IsSeen impure k ⊎ (((k ≡ n) × (d ≡ side_effect)) × IsTodo todo' k) → is_impure_itself s (routine_of c) ≡ true
  only_impure_itself k c g (inl x) = l.collected.only_impure_itself k c g x
  only_impure_itself k c g (inr (q, t)) =
      subst (λ c. is_impure_itself s (routine_of c) ≡ true) (it_is k c g q.0) (act_of s (routine_of e) (subst (λ d. Lists d (all_effects s (routine_of e))) q.1 of_it))

  from_todo : (k : ℕ) → IsTodo todo k ⊎ IsSeen impure' k → IsSeen impure' k
  from_todo k (inl t) = m.grows.keeps k (l.collected.todo_seen k t)
  from_todo k (inr x) = x

  to_todo : (k : ℕ) → IsSeen impure k ⊎ (((k ≡ n) × (d ≡ side_effect)) × IsTodo todo' k) → IsTodo todo' k
  to_todo k (inl x) = m.grows.todo_keeps k (l.collected.seen_todo k x)
  to_todo k (inr (q, t)) = t

  within_all : (j k : ℕ) → Contains (callers_in lists j) k ⊎ ((k ≡ n) × IsCallOf s d j) → k < length (all_features s)
  within_all j k (inl c) = l.collected.callers.in_range j k c
  within_all j k (inr (q, c)) = subst (λ k. k < length (all_features s)) (sym q) (slice_get_within (all_features s) n e is_it)

  runs_called : (j k : ℕ) → k ≡ n → IsCallOf s d j → RunsNumber s j k
  runs_called j k q (g, i, h) c b o p =
      let t = number_stands s g j h in
      let same : routine_of b ≡ g = ap routine_of (some_is b t.feature (sym p ∙ t.stands_at)) ∙ t.is_it in
      subst (λ g. RunsInto s (routine_of c) g) (sym same)
      (subst (λ c. RunsInto s (routine_of c) g) (it_is k c o q) (called (call_of s (routine_of e) g (subst (λ d. Lists d (all_effects s (routine_of e))) i of_it))))

  only_callers : (j k : ℕ) → Contains (callers_in lists j) k ⊎ ((k ≡ n) × IsCallOf s d j) → RunsNumber s j k
  only_callers j k (inl c) = l.collected.callers.only_callers j k c
  only_callers j k (inr (q, c)) = runs_called j k q c

  pub looking_more : IsCollecting s impure' todo' lists' n (ds ++ d ∷ [])
  looking_more = record {
    collected = record {
      as_many = m.grows.same_length ∙ l.collected.as_many;
      as_many_lists = m.same_length ∙ l.collected.as_many_lists;
      impure_itself = λ k c b g o. m.grows.keeps k (l.collected.impure_itself k c b g o);
      only_impure_itself = λ k c g x. only_impure_itself k c g (m.grows.seen_before k x);
      todo_seen = λ k t. from_todo k (m.grows.todo_before k t);
      seen_todo = λ k x. to_todo k (m.grows.seen_before k x);
      callers = record {
        in_range = λ j k c. within_all j k (m.called_before j k c);
        only_callers = λ j k c. only_callers j k (m.called_before j k c);
        all_callers = λ k j c g b i h p. m.keeps j k (l.collected.callers.all_callers k j c g b i h p);
      };
    };
    found = λ p. in_either ds (d ∷ []) p (λ q. m.grows.keeps n (l.found q)) (λ q. m.found (only_one side_effect d q));
    calls = λ g j i p. in_either ds (d ∷ []) p (λ q. m.keeps j n (l.calls g j i q)) (λ q. m.added j (g, only_one (routine_call g) d q, i));
  }

last_or_below : (k n : ℕ) → k < suc n → (k < n) ⊎ (k ≡ n)
last_or_below zero zero l = inr refl
last_or_below zero (suc n) l = inl (omega arith)
last_or_below (suc k) zero l = absurd (omega (arith, l))
last_or_below (suc k) (suc n) l = raised (last_or_below k n (lowered l))
  where
    lowered : suc k < suc (suc n) → k < suc n
    lowered l = omega (arith, l)

    more : k < n → suc k < suc n
    more l = omega (arith, l)

    raised : (k < n) ⊎ (k ≡ n) → (suc k < suc n) ⊎ (suc k ≡ suc n)
    raised (inl l) = inl (more l)
    raised (inr e) = inr (ap suc e)

below_more : (k n : ℕ) → k < n + 1 → (k < n) ⊎ (k ≡ n)
below_more k n l = last_or_below k n (omega (arith, l))

module _ (s : System) (impure : List Bool) (todo : List ℕ) (lists : List (Vec ℕ Global)) (n : ℕ) (e : DeclaredFeature) (is_it : slice_get (all_features s) n ≡ Some e)
    (l : IsCollecting s impure todo lists n (all_effects s (routine_of e))) where
  it_is_done : (k : ℕ) (c : DeclaredFeature) → slice_get (all_features s) k ≡ Some c → k ≡ n → c ≡ e
  it_is_done k c g q = some_is c e (sym g ∙ ap (slice_get (all_features s)) q ∙ is_it)

  impure_itself_done : (k : ℕ) (c : DeclaredFeature) → (k < n) ⊎ (k ≡ n) → slice_get (all_features s) k ≡ Some c → is_impure_itself s (routine_of c) ≡ true → IsSeen impure k
  impure_itself_done k c (inl b) g o = l.collected.impure_itself k c b g o
  impure_itself_done k c (inr q) g o =
      subst (IsSeen impure) (sym q) (l.found (acts_in s (routine_of e) (subst (λ c. is_impure_itself s (routine_of c) ≡ true) (it_is_done k c g q) o)))

  callers_done : (k j : ℕ) (c : DeclaredFeature) (g : RoutineName) → (k < n) ⊎ (k ≡ n) → slice_get (all_features s) k ≡ Some c → feature_number s g ≡ Some j →
      Lists (routine_call g) (effects_of_routine s (routine_of c)) → Contains (callers_in lists j) k
  callers_done k j c g (inl b) i h p = l.collected.callers.all_callers k j c g b i h p
  callers_done k j c g (inr q) i h p =
      subst (Contains (callers_in lists j)) (sym q) (l.calls g j h (calls_in s (routine_of e) g (subst (λ c. Lists (routine_call g) (effects_of_routine s (routine_of c))) (it_is_done k c i q) p)))

  pub looking_done : AreCollected s impure todo lists (n + 1)
  looking_done = record {
    as_many = l.collected.as_many;
    as_many_lists = l.collected.as_many_lists;
    impure_itself = λ k c b g o. impure_itself_done k c (below_more k n b) g o;
    only_impure_itself = l.collected.only_impure_itself;
    todo_seen = l.collected.todo_seen;
    seen_todo = l.collected.seen_todo;
    callers = record {
      in_range = l.collected.callers.in_range;
      only_callers = l.collected.callers.only_callers;
      all_callers = λ k j c g b i h p. callers_done k j c g (below_more k n b) i h p;
    };
  }

-- ---- the beginning, and all looked at

none_contained : (xs : List ℕ) (k : ℕ) → xs ≡ [] → Contains xs k → ⊥
none_contained xs k e c = nothing (subst (λ xs. Contains xs k) e c)
  where
    nothing : Contains [] k → ⊥
    nothing (i, l, h) = omega (arith, l)

none_todo : (todo : List ℕ) (k : ℕ) → todo ≡ [] → IsTodo todo k → ⊥
none_todo todo k e t = any_none {P = λ (j : ℕ). j ≡ k} (subst (λ (ts : List ℕ). IsTodo ts k) e t)

pub collected_none : (s : System) (impure : List Bool) (todo : List ℕ) (lists : List (Vec ℕ Global)) (n : ℕ) → n ≡ length (all_features s) → length impure ≡ n → todo ≡ [] → ((k : ℕ) → IsSeen impure k → ⊥) →
    length lists ≡ n → ((k : ℕ) → callers_in lists k ≡ []) → AreCollected s impure todo lists 0
collected_none s impure todo lists n e l t x m c = record {
  as_many = l ∙ e;
  as_many_lists = m ∙ e;
  impure_itself = λ k d b g o. absurd (omega (arith, b));
  only_impure_itself = λ k d g y. absurd (x k y);
  todo_seen = λ k u. absurd (none_todo todo k t u);
  seen_todo = λ k y. absurd (x k y);
  callers = record {
    in_range = λ j k u. absurd (none_contained (callers_in lists j) k (c j) u);
    only_callers = λ j k u. absurd (none_contained (callers_in lists j) k (c j) u);
    all_callers = λ k j d g b i h p. absurd (omega (arith, b));
  };
}

pub collected_all : (s : System) (impure : List Bool) (todo : List ℕ) (lists : List (Vec ℕ Global)) (n : ℕ) → length (all_features s) ≤ n → AreCollected s impure todo lists n → AreMarked s impure todo
collected_all s impure todo lists n w l = record {
  impure_itself = λ f i m o. found_at f i (number_stands s f i m) o;
  only_impure = λ i d g x. impure_first s (routine_of d) (l.only_impure_itself i d g x);
  todo_seen = l.todo_seen;
  followed = λ g j m x. inl (l.seen_todo j x);
}
  where
    within : (i : ℕ) → i < length (all_features s) → i < n
    within i b = omega (arith, b, w)

    found_at : (f : RoutineName) (i : ℕ) → Numbered s f i → is_impure_itself s f ≡ true → IsSeen impure i
    found_at f i t o =
        l.impure_itself i t.feature (within i (slice_get_within (all_features s) i t.feature t.stands_at)) t.stands_at (subst (λ f. is_impure_itself s f ≡ true) (sym t.is_it) o)

pub callers_all : (s : System) (impure : List Bool) (todo : List ℕ) (lists : List (Vec ℕ Global)) (n : ℕ) → length (all_features s) ≤ n → AreCollected s impure todo lists n → AreCallers s lists (length (all_features s))
callers_all s impure todo lists n w l = record {
  in_range = l.callers.in_range;
  only_callers = l.callers.only_callers;
  all_callers = λ k j d g b i h p. l.callers.all_callers k j d g (omega (arith, b, w)) i h p;
}

-- ---- several are found, one after the other

module _ (ns : List ℕ) (i x : ℕ) (l : i < length ns) (g : x ≡ get_or ns i x) (impure impure' impure'' : List Bool) (todo todo' todo'' : List ℕ) where
  found_before : ((k : ℕ) → Contains (take i ns) k → IsSeen impure' k) → Grows (λ k. k ≡ x) impure' todo' impure'' todo'' → IsSeen impure'' x → (k : ℕ) →
      Contains (take i ns) k ⊎ (x ≡ k) → IsSeen impure'' k
  found_before f h y k (inl c) = h.keeps k (f k c)
  found_before f h y k (inr e) = subst (IsSeen impure'') e y

  pub found_more : Grows (Contains ns) impure todo impure' todo' × ((k : ℕ) → Contains (take i ns) k → IsSeen impure' k) → Grows (λ k. k ≡ x) impure' todo' impure'' todo'' × IsSeen impure'' x →
      Grows (Contains ns) impure todo impure'' todo'' × ((k : ℕ) → Contains (take (i + 1) ns) k → IsSeen impure'' k)
  found_more (h, f) (m, y) = (
    grows_then impure impure' impure'' todo todo' todo'' (λ k e. subst (Contains ns) (sym e) (i, l, sym g)) h m,
    λ k c. found_before f m y k (Contains-push_cases (take i ns) x k (subst (λ (ys : List ℕ). Contains ys k) (seen ns i x l g) c)),
  )

pub found_none : (ns : List ℕ) (impure : List Bool) (todo : List ℕ) → Grows (Contains ns) impure todo impure todo × ((k : ℕ) → Contains (take 0 ns) k → IsSeen impure k)
found_none ns impure todo = (grows_none (Contains ns) impure todo, λ k c. absurd (none_contained [] k refl c))

pub found_all : (ns : List ℕ) (i : ℕ) (impure impure' : List Bool) (todo todo' : List ℕ) → length ns ≤ i →
    Grows (Contains ns) impure todo impure' todo' × ((k : ℕ) → Contains (take i ns) k → IsSeen impure' k) →
    Grows (Contains ns) impure todo impure' todo' × ((k : ℕ) → Contains ns k → IsSeen impure' k)
found_all ns i impure impure' todo todo' l (h, f) = (h, λ k c. f k (subst (λ (ys : List ℕ). Contains ys k) (sym (take_all i ns l)) c))

-- what has a number is among the features
pub number_within : (s : System) (g : RoutineName) (o : Option ℕ) → o ≡ feature_number s g → (m : ℕ) → m ≡ length (all_features s) → (k : ℕ) → o ≡ Some k → k < m
number_within s g o e m l k h =
    let t = number_stands s g k (sym e ∙ h) in
    subst (λ (m : ℕ). k < m) (sym l) (slice_get_within (all_features s) k t.feature t.stands_at)

-- ---- the version that a routine redefines

pub nearest_here : (s : System) (x ks : List ℕ) (i : ℕ) (o : Option ℕ) → i < length ks → o ≡ feature_number s (record { class = get_or ks i 0; name = x }) →
    nearest_in s x (drop i ks) ≡ option_or o (nearest_in s x (drop (i + 1) ks))
nearest_here s x ks i o l e = at_drop_more (nearest_in s x) ks i 0 l ∙ ap (λ p. option_or p (nearest_in s x (drop (i + 1) ks))) (sym e)

-- ---- the features as the code holds them

-- what stands at a number of all features, where the code has this entry
pub record StandsAt (s : System) (n : ℕ) (f : RoutineName) : Type 0 where
  pub feature : DeclaredFeature
  pub is_there : slice_get (all_features s) n ≡ Some feature
  pub is_named : routine_of feature ≡ f

pub entry_stands : (s : System) (fs : List FeatureEntry) (n : ℕ) (x : FeatureEntry) → map (λ (e : FeatureEntry). routine_of (entry_of e)) fs ≡ map routine_of (all_features s) → n < length fs → x ≡ get_or fs n x →
    StandsAt s n (routine_of (entry_of x))
entry_stands s fs n x e l g = by_feature (slice_get (all_features s) n) refl
    (sym (slice_get-map routine_of (all_features s) n) ∙ ap (λ (ys : List RoutineName). slice_get ys n) (sym e) ∙ item_in (λ (e : FeatureEntry). routine_of (entry_of e)) fs n x l g)
  where
    by_feature : (o : Option DeclaredFeature) → slice_get (all_features s) n ≡ o → option_map routine_of o ≡ Some (routine_of (entry_of x)) → StandsAt s n (routine_of (entry_of x))
    by_feature None h i = cc
    by_feature (Some d) h i = record { feature = d; is_there = h; is_named = some_is (routine_of d) (routine_of (entry_of x)) i }

-- the name that the code reads is that of the routine
pub entry_name : (e : FeatureEntry) (x : List ℕ) → x ≡ string_bytes e.feature.now.name.text.value → x ≡ (routine_of (entry_of e)).name
unfolding feature_of
entry_name e x n = n

-- and so is the number that goes by it
pub entry_number : (s : System) (e : FeatureEntry) (x : List ℕ) (o : Option ℕ) → x ≡ string_bytes e.feature.now.name.text.value → o ≡ feature_number s (record { class = e.class; name = x }) →
    o ≡ feature_number s (routine_of (entry_of e))
entry_number s e x o n m = m ∙ ap (λ (x : List ℕ). feature_number s (record { class = e.class; name = x })) (entry_name e x n)

-- and so is the version that it redefines
pub entry_version : (s : System) (e : FeatureEntry) (x : List ℕ) (o : Option ℕ) → x ≡ string_bytes e.feature.now.name.text.value → o ≡ nearest_above s (record { class = e.class; name = x }) →
    o ≡ nearest_above s (routine_of (entry_of e))
entry_version s e x o n m = m ∙ ap (λ (x : List ℕ). nearest_above s (record { class = e.class; name = x })) (entry_name e x n)

-- and so are the effects
pub entry_effects : (s : System) (e : FeatureEntry) (x : List ℕ) (read ds : List held.Effect) → x ≡ string_bytes e.feature.now.name.text.value → read ≡ ds →
    map effect_of ds ≡ all_effects s (record { class = e.class; name = x }) → map effect_of read ≡ all_effects s (routine_of (entry_of e))
entry_effects s e x read ds n i m = ap (map effect_of) i ∙ m ∙ ap (λ (x : List ℕ). all_effects s (record { class = e.class; name = x })) (entry_name e x n)

-- the code holds as many features
pub entries_count : (s : System) (fs : List FeatureEntry) → map (λ (e : FeatureEntry). routine_of (entry_of e)) fs ≡ map routine_of (all_features s) → length fs ≡ length (all_features s)
entries_count s fs e = sym (length-map fs (λ (e : FeatureEntry). routine_of (entry_of e))) ∙ ap length e ∙ length-map (all_features s) routine_of

-- an element that the code has read is on the list
pub read_listed : {A B : Type 0} (f : A → B) (xs : List A) (i : ℕ) (x : A) → i < length xs → x ≡ get_or xs i x → Lists (f x) (map f xs)
read_listed f [] i x l g = absurd (omega (arith, l))
read_listed f (y ∷ xs) zero x l g = subst (λ y. Lists (f x) (f y ∷ map f xs)) g first
read_listed f (y ∷ xs) (suc i) x l g = later (read_listed f xs i x (less l) g)
  where
    less : suc i < suc (length xs) → i < length xs
    less l = omega arith

-- ---- the effects as the code reads them

module _ (s : System) (n : ℕ) (ds : List held.Effect) (i : ℕ) (f : RoutineName) (st : StandsAt s n f) (are_its : map effect_of ds ≡ all_effects s f) where
  pub collecting_read : (impure impure' : List Bool) (todo todo' : List ℕ) (lists lists' : List (Vec ℕ Global)) (x : held.Effect) → i < length ds → x ≡ get_or ds i x →
      IsCollecting s impure todo lists n (map effect_of (take i ds)) → IsRecorded s impure todo lists impure' todo' lists' n (effect_of x) → IsCollecting s impure' todo' lists' n (map effect_of (take (i + 1) ds))
  collecting_read impure impure' todo todo' lists lists' x l g k m =
      subst (IsCollecting s impure' todo' lists' n) (sym (ap (map effect_of) (seen ds i x l g) ∙ map-append effect_of (take i ds) (x ∷ [])))
      (looking_more s impure impure' todo todo' lists lists' n (map effect_of (take i ds)) (effect_of x) st.feature st.is_there k m
      (subst (Lists (effect_of x)) (are_its ∙ ap (all_effects s) (sym st.is_named)) (read_listed effect_of ds i x l g)))

  pub collecting_end : (impure : List Bool) (todo : List ℕ) (lists : List (Vec ℕ Global)) → length ds ≤ i → IsCollecting s impure todo lists n (map effect_of (take i ds)) → AreCollected s impure todo lists (n + 1)
  collecting_end impure todo lists l k =
      looking_done s impure todo lists n st.feature st.is_there
      (subst (IsCollecting s impure todo lists n) (ap (map effect_of) (take_all i ds l) ∙ are_its ∙ ap (all_effects s) (sym st.is_named)) k)
