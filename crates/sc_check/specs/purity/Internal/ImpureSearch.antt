-- The search for features that aren't pure functions: what it holds at each point.
use Rattle.std.specs.Prelude.{◌≡◌, ◌<◌, ◌⊎◌, ℕ, Bool, true, List, Some, Any, Contains, length, slice_get}
use Rattle.std.specs.declared.vec.Vec.{Vec}
use Rattle.std.specs.declared.alloc.Global.{Global}
use Rattle.sc_tree.specs.Plain.{System}
use Rattle.sc_class.specs.Tables.Features.{DeclaredFeature}
use Rattle.sc_class.specs.Internal.Search.{IsSeen, IsTodo, Grows}
use Rattle.sc_rules.specs.Names.{RoutineName, routine_of}
use Rattle.sc_rules.specs.Purity.{Impure}
use Rattle.sc_rules.specs.JudgingPurity.{Effect, side_effect, routine_call, Lists, effects_of_routine, is_impure_itself, RunsInto}
use Rattle.sc_typing.specs.FeatureNumbers.{all_features, feature_number}
use Rattle.sc_check.specs.purity.Internal.Callers.{callers_in}
use Rattle.sc_check.specs.purity.Internal.Versions.{IsFollowed}
use Rattle.sc_check.specs.declared.purity.search.Search.{Search}
use Rattle.sc_check.specs.declared.purity.search.Callers.{Callers}

-- The features marked are impure. Those that are impure themselves are marked, and so are the callers of each marked
-- one, and the version that it redefines, unless it is still to be looked at.
pub record AreMarked (s : System) (impure : List Bool) (todo : List ℕ) : Type 0 where
  pub impure_itself : (f : RoutineName) (i : ℕ) → feature_number s f ≡ Some i → is_impure_itself s f ≡ true →
      IsSeen impure i
  pub only_impure : (i : ℕ) (d : DeclaredFeature) → slice_get (all_features s) i ≡ Some d → IsSeen impure i →
      Impure s (routine_of d)
  pub todo_seen : (i : ℕ) → IsTodo todo i → IsSeen impure i
  pub followed : (g : RoutineName) (j : ℕ) → feature_number s g ≡ Some j → IsSeen impure j →
      IsTodo todo j ⊎ IsFollowed s impure g

-- the feature at the first number may run the one at the second
abbrev pub RunsNumber : System → ℕ → ℕ → Type 0
RunsNumber s j i = (d e : DeclaredFeature) → slice_get (all_features s) i ≡ Some d →
    slice_get (all_features s) j ≡ Some e → RunsInto s (routine_of d) (routine_of e)

-- one of the classes declares a feature of this name, and it has the number
abbrev pub IsNamedIn : System → List ℕ → List ℕ → ℕ → Type 0
IsNamedIn s classes x k = Any (λ i. feature_number s (record { class = i; name = x }) ≡ Some k) classes

-- a call of the routine that has the number
abbrev pub IsCallOf : System → Effect → ℕ → Type 0
IsCallOf s d j = (g : RoutineName) × (d ≡ routine_call g) × (feature_number s g ≡ Some j)

-- An effect of a feature was recorded: the feature is found if no pure function has that effect, and is a caller of
-- what it calls.
pub record IsRecorded (s : System) (impure : List Bool) (todo : List ℕ) (lists : List (Vec ℕ Global))
    (impure' : List Bool) (todo' : List ℕ) (lists' : List (Vec ℕ Global)) (n : ℕ) (d : Effect) : Type 0 where
  pub grows : Grows (λ k. (k ≡ n) × (d ≡ side_effect)) impure todo impure' todo'
  pub found : d ≡ side_effect → IsSeen impure' n
  pub same_length : length lists' ≡ length lists
  pub keeps : (j k : ℕ) → Contains (callers_in lists j) k → Contains (callers_in lists' j) k
  pub called_before : (j k : ℕ) → Contains (callers_in lists' j) k → Contains (callers_in lists j) k
      ⊎ ((k ≡ n) × IsCallOf s d j)
  pub added : (j : ℕ) → IsCallOf s d j → Contains (callers_in lists' j) n

-- The lists hold calls of features alone, and those of the features before the number.
pub record AreCallers (s : System) (lists : List (Vec ℕ Global)) (n : ℕ) : Type 0 where
  pub in_range : (j k : ℕ) → Contains (callers_in lists j) k → k < length (all_features s)
  pub only_callers : (j k : ℕ) → Contains (callers_in lists j) k → RunsNumber s j k
  pub all_callers : (k j : ℕ) (d : DeclaredFeature) (g : RoutineName) → k < n → slice_get (all_features s) k ≡ Some d →
      feature_number s g ≡ Some j →
      Lists (routine_call g) (effects_of_routine s (routine_of d)) → Contains (callers_in lists j) k

-- the search has marked some of these features, and those are still to be followed
abbrev pub MarksOf : (ℕ → Type 0) → Search → Search → Type 0
MarksOf Are old new = Grows Are old.impure.items old.todo.items new.impure.items new.todo.items

-- it has marked all of them
abbrev pub MarksAll : (ℕ → Type 0) → Search → Search → Type 0
MarksAll Are old new = MarksOf Are old new × ((k : ℕ) → Are k → IsSeen new.impure.items k)

-- what a feature does is held by the search and the callers
abbrev pub Records : System → Search → Callers → Search → Callers → ℕ → Effect → Type 0
Records s search callers search' callers' n d =
    IsRecorded s search.impure.items search.todo.items callers.lists.items search'.impure.items search'.todo.items
    callers'.lists.items n d

-- The features before the number were looked at: those of them that are impure themselves are found, and nothing else
-- is.
pub record AreCollected (s : System) (impure : List Bool) (todo : List ℕ) (lists : List (Vec ℕ Global)) (n : ℕ)
    : Type 0 where
  pub as_many : length impure ≡ length (all_features s)
  pub as_many_lists : length lists ≡ length (all_features s)
  pub impure_itself : (k : ℕ) (d : DeclaredFeature) → k < n → slice_get (all_features s) k ≡ Some d →
      is_impure_itself s (routine_of d) ≡ true → IsSeen impure k
  pub only_impure_itself : (k : ℕ) (d : DeclaredFeature) → slice_get (all_features s) k ≡ Some d → IsSeen impure k →
      is_impure_itself s (routine_of d) ≡ true
  pub todo_seen : (k : ℕ) → IsTodo todo k → IsSeen impure k
  pub seen_todo : (k : ℕ) → IsSeen impure k → IsTodo todo k
  pub callers : AreCallers s lists n

-- the search and the callers hold what the features before the number do
abbrev pub Collects : System → Search → Callers → ℕ → Type 0
Collects s search callers n = AreCollected s search.impure.items search.todo.items callers.lists.items n

-- The features before the number were looked at, and of that one these effects.
pub record IsCollecting (s : System) (impure : List Bool) (todo : List ℕ) (lists : List (Vec ℕ Global)) (n : ℕ)
    (ds : List Effect) : Type 0 where
  pub collected : AreCollected s impure todo lists n
  pub found : Lists side_effect ds → IsSeen impure n
  pub calls : (g : RoutineName) (j : ℕ) → feature_number s g ≡ Some j → Lists (routine_call g) ds →
      Contains (callers_in lists j) n

-- the callers of the feature at the number are marked, and so is the version that it redefines
abbrev pub MarksRunners : System → ℕ → List Bool → Type 0
MarksRunners s j impure = (g : RoutineName) → feature_number s g ≡ Some j → IsFollowed s impure g
