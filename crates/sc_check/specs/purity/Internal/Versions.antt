-- The version that a routine redefines, and what is marked if a routine is.
use Rattle.std.specs.Prelude.{◌≡◌, ℕ, Bool, List, [], ◌∷◌, Option, Some, None}
use Rattle.std.specs.Option.{option_and_then, option_or}
use Rattle.sc_tree.specs.Plain.{System}
use Rattle.sc_class.specs.declared.identity.ClassId.TheVariants as class
use Rattle.sc_class.specs.Tables.Ancestors.{parent_number}
use Rattle.sc_class.specs.Tables.ByClass.{ancestors_of}
use Rattle.sc_class.specs.Internal.Search.{IsSeen}
use Rattle.sc_rules.specs.Names.{RoutineName}
use Rattle.sc_rules.specs.JudgingPurity.{routine_call, Lists, effects_of_routine}
use Rattle.sc_typing.specs.FeatureNumbers.{feature_number}

-- the number of the feature of this name in the first of these classes that declares one
abbrev pub nearest_in : System → List ℕ → List ℕ → Option ℕ
nearest_in s x [] = None
nearest_in s x (k ∷ ks) = option_or (feature_number s (record { class = k; name = x })) (nearest_in s x ks)

-- the number of the version that the routine redefines: that of the nearest class above its own
abbrev pub nearest_above : System → RoutineName → Option ℕ
nearest_above s g =
    option_and_then (λ i. nearest_in s g.name (ancestors_of s (class.Declared i))) (parent_number s g.class)

-- The callers of the routine are marked, and so is the version that it redefines.
pub record IsFollowed (s : System) (impure : List Bool) (g : RoutineName) : Type 0 where
  pub callers_seen : (f : RoutineName) (i : ℕ) → feature_number s f ≡ Some i →
      Lists (routine_call g) (effects_of_routine s f) → IsSeen impure i
  pub version_seen : (i : ℕ) → nearest_above s g ≡ Some i → IsSeen impure i
