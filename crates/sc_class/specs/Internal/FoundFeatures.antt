-- The features that are found of each class, as the code holds them.
use Rattle.std.specs.Prelude.{◌≡◌, ◌≤◌, ◌⊎◌, ℕ, List, Option, Some, length, map, slice_get}
use Rattle.sc_tree.specs.Plain.{System}
use Rattle.sc_class.specs.declared.class_tables.found_features.ClassFeatures.{ClassFeatures}
use Rattle.sc_class.specs.Tables.Ancestors.{parent_number, ancestors_from, ancestors_within}
use Rattle.sc_class.specs.Tables.Features.{DeclaredFeature, features_along}
use Rattle.sc_class.specs.View.{entry_of}

-- These are the features of the class at a number, if one goes to so many of its ancestors, or to more.
abbrev pub AreWithin : System → ℕ → ℕ → List DeclaredFeature → Type 0
AreWithin s k n fs = (m : ℕ) → n ≤ m → fs ≡ features_along s (ancestors_within m s k)

-- These are the features of its parent, or none where it has no parent, if one goes to so many ancestors, or to more.
abbrev pub AreAbove : System → ℕ → ℕ → List DeclaredFeature → Type 0
AreAbove s k n fs = (m : ℕ) → n ≤ m → fs ≡ features_along s (ancestors_from m s (parent_number s k))

-- The features are those of the class at the number, which has no more ancestors than there are classes.
pub record AreFeatures (s : System) (k : ℕ) (f : ClassFeatures) : Type 0 where
  pub is_short : f.depth ≤ length s.classes
  pub are_its : AreWithin s k f.depth (map entry_of f.entries.items)

-- What was found, if something was, are the features of the class at the number.
abbrev pub AreItsIfAny : System → ℕ → Option ClassFeatures → Type 0
AreItsIfAny s k found = (f : ClassFeatures) → found ≡ Some f → AreFeatures s k f

-- What was found of a class, if something was, is what it has.
abbrev pub AreFound : System → List (Option ClassFeatures) → Type 0
AreFound s found = (k : ℕ) (f : ClassFeatures) → slice_get found k ≡ Some (Some f) → AreFeatures s k f

-- This is found at this number now, and elsewhere what was found before.
abbrev pub Keeps : List (Option ClassFeatures) → ℕ → Option ClassFeatures → List (Option ClassFeatures) → Type 0
Keeps found n o found' =
    (k : ℕ) (g : ClassFeatures) → slice_get found' k ≡ Some (Some g) →
    ((k ≡ n) × (o ≡ Some g)) ⊎ (slice_get found k ≡ Some (Some g))
