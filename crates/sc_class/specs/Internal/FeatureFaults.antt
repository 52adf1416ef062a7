-- What is found at fault in the features of classes, as the code holds it.
use Rattle.std.specs.Prelude.{◌≡◌, ◌<◌, ◌⊎◌, ℕ, Bool, true, List, Some, length, slice_get}
use Rattle.sc_text.specs.declared.token.Span.{Span}
use Rattle.sc_tree.specs.Plain.{System, Class}
use Rattle.sc_class.specs.declared.faults.features.FeatureFaults.{FeatureFaults}
use Rattle.sc_class.specs.declared.faults.features.FirstFaults.{FirstFaults}
use Rattle.sc_class.specs.Faults.Scopes.{ClassClashes}
use Rattle.sc_class.specs.Faults.Redefinition.{BadlyRedefines}
use Rattle.sc_class.specs.Internal.Found.{FindsFirstPlace}
use Rattle.sc_class.specs.Internal.FaultAt.{FaultAt}
use Rattle.sc_class.specs.Internal.Places.{Gains, Has, Lists}

-- what is at fault in a class is added
pub record AddsThoseOf (s : System) (k : ℕ) (c : Class) (old new : FeatureFaults) : Type 0 where
  pub clash : Gains (ClassClashes s k c) old.clash new.clash
  pub redefinition : Gains (BadlyRedefines s k c) old.redefinition new.redefinition

-- the class at the number has been looked at
abbrev pub IsDone : List Bool → ℕ → Type 0
IsDone done k = slice_get done k ≡ Some true

-- What is found are faults of classes, and all of those that have been looked at.
pub record AreFound (s : System) (done : List Bool) (found : FeatureFaults) : Type 0 where
  pub clashes_are : (p : Span) → Has found.clash p → FaultAt s (ClassClashes s) p
  pub clashes_of : (k : ℕ) (c : Class) → IsDone done k → slice_get s.classes k ≡ Some c →
      (p : Span) → ClassClashes s k c p → Has found.clash p
  pub redefinitions_are : (p : Span) → Has found.redefinition p → FaultAt s (BadlyRedefines s) p
  pub redefinitions_of : (k : ℕ) (c : Class) → IsDone done k → slice_get s.classes k ≡ Some c →
      (p : Span) → BadlyRedefines s k c p → Has found.redefinition p

-- The class at the number has been looked at now too, and no other.
pub record Marks (n : ℕ) (old new : List Bool) : Type 0 where
  pub same_length : length new ≡ length old
  pub keeps : (k : ℕ) → IsDone old k → IsDone new k
  pub done : n < length old → IsDone new n
  pub before : (k : ℕ) → IsDone new k → (k ≡ n) ⊎ IsDone old k

-- The class at the number has been looked at now, if there is one, and those that had been before.
pub record Goes (s : System) (n : ℕ) (old new : List Bool) : Type 0 where
  pub same_length : length new ≡ length old
  pub keeps : (k : ℕ) → IsDone old k → IsDone new k
  pub done : n < length old → n < length s.classes → IsDone new n

-- what is at fault in all classes
pub record AreOfAll (s : System) (f : FeatureFaults) : Type 0 where
  pub clash : Lists (FaultAt s (ClassClashes s)) f.clash
  pub redefinition : Lists (FaultAt s (BadlyRedefines s)) f.redefinition

-- the first of it in the text
pub record AreFirst (s : System) (f : FirstFaults) : Type 0 where
  pub clash : FindsFirstPlace (FaultAt s (ClassClashes s)) f.clash
  pub redefinition : FindsFirstPlace (FaultAt s (BadlyRedefines s)) f.redefinition
