-- Faults that a system hasn't, as far as it is checked.
use Rattle.std.specs.Prelude.{◌≡◌, true, [], Any}
use Rattle.sc_text.specs.declared.token.Span.{Span}
use Rattle.sc_tree.specs.Plain.{System}
use Rattle.sc_class.specs.declared.faults.left_out.Exclusion.{Exclusion}
use Rattle.sc_class.specs.ClassNames.{Root, RepeatedAt}
use Rattle.sc_class.specs.Tables.Ancestors.{UnknownParentAt, CycleAt}
use Rattle.sc_class.specs.Faults.Scopes.{ClassClashes}
use Rattle.sc_class.specs.Faults.Redefinition.{BadlyRedefines}
use Rattle.sc_class.specs.Faults.Limits.{PassesLimit}
use Rattle.sc_class.specs.Faults.LeftOut.{ClassLeftOut}
use Rattle.sc_class.specs.Faults.ClassRules.{has_root}
use Rattle.sc_class.specs.Internal.FaultAt.{FaultAt}

-- This is the place of a parent that no class can be.
abbrev pub IsUnknownIn : System → Span → Type 0
IsUnknownIn s p = Any (λ c. Any (λ q. UnknownParentAt s q p) c.parents) s.classes

-- This is left out in one of the classes.
abbrev pub IsLeftOutIn : System → Exclusion → Type 0
IsLeftOutIn s x = Any (λ c. ClassLeftOut c x) s.classes

-- No fault is in the names and the parents of the classes.
pub record ClassesStand (s : System) : Type 0 where
  pub none_repeated : (p : Span) → RepeatedAt [] s.classes p → ⊥
  pub none_unknown : (p : Span) → IsUnknownIn s p → ⊥
  pub none_cyclic : (p : Span) → CycleAt s p → ⊥

-- No fault is in their features, and the system can be run from this root.
pub record FeaturesStand (s : System) (root : Root) : Type 0 where
  pub none_clashes : (p : Span) → FaultAt s (ClassClashes s) p → ⊥
  pub none_redefines_badly : (p : Span) → FaultAt s (BadlyRedefines s) p → ⊥
  pub rooted : has_root s root ≡ true

-- It is within the limits and the language.
pub record RestStands (s : System) : Type 0 where
  pub within_limits : PassesLimit s → ⊥
  pub none_left_out : (x : Exclusion) → IsLeftOutIn s x → ⊥
