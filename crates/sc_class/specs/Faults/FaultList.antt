-- The list of all faults of a system's classes.
use Rattle.std.specs.Prelude.{◌≡◌, ◌==◌, ◌&&◌, ◌||◌, ℕ, Bool, List, ◌∷◌, All, Any, nat_lt}
use Rattle.std.specs.List.Sorted.{IsSortedBy}
use Rattle.sc_tree.specs.Plain.{System}
use Rattle.sc_class.specs.declared.fault.ClassFault.{ClassFault}
use Rattle.sc_class.specs.declared.fault.ClassFault.TheVariants as fault
use Rattle.sc_class.specs.ClassNames.{Root}
use Rattle.sc_class.specs.Faults.ClassRules.{Fails, HasLeastCode, IsPlacedFirst, code_number}

-- where the place of a fault begins; C6 and C7 have none
abbrev pub start_of : ClassFault → ℕ
start_of (fault.DuplicateClass p) = p.start
start_of (fault.UnknownParent p) = p.start
start_of (fault.Cycle p) = p.start
start_of (fault.DuplicateFeature p) = p.start
start_of (fault.BadRedefinition p) = p.start
start_of fault.NoRoot = 0
start_of fault.Limit = 0
start_of (fault.LeftOut what p) = p.start
start_of fault.OutOfMemory = 0

-- The code of the first fault is lower, or it is that of the second one and the first one's place comes before.
abbrev pub comes_before : ClassFault → ClassFault → Bool
comes_before f g =
    nat_lt (code_number f) (code_number g) || code_number f == code_number g && nat_lt (start_of f) (start_of g)

-- Each fault of the list is in the system, and each that is in the system is listed; by their codes, and those of one
-- code by their places.
pub record AreClassFaults (s : System) (root : Root) (faults : List ClassFault) : Type 0 where
  pub each_fails : All (Fails s root) faults
  pub each_listed : (f : ClassFault) → Fails s root f → Any (λ g. g ≡ f) faults
  pub in_order : IsSortedBy comes_before faults

-- No fault has a lower code than the first of the list, and of those of its code none comes before it.
abbrev pub BeginsWithFirst : System → Root → List ClassFault → Type 0
BeginsWithFirst s root faults =
    (f : ClassFault) (more : List ClassFault) → faults ≡ f ∷ more → HasLeastCode s root f × IsPlacedFirst s root f
