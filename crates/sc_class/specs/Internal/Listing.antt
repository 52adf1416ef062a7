-- How all faults of a system's classes are listed, code by code.
use Rattle.std.specs.Prelude.{◌≡◌, ◌⊎◌, false, []}
use Rattle.sc_text.specs.declared.token.Span.{Span}
use Rattle.sc_tree.specs.Plain.{System}
use Rattle.sc_class.specs.declared.fault.ClassFault.{ClassFault}
use Rattle.sc_class.specs.declared.fault.ClassFault.TheVariants as fault
use Rattle.sc_class.specs.declared.faults.left_out.Exclusion.{Exclusion}
use Rattle.sc_class.specs.declared.listing.PlacedFault.{PlacedFault}
use Rattle.sc_class.specs.declared.listing.PlacedFault.TheVariants as placed
use Rattle.sc_class.specs.ClassNames.{Root, RepeatedAt}
use Rattle.sc_class.specs.Tables.Ancestors.{CycleAt}
use Rattle.sc_class.specs.Faults.Scopes.{ClassClashes}
use Rattle.sc_class.specs.Faults.Redefinition.{BadlyRedefines}
use Rattle.sc_class.specs.Faults.Limits.{PassesLimit}
use Rattle.sc_class.specs.Faults.ClassRules.{has_root}
use Rattle.sc_class.specs.Internal.FaultAt.{FaultAt}
use Rattle.sc_class.specs.Internal.NoFaults.{IsUnknownIn, IsLeftOutIn}
use Rattle.sc_class.specs.Internal.Places.{IsOf}

-- the fault of this kind at a place
abbrev pub fault_at : PlacedFault → Span → ClassFault
fault_at placed.DuplicateClass p = fault.DuplicateClass p
fault_at placed.UnknownParent p = fault.UnknownParent p
fault_at placed.Cycle p = fault.Cycle p
fault_at placed.DuplicateFeature p = fault.DuplicateFeature p
fault_at placed.BadRedefinition p = fault.BadRedefinition p

abbrev pub left_out_fault : Exclusion → ClassFault
left_out_fault x = fault.LeftOut x.what x.span

-- ---- the faults of each code

abbrev pub IsRepeated : System → ClassFault → Type 0
IsRepeated s = IsOf (λ p. fault.DuplicateClass p) (RepeatedAt [] s.classes)

abbrev pub IsUnknown : System → ClassFault → Type 0
IsUnknown s = IsOf (λ p. fault.UnknownParent p) (IsUnknownIn s)

abbrev pub IsCycle : System → ClassFault → Type 0
IsCycle s = IsOf (λ p. fault.Cycle p) (CycleAt s)

abbrev pub IsClash : System → ClassFault → Type 0
IsClash s = IsOf (λ p. fault.DuplicateFeature p) (FaultAt s (ClassClashes s))

abbrev pub IsBadRedefinition : System → ClassFault → Type 0
IsBadRedefinition s = IsOf (λ p. fault.BadRedefinition p) (FaultAt s (BadlyRedefines s))

abbrev pub IsNoRoot : System → Root → ClassFault → Type 0
IsNoRoot s root f = (f ≡ fault.NoRoot) × (has_root s root ≡ false)

abbrev pub IsLimit : System → ClassFault → Type 0
IsLimit s f = (f ≡ fault.Limit) × PassesLimit s

abbrev pub IsLeftOut : System → ClassFault → Type 0
IsLeftOut s = IsOf left_out_fault (IsLeftOutIn s)

-- C1 to C3
abbrev pub OfClasses : System → ClassFault → Type 0
OfClasses s f = IsRepeated s f ⊎ (IsUnknown s f ⊎ IsCycle s f)

-- C4 and C5
abbrev pub OfFeatures : System → ClassFault → Type 0
OfFeatures s f = IsClash s f ⊎ IsBadRedefinition s f

-- C4 to C8
abbrev pub OfOutline : System → Root → ClassFault → Type 0
OfOutline s root f = OfFeatures s f ⊎ (IsNoRoot s root f ⊎ (IsLimit s f ⊎ IsLeftOut s f))
