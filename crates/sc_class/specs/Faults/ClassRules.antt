-- The faults of a system's classes.
use Rattle.std.specs.Prelude.{◌≡◌, ◌≤◌, ℕ, Bool, false, List, [], ◌&&◌, ◌==◌, Some, Any, length, is_none, slice_get}
use Rattle.std.specs.Option.{option_map_or}
use Rattle.sc_text.specs.declared.token.Span.{Span}
use Rattle.sc_tree.specs.Plain.{System, Class, FeatureKind, Attribute, Routine}
use Rattle.sc_class.specs.declared.faults.left_out.Exclusion.{Exclusion}
use Rattle.sc_class.specs.declared.fault.LeftOut.{LeftOut}
use Rattle.sc_class.specs.declared.fault.ClassFault.{ClassFault}
use Rattle.sc_class.specs.declared.fault.ClassFault.TheVariants as fault
use Rattle.sc_class.specs.Names.{is_listed}
use Rattle.sc_class.specs.ClassNames.{Root, RepeatedAt, number_of}
use Rattle.sc_class.specs.Tables.Ancestors.{UnknownParentAt, CycleAt}
use Rattle.sc_class.specs.Tables.Declared.{creators_of}
use Rattle.sc_class.specs.Tables.Features.{DeclaredFeature, features, named_among}
use Rattle.sc_class.specs.Faults.Scopes.{ClassClashes}
use Rattle.sc_class.specs.Faults.Redefinition.{BadlyRedefines}
use Rattle.sc_class.specs.Faults.Limits.{PassesLimit}
use Rattle.sc_class.specs.Faults.LeftOut.{ClassLeftOut}

-- a procedure without formals
abbrev pub is_plain_procedure : FeatureKind → Bool
is_plain_procedure (Attribute t) = false
is_plain_procedure (Routine r) = length r.formals == 0 && is_none r.result_type

-- the class at the number lists the name under `create`, and has a procedure of that name without formals, its own or
-- inherited
abbrev pub creates_by : System → List ℕ → ℕ → Bool
creates_by s x k =
    is_listed x (creators_of s k)
    && option_map_or (λ (f : DeclaredFeature). is_plain_procedure f.feature.kind) (named_among x (features s k)) false

-- there is a class of the root's name, and it creates its objects by that procedure
abbrev pub has_root : System → Root → Bool
has_root s root = option_map_or (creates_by s root.procedure) (number_of s root.class) false

-- The fault is in the system, which is run from this root.
pub data Fails (s : System) (root : Root) : ClassFault → Type 0 where
  duplicate_class : {p : Span} → RepeatedAt [] s.classes p → Fails s root (fault.DuplicateClass p)
  unknown_parent : {p : Span} → Any (λ c. Any (λ q. UnknownParentAt s q p) c.parents) s.classes →
      Fails s root (fault.UnknownParent p)
  cycle : {p : Span} → CycleAt s p → Fails s root (fault.Cycle p)
  duplicate_feature : {p : Span} {k : ℕ} {c : Class} → slice_get s.classes k ≡ Some c → ClassClashes s k c p →
      Fails s root (fault.DuplicateFeature p)
  bad_redefinition : {p : Span} {k : ℕ} {c : Class} → slice_get s.classes k ≡ Some c → BadlyRedefines s k c p →
      Fails s root (fault.BadRedefinition p)
  no_root : has_root s root ≡ false → Fails s root fault.NoRoot
  limit : PassesLimit s → Fails s root fault.Limit
  left_out : {x : Exclusion} → Any (λ c. ClassLeftOut c x) s.classes → Fails s root (fault.LeftOut x.what x.span)

-- No fault is in the system.
abbrev pub IsFaultless : System → Root → Type 0
IsFaultless s root = (f : ClassFault) → Fails s root f → ⊥

-- the number of a fault's code, C1 to C8; out of memory has none
abbrev pub code_number : ClassFault → ℕ
code_number (fault.DuplicateClass p) = 1
code_number (fault.UnknownParent p) = 2
code_number (fault.Cycle p) = 3
code_number (fault.DuplicateFeature p) = 4
code_number (fault.BadRedefinition p) = 5
code_number fault.NoRoot = 6
code_number fault.Limit = 7
code_number (fault.LeftOut what p) = 8
code_number fault.OutOfMemory = 0

-- No fault of a lower code is in the system.
abbrev pub HasLeastCode : System → Root → ClassFault → Type 0
HasLeastCode s root f = (g : ClassFault) → Fails s root g → code_number f ≤ code_number g

-- Of the faults of its code in the system none comes before it. C6 and C7 have no place.
abbrev pub IsPlacedFirst : System → Root → ClassFault → Type 0
IsPlacedFirst s root (fault.DuplicateClass p) = (q : Span) → Fails s root (fault.DuplicateClass q) → p.start ≤ q.start
IsPlacedFirst s root (fault.UnknownParent p) = (q : Span) → Fails s root (fault.UnknownParent q) → p.start ≤ q.start
IsPlacedFirst s root (fault.Cycle p) = (q : Span) → Fails s root (fault.Cycle q) → p.start ≤ q.start
IsPlacedFirst s root (fault.DuplicateFeature p) =
    (q : Span) → Fails s root (fault.DuplicateFeature q) → p.start ≤ q.start
IsPlacedFirst s root (fault.BadRedefinition p) = (q : Span) → Fails s root (fault.BadRedefinition q) → p.start ≤ q.start
IsPlacedFirst s root (fault.LeftOut what p) =
    (other : LeftOut) (q : Span) → Fails s root (fault.LeftOut other q) → p.start ≤ q.start
IsPlacedFirst s root fault.NoRoot = Unit {0}
IsPlacedFirst s root fault.Limit = Unit {0}
IsPlacedFirst s root fault.OutOfMemory = Unit {0}
