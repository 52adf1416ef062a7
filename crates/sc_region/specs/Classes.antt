-- What a program says of its classes and routines.
use Rattle.std.specs.Prelude.{ℕ, Bool, false, not, List, [], Option, Some, None, map, slice_get, unwrap_or}
use Rattle.std.specs.List.{list_all}
use Rattle.std.specs.Option.{option_and_then}
use Rattle.sc_formula.specs.declared.atom.Atom.{Atom}
use Rattle.sc_formula.specs.Formula.{PlainFormula, truth_of}
use Rattle.sc_formula.specs.Invariant.{Meets}
use Rattle.sc_region.specs.declared.value.Value.{Value}
use Rattle.sc_code.specs.declared.program.Image.{Image}
use Rattle.sc_code.specs.declared.program.RoutineCode.{RoutineCode}
use Rattle.sc_code.specs.declared.program.ClassCode.{ClassCode}
use Rattle.sc_code.specs.declared.program.AttributeCode.{AttributeCode}
use Rattle.sc_code.specs.JoinedInvariants.{joined_in, joined_invariant}
use Rattle.sc_code.specs.Programs.{PlainClass, class_in}
use Rattle.sc_region.specs.Values.{default_value, atoms_of}
use Rattle.sc_region.specs.Objects.{PlainObject}

abbrev pub class_at : Image → ℕ → Option ClassCode
class_at p k = slice_get p.classes.items k

-- the routine at the number, where the feature of this number is one
abbrev pub routine_at : Image → ℕ → Option RoutineCode
routine_at p n = option_and_then (λ (r : Option RoutineCode). r) (slice_get p.routines.items n)

abbrev pub defaults_of : Option ClassCode → List Value
defaults_of None = []
defaults_of (Some c) = map (λ (a : AttributeCode). default_value a.default) c.attributes.items

-- a new object of the class at the number: each attribute has its default
abbrev pub fresh_object : Image → ℕ → PlainObject
fresh_object p k = record { class = k; attributes = defaults_of (class_at p k) }

abbrev pub classes_of : Image → List PlainClass
classes_of p = map class_in p.classes.items

-- the joined invariant of a class
abbrev pub joined_of : Image → ClassCode → List PlainFormula
joined_of p c = joined_in (classes_of p) (Some (class_in c))

-- the joined invariant of the class at the number
abbrev pub invariant_of : Image → ℕ → List PlainFormula
invariant_of p k = joined_invariant (classes_of p) k

-- The object meets its class invariant (ECMA-367, 8.9.16).
abbrev pub MeetsInvariant : Image → PlainObject → Type 0
MeetsInvariant p o = Meets (invariant_of p o.class) (atoms_of o.attributes)

-- there is an object, and it meets its class invariant
abbrev pub MeetsAt : Image → Option PlainObject → Type 0
MeetsAt p None = ⊥
MeetsAt p (Some o) = MeetsInvariant p o

abbrev pub all_hold : List PlainFormula → List Atom → Bool
all_hold clauses atoms = list_all (λ clause. unwrap_or (truth_of clause atoms) false) clauses

-- the test of the same
abbrev pub meets_invariant : Image → PlainObject → Bool
meets_invariant p o = all_hold (invariant_of p o.class) (atoms_of o.attributes)

abbrev pub object_meets : Image → Option PlainObject → Bool
object_meets p None = false
object_meets p (Some o) = meets_invariant p o

abbrev pub object_breaks : Image → Option PlainObject → Bool
object_breaks p None = false
object_breaks p (Some o) = not (meets_invariant p o)
