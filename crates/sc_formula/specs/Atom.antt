-- What an invariant sees of an object: an atom for each attribute, by number.
use Rattle.std.specs.Prelude.{ℕ, ℤ, Bool, List, map, slice_get, Option, Some, None}
use Rattle.std.specs.Option.{option_and_then}
use Rattle.sc_formula.specs.declared.atom.Atom.{Atom}
use Rattle.sc_formula.specs.declared.atom.Atom.TheVariants.{Integer, Boolean, Reference}
use Rattle.sc_formula.specs.declared.atom.AtomKind.{AtomKind}
use Rattle.sc_formula.specs.declared.atom.AtomKind.TheVariants as kind

abbrev pub kind_of : Atom → AtomKind
kind_of (Integer z) = kind.Integer
kind_of (Boolean b) = kind.Boolean
kind_of (Reference v) = kind.Reference

-- Values change, kinds stay.
abbrev pub kinds_of : List Atom → List AtomKind
kinds_of atoms = map kind_of atoms

abbrev pub as_integer : Atom → Option ℤ
as_integer (Integer z) = Some z
as_integer _ = None

abbrev pub as_boolean : Atom → Option Bool
as_boolean (Boolean b) = Some b
as_boolean _ = None

-- whether the reference is Void
abbrev pub as_void : Atom → Option Bool
as_void (Reference v) = Some v
as_void _ = None

abbrev pub integer_at : List Atom → ℕ → Option ℤ
integer_at atoms n = option_and_then as_integer (slice_get atoms n)

abbrev pub boolean_at : List Atom → ℕ → Option Bool
boolean_at atoms n = option_and_then as_boolean (slice_get atoms n)

abbrev pub void_at : List Atom → ℕ → Option Bool
void_at atoms n = option_and_then as_void (slice_get atoms n)
