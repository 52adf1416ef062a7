-- What an entity holds at first, and what an invariant sees of a value.
use Rattle.std.specs.Prelude.{pos, true, false, List, map}
use Rattle.sc_formula.specs.declared.atom.Atom.{Atom}
use Rattle.sc_formula.specs.declared.atom.Atom.TheVariants as atom
use Rattle.sc_code.specs.declared.operation.DefaultValue.{DefaultValue}
use Rattle.sc_code.specs.declared.operation.DefaultValue.TheVariants as default
use Rattle.sc_region.specs.declared.value.Value.{Value}
use Rattle.sc_region.specs.declared.value.Value.TheVariants.{Integer, Boolean, Void, Attached}

abbrev pub default_value : DefaultValue → Value
default_value default.Zero = Integer (pos 0)
default_value default.False = Boolean false
default_value default.Void = Void

abbrev pub atom_of : Value → Atom
atom_of (Integer z) = atom.Integer z
atom_of (Boolean b) = atom.Boolean b
atom_of Void = atom.Reference true
atom_of (Attached r) = atom.Reference false

abbrev pub atoms_of : List Value → List Atom
atoms_of attributes = map atom_of attributes
