-- Class invariants (ECMA-367, 8.9.16).
use Rattle.std.specs.Prelude.{◌≡◌, true, List, Some, All}
use Rattle.sc_formula.specs.declared.atom.Atom.{Atom}
use Rattle.sc_formula.specs.Formula.{PlainFormula, truth_of}

-- The clause is true. One that is false, or has no truth, doesn't hold.
abbrev pub Holds : List Atom → PlainFormula → Type 0
Holds atoms clause = truth_of clause atoms ≡ Some true

-- The object meets its class invariant: each clause holds.
abbrev pub Meets : List PlainFormula → List Atom → Type 0
Meets clauses atoms = All (Holds atoms) clauses
