-- Formulas: truth values made from the attributes of one object (ECMA-367, 8.9: class invariants).
use Rattle.std.specs.Prelude.{ℕ, Bool, not, List, Option, Some}
use Rattle.std.specs.Option.{option_map}
use Rattle.sc_formula.specs.declared.atom.Atom.{Atom}
use Rattle.sc_formula.specs.declared.comparison.Comparison.{Comparison}
use Rattle.sc_formula.specs.declared.connective.Connective.{Connective}
use Rattle.sc_formula.specs.Atom.{boolean_at, void_at}
use Rattle.sc_formula.specs.Comparison.{compares}
use Rattle.sc_formula.specs.Connective.{connection_of}
use Rattle.sc_formula.specs.Term.{PlainTerm, value_of, with_both}

-- a formula as a plain tree
pub data PlainFormula : Type 0 where
  Constant : (value : Bool) → PlainFormula
  Attribute : (number : ℕ) → PlainFormula
  IsVoid : (number : ℕ) → PlainFormula
  NotVoid : (number : ℕ) → PlainFormula
  Not : (operand : PlainFormula) → PlainFormula
  Compared : (left : PlainTerm) (comparison : Comparison) (right : PlainTerm) → PlainFormula
  Connected : (left : PlainFormula) (connective : Connective) (right : PlainFormula) → PlainFormula

-- The truth of a formula, if it has one: no part that is evaluated overflows or divides by zero.
abbrev pub truth_of : PlainFormula → List Atom → Option Bool
truth_of (Constant b) atoms = Some b
truth_of (Attribute n) atoms = boolean_at atoms n
truth_of (IsVoid n) atoms = void_at atoms n
truth_of (NotVoid n) atoms = option_map not (void_at atoms n)
truth_of (Not f) atoms = option_map not (truth_of f atoms)
truth_of (Compared l c r) atoms = with_both (λ a b. Some (compares c a b)) (value_of l atoms) (value_of r atoms)
truth_of (Connected l c r) atoms = connection_of c (truth_of l atoms) (truth_of r atoms)
