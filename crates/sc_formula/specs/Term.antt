-- Terms: integers made from the attributes of one object.
use Rattle.std.specs.Prelude.{ℕ, ℤ, List, Option, Some, None}
use Rattle.std.specs.Option.{option_and_then}
use Rattle.std.specs.Result.{result_ok}
use Rattle.sc_formula.specs.declared.arithmetic.ArithmeticOperator.{ArithmeticOperator}
use Rattle.sc_formula.specs.declared.atom.Atom.{Atom}
use Rattle.sc_formula.specs.Arithmetic.{opposite_of, result_of}
use Rattle.sc_formula.specs.Atom.{integer_at}

-- a term as a plain tree
pub data PlainTerm : Type 0 where
  Integer : (value : ℤ) → PlainTerm
  Attribute : (number : ℕ) → PlainTerm
  Identity : (operand : PlainTerm) → PlainTerm
  Opposite : (operand : PlainTerm) → PlainTerm
  Arithmetic : (left : PlainTerm) (operator : ArithmeticOperator) (right : PlainTerm) → PlainTerm

-- what comes of two values, where both are there
abbrev pub with_both : {T U : Type 0} → (T → T → Option U) → Option T → Option T → Option U
with_both f None b = None
with_both f (Some a) b = option_and_then (f a) b

-- the value of a term, if it has one: no part overflows or divides by zero
abbrev pub value_of : PlainTerm → List Atom → Option ℤ
value_of (Integer z) atoms = Some z
value_of (Attribute n) atoms = integer_at atoms n
value_of (Identity t) atoms = value_of t atoms
value_of (Opposite t) atoms = option_and_then (λ z. result_ok (opposite_of z)) (value_of t atoms)
value_of (Arithmetic l op r) atoms =
    with_both (λ a b. result_ok (result_of op a b)) (value_of l atoms) (value_of r atoms)
