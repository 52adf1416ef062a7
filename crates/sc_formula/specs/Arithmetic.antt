-- The arithmetic of INTEGER: whole numbers within 64 bits with sign.
use Rattle.std.specs.Prelude.{◌≡◌, ℕ, List, codes, ℤ, pos, unsigned_abs, ◌<◌, ◌≤ℤ◌, ◌+ℤ◌, ◌-ℤ◌, ◌*ℤ◌, neg_ℤ, int_le, int_div, int_rem, ◌-◌, ◌^◌, Bool, ◌&&◌, if◌then◌else◌, Result, Ok, Err}
use Rattle.std.specs.Ordering.{int_eq}
use Rattle.sc_formula.specs.declared.arithmetic.ArithmeticFault.{ArithmeticFault}
use Rattle.sc_formula.specs.declared.arithmetic.ArithmeticFault.TheVariants.{Overflow, DivideByZero}
use Rattle.sc_formula.specs.declared.arithmetic.ArithmeticOperator.{ArithmeticOperator}
use Rattle.sc_formula.specs.declared.arithmetic.ArithmeticOperator.TheVariants.{Plus, Minus, Times, Quotient, Remainder}

-- the text of a fault
abbrev pub message_of : ArithmeticFault → List ℕ
message_of Overflow = codes "a result lies outside 64 bits"
message_of DivideByZero = codes "the divisor is zero"

-- the result of an operation on integers: an INTEGER, or a fault
abbrev pub ArithmeticResult : Type 0
ArithmeticResult = Result ℤ ArithmeticFault

-- the least INTEGER
abbrev pub least_integer : ℤ
least_integer = neg_ℤ (pos (2 ^ 63))

-- the greatest INTEGER
abbrev pub greatest_integer : ℤ
greatest_integer = pos (2 ^ 63 - 1)

-- this whole number is an INTEGER
abbrev pub is_integer : ℤ → Bool
is_integer z = int_le least_integer z && int_le z greatest_integer

-- this whole number, if it is an INTEGER
abbrev pub in_range : ℤ → ArithmeticResult
in_range z = if is_integer z then Ok z else Err Overflow

abbrev pub sum_of : ℤ → ℤ → ArithmeticResult
sum_of a b = in_range (a +ℤ b)

abbrev pub difference_of : ℤ → ℤ → ArithmeticResult
difference_of a b = in_range (a -ℤ b)

abbrev pub product_of : ℤ → ℤ → ArithmeticResult
product_of a b = in_range (a *ℤ b)

-- the quotient, rounded toward zero
abbrev pub quotient_of : ℤ → ℤ → ArithmeticResult
quotient_of a b = if int_eq b (pos 0) then Err DivideByZero else in_range (int_div a b)

-- what division leaves, with the dividend's sign
abbrev pub remainder_of : ℤ → ℤ → ArithmeticResult
remainder_of a b = if int_eq b (pos 0) then Err DivideByZero else in_range (int_rem a b)

abbrev pub opposite_of : ℤ → ArithmeticResult
opposite_of a = in_range (neg_ℤ a)

-- what the operator makes of these integers
abbrev pub result_of : ArithmeticOperator → ℤ → ℤ → ArithmeticResult
result_of Plus a b = sum_of a b
result_of Minus a b = difference_of a b
result_of Times a b = product_of a b
result_of Quotient a b = quotient_of a b
result_of Remainder a b = remainder_of a b

-- Division that rounds toward zero: its remainder is smaller than the divisor, and has the dividend's sign unless it
-- is 0.
pub record Divides (dividend divisor quotient remainder : ℤ) : Type 0 where
  pub whole : quotient *ℤ divisor +ℤ remainder ≡ dividend
  pub smaller : unsigned_abs remainder < unsigned_abs divisor
  pub not_below : pos 0 ≤ℤ dividend → pos 0 ≤ℤ remainder
  pub not_above : dividend ≤ℤ pos 0 → remainder ≤ℤ pos 0
