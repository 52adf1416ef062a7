-- Comparisons of integers.
use Rattle.std.specs.Prelude.{ℤ, int_lt, int_le, Bool, not}
use Rattle.std.specs.Ordering.{int_eq}
use Rattle.sc_formula.specs.declared.comparison.Comparison.{Comparison}
use Rattle.sc_formula.specs.declared.comparison.Comparison.TheVariants.{Equal, NotEqual, Less, LessOrEqual, Greater, GreaterOrEqual}

-- whether the comparison holds of these integers
abbrev pub compares : Comparison → ℤ → ℤ → Bool
compares Equal a b = int_eq a b
compares NotEqual a b = not (int_eq a b)
compares Less a b = int_lt a b
compares LessOrEqual a b = int_le a b
compares Greater a b = int_lt b a
compares GreaterOrEqual a b = int_le b a
