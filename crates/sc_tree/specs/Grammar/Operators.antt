-- Operators, what they are spelled by and how they bind (ECMA-367, 8.28).
use Rattle.std.specs.Prelude.{ℕ, ◌==◌, Bool, true, false, if◌then◌else◌, List, [], ◌∷◌, map}
use Rattle.sc_text.specs.Kind.{Kind, TERMINAL}
use Rattle.sc_text.specs.declared.token.Terminal.{Terminal}
use Rattle.sc_text.specs.declared.token.Terminal.TheVariants as terminal
use Rattle.sc_tree.specs.declared.expression.UnaryOperator.{UnaryOperator}
use Rattle.sc_tree.specs.declared.expression.UnaryOperator.TheVariants as unary
use Rattle.sc_tree.specs.declared.expression.BinaryOperator.{BinaryOperator}
use Rattle.sc_tree.specs.declared.expression.BinaryOperator.TheVariants as binary

-- Operators of one class bind equally, and a lower class binds tighter. Class 0 is of the expressions with
-- no operator between two operands. This is the class below an operator's own.
abbrev pub class_below : BinaryOperator → ℕ
class_below binary.Times = 0
class_below binary.Quotient = 0
class_below binary.Remainder = 0
class_below binary.Plus = 1
class_below binary.Minus = 1
class_below binary.Equal = 2
class_below binary.NotEqual = 2
class_below binary.Less = 2
class_below binary.Greater = 2
class_below binary.LessEqual = 2
class_below binary.GreaterEqual = 2
class_below binary.And = 3
class_below binary.AndThen = 3
class_below binary.Or = 4
class_below binary.OrElse = 4
class_below binary.Xor = 4
class_below binary.Implies = 5

-- the class of a whole expression
abbrev pub top : ℕ
top = 6

-- whether the operators above this class group to the left; relations don't group
abbrev pub groups : ℕ → Bool
groups class = if class == 2 then false else true

-- what an operator is spelled by
abbrev pub terminals_of : BinaryOperator → List Terminal
terminals_of binary.Times = terminal.Times ∷ []
terminals_of binary.Quotient = terminal.Quotient ∷ []
terminals_of binary.Remainder = terminal.Remainder ∷ []
terminals_of binary.Plus = terminal.Plus ∷ []
terminals_of binary.Minus = terminal.Minus ∷ []
terminals_of binary.Equal = terminal.Equal ∷ []
terminals_of binary.NotEqual = terminal.NotEqual ∷ []
terminals_of binary.Less = terminal.Less ∷ []
terminals_of binary.Greater = terminal.Greater ∷ []
terminals_of binary.LessEqual = terminal.LessEqual ∷ []
terminals_of binary.GreaterEqual = terminal.GreaterEqual ∷ []
terminals_of binary.And = terminal.And ∷ []
terminals_of binary.AndThen = terminal.And ∷ terminal.Then ∷ []
terminals_of binary.Or = terminal.Or ∷ []
terminals_of binary.OrElse = terminal.Or ∷ terminal.Else ∷ []
terminals_of binary.Xor = terminal.Xor ∷ []
terminals_of binary.Implies = terminal.Implies ∷ []

abbrev pub prefix_of : UnaryOperator → Terminal
prefix_of unary.Not = terminal.Not
prefix_of unary.Old = terminal.Old
prefix_of unary.Plus = terminal.Plus
prefix_of unary.Minus = terminal.Minus

-- the tokens that are an operator
abbrev pub spelling : BinaryOperator → List Kind
spelling op = map TERMINAL (terminals_of op)
