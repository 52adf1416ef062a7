-- The position of an expression, and those of its parts.
use Rattle.std.specs.Prelude.{Bool, true, false}
use Rattle.sc_tree.specs.declared.expression.UnaryOperator.{UnaryOperator}
use Rattle.sc_tree.specs.declared.expression.UnaryOperator.TheVariants as unary
use Rattle.sc_tree.specs.declared.expression.BinaryOperator.{BinaryOperator}
use Rattle.sc_tree.specs.declared.expression.BinaryOperator.TheVariants as binary
use Rattle.sc_tree.specs.Plain.{Expr, Binary, ObjectTest}
pub use Rattle.sc_tree.specs.Properties.{span_of, is_old, is_and_then, is_equality}
use Rattle.sc_rules.specs.declared.position.Context.{Context}
use Rattle.sc_rules.specs.declared.position.Context.TheVariants as context
use Rattle.sc_rules.specs.declared.position.Position.{Position}
use Rattle.sc_rules.specs.declared.position.Position.TheVariants as position

abbrev pub is_condition : Position → Bool
is_condition position.Condition = true
is_condition position.Plain = false
is_condition position.Source = false

abbrev pub takes_void : Position → Bool
takes_void position.Source = true
takes_void position.Plain = false
takes_void position.Condition = false

-- Contracts, `check` and `old` call pure functions alone.
abbrev pub wants_pure : Context → Bool
wants_pure context.Require = true
wants_pure context.Ensure = true
wants_pure context.Check = true
wants_pure context.Old = true
wants_pure context.Body = false
wants_pure context.Invariant = false

abbrev pub is_require : Context → Bool
is_require context.Require = true
is_require _ = false

abbrev pub is_ensure : Context → Bool
is_ensure context.Ensure = true
is_ensure _ = false

-- the context of the operand of `old`: in a precondition it stays that, whose rule on separate calls has no
-- exception
abbrev pub below_old : Context → Context
below_old context.Require = context.Require
below_old _ = context.Old

-- the context of the operand of a unary operator
abbrev pub operand_context : UnaryOperator → Context → Context
operand_context unary.Old c = below_old c
operand_context unary.Not c = c
operand_context unary.Plus c = c
operand_context unary.Minus c = c

-- the position of the operands of a binary operator
abbrev pub operand_position : BinaryOperator → Position
operand_position binary.Equal = position.Source
operand_position binary.NotEqual = position.Source
operand_position _ = position.Plain

-- the `and then` of a condition, whose right operand knows the names of the object tests in its left one
abbrev pub shares_names : Position → BinaryOperator → Bool
shares_names position.Condition op = is_and_then op
shares_names position.Plain op = false
shares_names position.Source op = false

-- The condition may give names: it is an object test, or an `and then`.
abbrev pub may_give : Expr → Bool
may_give (ObjectTest s t e n) = true
may_give (Binary s op a b) = is_and_then op
may_give _ = false
