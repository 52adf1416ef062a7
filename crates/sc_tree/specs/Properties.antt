-- What is asked of names, operators and expressions.
use Rattle.std.specs.Prelude.{ℕ, Bool, true, false, List}
use Rattle.std.specs.Str.{bytes_eq}
use Rattle.sc_text.specs.declared.token.Span.{Span}
use Rattle.sc_tree.specs.declared.expression.UnaryOperator.{UnaryOperator}
use Rattle.sc_tree.specs.declared.expression.UnaryOperator.TheVariants as unary
use Rattle.sc_tree.specs.declared.expression.BinaryOperator.{BinaryOperator}
use Rattle.sc_tree.specs.declared.expression.BinaryOperator.TheVariants as binary
use Rattle.sc_tree.specs.Plain as plain
use Rattle.sc_tree.specs.Plain.{Expr, Integer, Boolean, Void, Current, Call, Unary, Binary, ObjectTest}
use Rattle.sc_tree.specs.Grammar.{print_name}

-- whether it is `print`, the name of the feature that every class has
abbrev pub is_print : List ℕ → Bool
is_print x = bytes_eq x print_name

abbrev pub is_old : UnaryOperator → Bool
is_old unary.Old = true
is_old _ = false

abbrev pub is_and_then : BinaryOperator → Bool
is_and_then binary.AndThen = true
is_and_then _ = false

-- whether the operator is `=` or `/=`
abbrev pub is_equality : BinaryOperator → Bool
is_equality binary.Equal = true
is_equality binary.NotEqual = true
is_equality _ = false

-- the place of the text of an expression
abbrev pub span_of : Expr → Span
span_of (Integer s n) = s
span_of (Boolean s b) = s
span_of (Void s) = s
span_of (Current s) = s
span_of (plain.Result s) = s
span_of (Call s t n es) = s
span_of (Unary s op a) = s
span_of (Binary s op a b) = s
span_of (ObjectTest s t a n) = s
