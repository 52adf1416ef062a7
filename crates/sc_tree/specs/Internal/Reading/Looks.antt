-- Looks at the next tokens.
use Rattle.std.specs.Prelude.{ℕ, ℤ, ◌==◌, Bool, true, false, if◌then◌else◌, List, [], ◌∷◌, Option, Some, None, Result, Ok, Err}
use Rattle.std.specs.Str.{bytes_eq}
use denote.Enum.Bare.{sameb}
use Rattle.sc_text.specs.contracts.token.Terminal.{the_type}
use Rattle.sc_text.specs.Kind.{Kind, NAME, INTEGER, STRING, TERMINAL}
use Rattle.sc_text.specs.declared.token.Terminal.{Terminal}
use Rattle.sc_text.specs.declared.token.Terminal.TheVariants as terminal
use Rattle.sc_tree.specs.declared.expression.UnaryOperator.{UnaryOperator}
use Rattle.sc_tree.specs.declared.expression.UnaryOperator.TheVariants as unary
use Rattle.sc_tree.specs.declared.expression.BinaryOperator.{BinaryOperator}
use Rattle.sc_tree.specs.declared.expression.BinaryOperator.TheVariants as binary
use Rattle.sc_tree.specs.Plain.{Name}
use Rattle.sc_tree.specs.Bare.{named}
use Rattle.sc_tree.specs.Grammar.{class_below, terminals_of}

-- why nothing was read: no tree is spelled so, or none that is nested as little as asked
pub data Fault : Type 0 where
  Wrong : Fault
  Deep : Fault

-- what was read, the greatest nesting in it, and what is left
abbrev pub Read : Type 0 → Type 0
Read A = Result (A × ℕ × List Kind) Fault

-- what was read where nothing is nested, and what is left
abbrev pub Taken : Type 0 → Type 0
Taken A = Result (A × List Kind) Fault

infixl 10 ◌>>=◌
abbrev pub ◌>>=◌ : {A B : Type 0} → Result A Fault → (A → Result B Fault) → Result B Fault
(Ok x) >>= f = f x
(Err e) >>= f = Err e

-- ---- a look at the next token

-- the tokens after the next
abbrev pub past : List Kind → List Kind
past [] = []
past (t ∷ r) = r

unfoldable pub same_terminal : Terminal → Terminal → Bool
same_terminal = sameb the_type

abbrev pub is_terminal : Terminal → Kind → Bool
is_terminal m (TERMINAL o) = same_terminal o m
is_terminal m _ = false

-- whether the next token is this one
abbrev pub sees : Terminal → List Kind → Bool
sees m [] = false
sees m (t ∷ r) = is_terminal m t

unfoldable pub expect : Terminal → List Kind → Result (List Kind) Fault
expect m ts = if sees m ts then Ok (past ts) else Err Wrong

-- what follows this token, if it stands here
abbrev pub skip : Terminal → List Kind → List Kind
skip m ts = if sees m ts then past ts else ts

-- what follows the semicolons that stand here
abbrev pub skip_semicolons : List Kind → List Kind
skip_semicolons [] = []
skip_semicolons (t ∷ r) = if is_terminal terminal.Semicolon t then skip_semicolons r else t ∷ r

abbrev pub name_by : Kind → List Kind → Taken Name
name_by (NAME x) r = Ok (named x, r)
name_by _ r = Err Wrong

abbrev pub name : List Kind → Taken Name
name [] = Err Wrong
name (t ∷ r) = name_by t r

abbrev pub is_name : Kind → Bool
is_name (NAME x) = true
is_name _ = false

abbrev pub name_ahead : List Kind → Bool
name_ahead [] = false
name_ahead (t ∷ r) = is_name t

abbrev pub is_word : List ℕ → Kind → Bool
is_word w (NAME x) = bytes_eq x w
is_word w _ = false

-- whether the next token is the name that is spelled so
abbrev pub sees_word : List ℕ → List Kind → Bool
sees_word w [] = false
sees_word w (t ∷ r) = is_word w t

unfoldable pub expect_word : List ℕ → List Kind → Result (List Kind) Fault
expect_word w ts = if sees_word w ts then Ok (past ts) else Err Wrong

abbrev pub integer_by : Kind → Option ℤ
integer_by (INTEGER n) = Some n
integer_by _ = None

-- the integer that is the next token
abbrev pub integer_ahead : List Kind → Option ℤ
integer_ahead [] = None
integer_ahead (t ∷ r) = integer_by t

abbrev pub text_by : Kind → List Kind → Taken (List ℕ)
text_by (STRING s) r = Ok (s, r)
text_by _ r = Err Wrong

-- the string that is the next token
abbrev pub text : List Kind → Taken (List ℕ)
text [] = Err Wrong
text (t ∷ r) = text_by t r

abbrev pub is_text : Kind → Bool
is_text (STRING s) = true
is_text _ = false

abbrev pub text_ahead : List Kind → Bool
text_ahead [] = false
text_ahead (t ∷ r) = is_text t

-- ---- operators ahead

abbrev pub prefix_by : Terminal → Option UnaryOperator
prefix_by terminal.Not = Some unary.Not
prefix_by terminal.Old = Some unary.Old
prefix_by terminal.Plus = Some unary.Plus
prefix_by terminal.Minus = Some unary.Minus
prefix_by _ = None

-- the operator before an operand that the next token is
abbrev pub prefix_ahead : List Kind → Option UnaryOperator
prefix_ahead (TERMINAL m ∷ r) = prefix_by m
prefix_ahead _ = None

abbrev pub operator_by : Terminal → Option BinaryOperator
operator_by terminal.Times = Some binary.Times
operator_by terminal.Quotient = Some binary.Quotient
operator_by terminal.Remainder = Some binary.Remainder
operator_by terminal.Plus = Some binary.Plus
operator_by terminal.Minus = Some binary.Minus
operator_by terminal.Equal = Some binary.Equal
operator_by terminal.NotEqual = Some binary.NotEqual
operator_by terminal.Less = Some binary.Less
operator_by terminal.Greater = Some binary.Greater
operator_by terminal.LessEqual = Some binary.LessEqual
operator_by terminal.GreaterEqual = Some binary.GreaterEqual
operator_by terminal.And = Some binary.And
operator_by terminal.Or = Some binary.Or
operator_by terminal.Xor = Some binary.Xor
operator_by terminal.Implies = Some binary.Implies
operator_by _ = None

-- `and` and `or` with the second word that may follow them
abbrev pub completed : List Kind → BinaryOperator → BinaryOperator
completed r binary.And = if sees terminal.Then r then binary.AndThen else binary.And
completed r binary.Or = if sees terminal.Else r then binary.OrElse else binary.Or
completed r op = op

abbrev pub option_completed : List Kind → Option BinaryOperator → Option BinaryOperator
option_completed r None = None
option_completed r (Some op) = Some (completed r op)

-- the operator between two operands that the next tokens are
abbrev pub operator_at : List Kind → Option BinaryOperator
operator_at (TERMINAL m ∷ r) = option_completed r (operator_by m)
operator_at _ = None

abbrev pub above : ℕ → Option BinaryOperator → Option BinaryOperator
above k None = None
above k (Some op) = if class_below op == k then Some op else None

-- the same, if it is one just above the class
abbrev pub operator_ahead : ℕ → List Kind → Option BinaryOperator
operator_ahead k ts = above k (operator_at ts)

abbrev pub past_all : List Terminal → List Kind → List Kind
past_all [] ts = ts
past_all (m ∷ ms) ts = past_all ms (past ts)

-- the tokens after the operator that stands here
abbrev pub past_operator : BinaryOperator → List Kind → List Kind
past_operator op ts = past_all (terminals_of op) ts

-- ---- what may begin here

abbrev pub begins_expr_by : Terminal → Bool
begins_expr_by terminal.True = true
begins_expr_by terminal.False = true
begins_expr_by terminal.Void = true
begins_expr_by terminal.Current = true
begins_expr_by terminal.Result = true
begins_expr_by terminal.Attached = true
begins_expr_by terminal.OpenParenthesis = true
begins_expr_by terminal.Not = true
begins_expr_by terminal.Old = true
begins_expr_by terminal.Plus = true
begins_expr_by terminal.Minus = true
begins_expr_by _ = false

-- whether an expression begins here
abbrev pub begins_expr : List Kind → Bool
begins_expr [] = false
begins_expr (NAME x ∷ r) = true
begins_expr (INTEGER n ∷ r) = true
begins_expr (STRING s ∷ r) = false
begins_expr (TERMINAL m ∷ r) = begins_expr_by m

-- whether an instruction begins here
abbrev pub begins_instr_by : Terminal → Bool
begins_instr_by terminal.Result = true
begins_instr_by terminal.Current = true
begins_instr_by terminal.Create = true
begins_instr_by terminal.If = true
begins_instr_by terminal.From = true
begins_instr_by terminal.Check = true
begins_instr_by terminal.Separate = true
begins_instr_by _ = false

abbrev pub begins_instr : List Kind → Bool
begins_instr (NAME x ∷ r) = true
begins_instr (TERMINAL m ∷ r) = begins_instr_by m
begins_instr _ = false
