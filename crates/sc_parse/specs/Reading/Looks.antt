-- What is left to read, and looks at it.
use Rattle.std.specs.Prelude.{ℕ, ℤ, ◌≡◌, ◌≤◌, ◌<◌, ◌||◌, Bool, if◌then◌else◌, List, [], ◌∷◌, length, Option, None, Result, Ok, Err}
use Rattle.sc_text.specs.Kind.{Kind, NAME, STRING, kind_of, kinds_of}
use Rattle.sc_text.specs.declared.token.Span.{Span}
use Rattle.sc_text.specs.declared.token.Token.{Token}
use Rattle.sc_text.specs.declared.token.Terminal.{Terminal}
use Rattle.sc_text.specs.declared.token.Terminal.TheVariants as terminal
use Rattle.sc_tree.specs.declared.expression.UnaryOperator.{UnaryOperator}
use Rattle.sc_tree.specs.declared.expression.BinaryOperator.{BinaryOperator}
use Rattle.sc_tree.specs.Plain.{Name}
use Rattle.sc_tree.specs.Grammar.Operators.{terminals_of}
use Rattle.sc_tree.specs.Grammar.Assertions as assertions
use Rattle.sc_tree.specs.Internal.Reading.Looks as looks
use Rattle.sc_tree.specs.Internal.Reading.Looks.{Fault, Wrong}

-- the tokens that are still to be read, and where the one before them stands
pub record Ahead : Type 0 where
  pub last : Span
  pub rest : List Token

-- what was read, the greatest nesting in it, and what is left
abbrev pub Read : Type 0 → Type 0
Read A = Result (A × ℕ × Ahead) Fault

-- what was read where nothing is nested, and what is left
abbrev pub Taken : Type 0 → Type 0
Taken A = Result (A × Ahead) Fault

-- ---- places

abbrev pub begin_of : List Token → ℕ → ℕ
begin_of [] end = end
begin_of (t ∷ ts) end = t.span.start

-- where the next token begins, or the last one ends
abbrev pub begin : Ahead → ℕ
begin q = begin_of q.rest q.last.end

-- from there to the end of the last token that was read
abbrev pub up_to : ℕ → Ahead → Span
up_to start q = record { start = start; end = q.last.end }

-- ---- a look at the next token

abbrev pub kinds : Ahead → List Kind
kinds q = kinds_of q.rest

abbrev pub left : Ahead → ℕ
left q = length q.rest

abbrev pub last_past : Span → List Token → Span
last_past s [] = record { start = s.end; end = s.end }
last_past s (t ∷ r) = t.span

abbrev pub rest_past : List Token → List Token
rest_past [] = []
rest_past (t ∷ r) = r

-- what is left after the next token
abbrev pub past : Ahead → Ahead
past q = record { last = last_past q.last q.rest; rest = rest_past q.rest }

-- whether the next token is this one
abbrev pub sees : Terminal → Ahead → Bool
sees m q = looks.sees m (kinds q)

unfoldable pub expect : Terminal → Ahead → Result Ahead Fault
expect m q = if sees m q then Ok (past q) else Err Wrong

-- what follows this token, if it stands here
abbrev pub skip : Terminal → Ahead → Ahead
skip m q = if sees m q then past q else q

abbrev pub past_semicolons : Span → List Token → Ahead
past_semicolons s [] = record { last = s; rest = [] }
past_semicolons s (t ∷ r) =
    if looks.is_terminal terminal.Semicolon (kind_of t.kind) then past_semicolons t.span r
    else record { last = s; rest = t ∷ r }

-- what follows the semicolons that stand here
abbrev pub skip_semicolons : Ahead → Ahead
skip_semicolons q = past_semicolons q.last q.rest

abbrev pub name_by : Kind → Span → List Token → Taken Name
name_by (NAME x) s r = Ok (record { text = x; span = s }, record { last = s; rest = r })
name_by _ s r = Err Wrong

abbrev pub name_of : List Token → Taken Name
name_of [] = Err Wrong
name_of (t ∷ r) = name_by (kind_of t.kind) t.span r

-- the name that is the next token
abbrev pub name : Ahead → Taken Name
name q = name_of q.rest

abbrev pub name_ahead : Ahead → Bool
name_ahead q = looks.name_ahead (kinds q)

abbrev pub sees_word : List ℕ → Ahead → Bool
sees_word w q = looks.sees_word w (kinds q)

unfoldable pub expect_word : List ℕ → Ahead → Result Ahead Fault
expect_word w q = if sees_word w q then Ok (past q) else Err Wrong

abbrev pub integer_ahead : Ahead → Option ℤ
integer_ahead q = looks.integer_ahead (kinds q)

abbrev pub text_by : Kind → Span → List Token → Taken (List ℕ)
text_by (STRING x) s r = Ok (x, record { last = s; rest = r })
text_by _ s r = Err Wrong

abbrev pub text_of : List Token → Taken (List ℕ)
text_of [] = Err Wrong
text_of (t ∷ r) = text_by (kind_of t.kind) t.span r

-- the string that is the next token
abbrev pub text : Ahead → Taken (List ℕ)
text q = text_of q.rest

abbrev pub text_ahead : Ahead → Bool
text_ahead q = looks.text_ahead (kinds q)

-- ---- operators ahead

abbrev pub prefix_ahead : Ahead → Option UnaryOperator
prefix_ahead q = looks.prefix_ahead (kinds q)

abbrev pub operator_at : Ahead → Option BinaryOperator
operator_at q = looks.operator_at (kinds q)

abbrev pub operator_ahead : ℕ → Ahead → Option BinaryOperator
operator_ahead k q = looks.operator_ahead k (kinds q)

-- No operator stands here that is just above a class from the first on and below the second.
abbrev pub IsFree : ℕ → ℕ → Ahead → Type 0
IsFree least class q = (k : ℕ) → least ≤ k → k < class → operator_ahead k q ≡ None

abbrev pub past_all : List Terminal → Ahead → Ahead
past_all [] q = q
past_all (m ∷ ms) q = past_all ms (past q)

-- what follows the operator that stands here
abbrev pub past_operator : BinaryOperator → Ahead → Ahead
past_operator op q = past_all (terminals_of op) q

-- ---- what may begin here

abbrev pub begins_expr : Ahead → Bool
begins_expr q = looks.begins_expr (kinds q)

abbrev pub begins_instr : Ahead → Bool
begins_instr q = looks.begins_instr (kinds q)

abbrev pub goes_on : Ahead → Bool
goes_on q = assertions.goes_on (kinds q)

-- whether a note begins here
abbrev pub sees_note : Ahead → Bool
sees_note q = sees terminal.Note q || sees terminal.Indexing q
