-- A row of what is read, with its places, by computation.
use Rattle.std.proofs.Common.{◌≡◌, ℕ, [], ◌∷◌, Ok, refl}
use Rattle.std.specs.Prelude.{pos, string_bytes}
use Rattle.std.specs.declared.string.String.{String}
use Rattle.std.specs.declared.rc.Rc.{Rc}
use Rattle.std.specs.declared.alloc.Global.{Global}
use Rattle.sc_text.specs.declared.token.Span.{Span}
use Rattle.sc_text.specs.declared.token.Token.{Token}
use Rattle.sc_text.specs.declared.token.TokenKind.TheVariants as kind
use Rattle.sc_text.specs.declared.token.Terminal.{Terminal}
use Rattle.sc_text.specs.declared.token.Terminal.TheVariants as terminal
use Rattle.sc_tree.specs.declared.expression.UnaryOperator.TheVariants as unary
use Rattle.sc_tree.specs.declared.expression.BinaryOperator.TheVariants as binary
use Rattle.sc_tree.specs.Plain.{Name, Expr, Integer, Call, Unary, Binary, no_target, target, no_exprs, expr_then}
use Rattle.sc_tree.specs.Internal.Reading.Looks.{same_terminal}
use Rattle.sc_parse.specs.Reading.Looks.{Ahead, expect}
use Rattle.sc_parse.specs.Reading.Types.{tested_type}
use Rattle.sc_parse.specs.Reading.Expressions.{parenthesized, more_exprs, exprs, actuals, calling, chain_head, calls, chain, primary, prefixed, operand, operators, level, expr}

abbrev from : ℕ → ℕ → Span
from start end = record { start = start; end = end }

abbrev word : Terminal → ℕ → ℕ → Token
word m start end = record { kind = kind.Terminal m; span = from start end }

abbrev identifier : Rc (String Global) Global → ℕ → ℕ → Token
identifier s start end = record { kind = kind.Name s; span = from start end }

abbrev name : Rc (String Global) Global → ℕ → ℕ → Name
name s start end = record { text = string_bytes s.value; span = from start end }

abbrev query : Rc (String Global) Global → ℕ → ℕ → Expr
query s start end = Call (from start end) no_target (name s start end) no_exprs

-- (a + b) * - c.f (1)
abbrev row : Rc (String Global) Global → Rc (String Global) Global → Rc (String Global) Global → Rc (String Global) Global → Ahead
row a b c f =
    record {
      last = from 0 0;
      rest = word terminal.OpenParenthesis 0 1 ∷ identifier a 1 2 ∷ word terminal.Plus 3 4 ∷ identifier b 5 6 ∷ word terminal.CloseParenthesis 6 7
          ∷ word terminal.Times 8 9 ∷ word terminal.Minus 10 11 ∷ identifier c 12 13 ∷ word terminal.Dot 13 14 ∷ identifier f 14 15
          ∷ word terminal.OpenParenthesis 16 17 ∷ record { kind = kind.Integer (pos 1); span = from 17 18 } ∷ word terminal.CloseParenthesis 18 19 ∷ [];
    }

row_read : (a b c f : Rc (String Global) Global) → expr 3 6 (row a b c f) ≡ Ok (
  Binary (from 1 19) binary.Times (Binary (from 1 6) binary.Plus (query a 1 2) (query b 5 6))
      (Unary (from 10 19) unary.Minus (Call (from 12 19) (target (query c 12 13)) (name f 14 15) (expr_then (Integer (from 17 18) (pos 1)) no_exprs))),
  3,
  record { last = from 18 19; rest = [] },
)
unfolding same_terminal expect tested_type parenthesized more_exprs exprs actuals calling chain_head calls chain primary prefixed operand operators level expr
row_read a b c f = refl
