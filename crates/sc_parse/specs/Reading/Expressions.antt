-- Reading expressions.
use Rattle.std.specs.Prelude.{ℕ, ℤ, zero, suc, max, nat_le, true, false, if◌then◌else◌, Option, Some, None, Ok, Err}
use Rattle.sc_text.specs.declared.token.Span.{Span}
use Rattle.sc_text.specs.declared.token.Terminal.TheVariants as terminal
use Rattle.sc_tree.specs.declared.expression.UnaryOperator.{UnaryOperator}
use Rattle.sc_tree.specs.declared.expression.BinaryOperator.{BinaryOperator}
use Rattle.sc_tree.specs.Plain as plain
use Rattle.sc_tree.specs.Plain.{Expr, Integer, Boolean, Void, Current, Call, Unary, Binary, ObjectTest, Target, no_target, target, Exprs, no_exprs, expr_then}
use Rattle.sc_tree.specs.Internal.Reading.Expressions.{exprs_push}
use Rattle.sc_tree.specs.Grammar.Operators.{top, groups}
use Rattle.sc_tree.specs.Internal.Reading.Looks.{Deep, ◌>>=◌}
use Rattle.sc_tree.specs.Properties.{span_of}
use Rattle.sc_parse.specs.Reading.Looks.{Ahead, Read, past, sees, expect, name, integer_ahead, prefix_ahead, operator_ahead, past_operator, begin, up_to, left}
use Rattle.sc_parse.specs.Reading.Types.{tested_type}

-- from the beginning of one expression to the end of another
abbrev pub across : Expr → Expr → Span
across a b = record { start = (span_of a).start; end = (span_of b).end }

-- The function reads what stands one deeper, of a class.
module _ (inner : ℕ → Ahead → Read Expr) where
  -- what stands in parentheses, after the first of them
  unfoldable pub parenthesized : Ahead → Read Expr
  parenthesized r = do
    x ← inner top r
    rest ← expect terminal.CloseParenthesis x.2
    Ok (x.0, suc x.1, rest)

  -- expressions after commas, after those that were found
  unfoldable pub more_exprs : ℕ → Exprs → ℕ → Ahead → Read Exprs
  more_exprs zero found high ts = Ok (found, high, ts)
  more_exprs (suc f) found high ts =
      if sees terminal.Comma ts
      then (do
        x ← inner top (past ts)
        more_exprs f (exprs_push found x.0) (max high x.1) x.2)
      else Ok (found, high, ts)

  unfoldable pub exprs : Ahead → Read Exprs
  exprs ts = do
    x ← inner top ts
    more_exprs (left x.2) (expr_then x.0 no_exprs) x.1 x.2

  unfoldable pub actuals : Ahead → Read Exprs
  actuals ts =
      if sees terminal.OpenParenthesis ts
      then (do
        x ← exprs (past ts)
        rest ← expect terminal.CloseParenthesis x.2
        Ok (x.0, suc x.1, rest))
      else Ok (no_exprs, 0, ts)

  -- a feature's name and its actuals, in a call that begins at the place
  unfoldable pub calling : ℕ → Target → Ahead → Read Expr
  calling start t ts = do
    x ← name ts
    es ← actuals x.1
    Ok (Call (up_to start es.2) t x.0 es.0, es.1, es.2)

  -- what stands before the first dot
  unfoldable pub chain_head : Ahead → Read Expr
  chain_head ts =
      if sees terminal.Current ts then Ok (Current (past ts).last, 0, past ts)
      else if sees terminal.Result ts then Ok (plain.Result (past ts).last, 0, past ts)
      else calling (begin ts) no_target ts

  -- goes on with a call for each dot, where there is room for it
  unfoldable pub calls : ℕ → ℕ → Expr → ℕ → Ahead → Read Expr
  calls room zero t h ts = Ok (t, h, ts)
  calls room (suc f) t h ts =
      if sees terminal.Dot ts
      then (if nat_le room h
      then Err Deep
      else (do
        x ← calling (span_of t).start (target t) (past ts)
        calls room f x.0 (max (suc h) x.1) x.2))
      else Ok (t, h, ts)

  unfoldable pub chain : ℕ → Ahead → Read Expr
  chain room ts = do
    x ← chain_head ts
    calls room (left x.2) x.0 x.1 x.2

  -- after `attached`
  unfoldable pub object_test : ℕ → Ahead → Read Expr
  object_test room r = do
    o ← tested_type r
    t ← chain room o.1
    s ← expect terminal.As t.2
    x ← name s
    Ok (ObjectTest (up_to r.last.start x.1) o.0 t.0 x.0, t.1, x.1)

  abbrev pub integer_or_chain : ℕ → Option ℤ → Ahead → Read Expr
  integer_or_chain room (Some n) ts = Ok (Integer (past ts).last n, 0, past ts)
  integer_or_chain room None ts = chain room ts

  unfoldable pub primary : ℕ → Ahead → Read Expr
  primary room ts =
      if sees terminal.True ts then Ok (Boolean (past ts).last true, 0, past ts)
      else if sees terminal.False ts then Ok (Boolean (past ts).last false, 0, past ts)
      else if sees terminal.Void ts then Ok (Void (past ts).last, 0, past ts)
      else if sees terminal.OpenParenthesis ts then parenthesized (past ts)
      else if sees terminal.Attached ts then object_test room (past ts)
      else integer_or_chain room (integer_ahead ts) ts

  -- the operand of this operator, after it
  unfoldable pub prefixed : UnaryOperator → Ahead → Read Expr
  prefixed op r = do
    x ← inner 0 r
    Ok (Unary (record { start = r.last.start; end = (span_of x.0).end }) op x.0, suc x.1, x.2)

  abbrev pub operand_by : ℕ → Option UnaryOperator → Ahead → Read Expr
  operand_by room None ts = primary room ts
  operand_by room (Some op) ts = prefixed op (past ts)

  unfoldable pub operand : ℕ → Ahead → Read Expr
  operand room ts = operand_by room (prefix_ahead ts) ts

  -- goes on with the operators just above the class, where there is room for them
  abbrev pub with_operator : ℕ → ℕ → (Expr → ℕ → Ahead → Read Expr) → Expr → ℕ → Ahead →
      Option BinaryOperator → Read Expr
  with_operator room k next t h ts None = Ok (t, h, ts)
  with_operator room k next t h ts (Some op) =
      if nat_le room h
      then Err Deep
      else (do
        x ← inner k (past_operator op ts)
        if groups k then next (Binary (across t x.0) op t x.0) (suc (max h x.1)) x.2
            else Ok (Binary (across t x.0) op t x.0, suc (max h x.1), x.2))

  unfoldable pub operators : ℕ → ℕ → ℕ → Expr → ℕ → Ahead → Read Expr
  operators room k zero t h ts = Ok (t, h, ts)
  operators room k (suc f) t h ts = with_operator room k (operators room k f) t h ts (operator_ahead k ts)

  unfoldable pub level : ℕ → ℕ → Ahead → Read Expr
  level room zero ts = operand room ts
  level room (suc k) ts = do
    x ← level room k ts
    operators room k (left x.2) x.0 x.1 x.2

-- At the limit nothing may stand one deeper.
abbrev pub beyond : ℕ → Ahead → Read Expr
beyond k ts = Err Deep

-- an expression of this class whose nesting is at most the first number, from the beginning of the tokens
unfoldable pub expr : ℕ → ℕ → Ahead → Read Expr
expr zero = level beyond zero
expr (suc n) = level (expr n) (suc n)

-- the same, where its tokens are nested one deeper
unfoldable pub nested : ℕ → ℕ → Ahead → Read Expr
nested zero = beyond
nested (suc n) = expr n
