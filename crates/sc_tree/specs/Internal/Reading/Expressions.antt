-- Reading expressions.
use Rattle.std.specs.Prelude.{ℕ, ℤ, zero, suc, max, nat_le, true, false, if◌then◌else◌, List, length, Option, Some, None, Ok, Err}
use Rattle.sc_text.specs.Kind.{Kind}
use Rattle.sc_text.specs.declared.token.Terminal.TheVariants as terminal
use Rattle.sc_tree.specs.declared.expression.UnaryOperator.{UnaryOperator}
use Rattle.sc_tree.specs.declared.expression.BinaryOperator.{BinaryOperator}
use Rattle.sc_tree.specs.Plain as plain
use Rattle.sc_tree.specs.Plain.{Expr, Integer, Boolean, Void, Current, Call, Unary, Binary, ObjectTest, Target, no_target, target, Exprs, no_exprs, expr_then}
use Rattle.sc_tree.specs.Bare.{nowhere}
use Rattle.sc_tree.specs.Grammar.{top, groups}
use Rattle.sc_tree.specs.Internal.Reading.Looks.{Deep, Read, ◌>>=◌, past, sees, expect, name, integer_ahead, prefix_ahead, operator_ahead, past_operator}
use Rattle.sc_tree.specs.Internal.Reading.Types.{tested_type}

abbrev pub exprs_push : Exprs → Expr → Exprs
exprs_push no_exprs t = expr_then t no_exprs
exprs_push (expr_then u es) t = expr_then u (exprs_push es t)

-- The function reads what stands one deeper, of a class.
module _ (inner : ℕ → List Kind → Read Expr) where
  -- what stands in parentheses, after the first of them
  unfoldable pub parenthesized : List Kind → Read Expr
  parenthesized ts = do
    (t, h, r) ← inner top ts
    r ← expect terminal.CloseParenthesis r
    Ok (t, suc h, r)

  -- expressions after commas, after those that were found
  unfoldable pub more_exprs : ℕ → Exprs → ℕ → List Kind → Read Exprs
  more_exprs zero found high ts = Ok (found, high, ts)
  more_exprs (suc f) found high ts =
      if sees terminal.Comma ts
      then (do
        (t, h, r) ← inner top (past ts)
        more_exprs f (exprs_push found t) (max high h) r)
      else Ok (found, high, ts)

  unfoldable pub exprs : List Kind → Read Exprs
  exprs ts = do
    (t, h, r) ← inner top ts
    more_exprs (length r) (expr_then t no_exprs) h r

  unfoldable pub actuals : List Kind → Read Exprs
  actuals ts =
      if sees terminal.OpenParenthesis ts
      then (do
        (es, h, r) ← exprs (past ts)
        r ← expect terminal.CloseParenthesis r
        Ok (es, suc h, r))
      else Ok (no_exprs, 0, ts)

  -- a feature's name and its actuals
  unfoldable pub calling : Target → List Kind → Read Expr
  calling t ts = do
    (x, r) ← name ts
    (es, h, r) ← actuals r
    Ok (Call nowhere t x es, h, r)

  -- what stands before the first dot
  unfoldable pub chain_head : List Kind → Read Expr
  chain_head ts =
      if sees terminal.Current ts then Ok (Current nowhere, 0, past ts)
      else if sees terminal.Result ts then Ok (plain.Result nowhere, 0, past ts)
      else calling no_target ts

  -- goes on with a call for each dot, where there is room for it
  unfoldable pub calls : ℕ → ℕ → Expr → ℕ → List Kind → Read Expr
  calls room zero t h ts = Ok (t, h, ts)
  calls room (suc f) t h ts =
      if sees terminal.Dot ts
      then (if nat_le room h
      then Err Deep
      else (do
        (u, g, r) ← calling (target t) (past ts)
        calls room f u (max (suc h) g) r))
      else Ok (t, h, ts)

  unfoldable pub chain : ℕ → List Kind → Read Expr
  chain room ts = do
    (t, h, r) ← chain_head ts
    calls room (length r) t h r

  -- after `attached`
  unfoldable pub object_test : ℕ → List Kind → Read Expr
  object_test room ts = do
    (type, r) ← tested_type ts
    (t, h, r) ← chain room r
    r ← expect terminal.As r
    (x, r) ← name r
    Ok (ObjectTest nowhere type t x, h, r)

  abbrev pub integer_or_chain : ℕ → Option ℤ → List Kind → Read Expr
  integer_or_chain room (Some n) ts = Ok (Integer nowhere n, 0, past ts)
  integer_or_chain room None ts = chain room ts

  unfoldable pub primary : ℕ → List Kind → Read Expr
  primary room ts =
      if sees terminal.True ts then Ok (Boolean nowhere true, 0, past ts)
      else if sees terminal.False ts then Ok (Boolean nowhere false, 0, past ts)
      else if sees terminal.Void ts then Ok (Void nowhere, 0, past ts)
      else if sees terminal.OpenParenthesis ts then parenthesized (past ts)
      else if sees terminal.Attached ts then object_test room (past ts)
      else integer_or_chain room (integer_ahead ts) ts

  -- the operand of this operator, after it
  unfoldable pub prefixed : UnaryOperator → List Kind → Read Expr
  prefixed op ts = do
    (t, h, r) ← inner 0 ts
    Ok (Unary nowhere op t, suc h, r)

  abbrev pub operand_by : ℕ → Option UnaryOperator → List Kind → Read Expr
  operand_by room None ts = primary room ts
  operand_by room (Some op) ts = prefixed op (past ts)

  unfoldable pub operand : ℕ → List Kind → Read Expr
  operand room ts = operand_by room (prefix_ahead ts) ts

  -- goes on with the operators just above the class, where there is room for them
  abbrev pub with_operator :
      ℕ → ℕ → (Expr → ℕ → List Kind → Read Expr) → Expr → ℕ → List Kind → Option BinaryOperator → Read Expr
  with_operator room k next t h ts None = Ok (t, h, ts)
  with_operator room k next t h ts (Some op) =
      if nat_le room h
      then Err Deep
      else (do
        (u, g, r) ← inner k (past_operator op ts)
        if groups k
            then next (Binary nowhere op t u) (suc (max h g)) r
            else Ok (Binary nowhere op t u, suc (max h g), r))

  unfoldable pub operators : ℕ → ℕ → ℕ → Expr → ℕ → List Kind → Read Expr
  operators room k zero t h ts = Ok (t, h, ts)
  operators room k (suc f) t h ts = with_operator room k (operators room k f) t h ts (operator_ahead k ts)

  unfoldable pub level : ℕ → ℕ → List Kind → Read Expr
  level room zero ts = operand room ts
  level room (suc k) ts = do
    (t, h, r) ← level room k ts
    operators room k (length r) t h r

-- At the limit nothing may stand one deeper.
abbrev pub beyond : ℕ → List Kind → Read Expr
beyond k ts = Err Deep

-- an expression of this class whose nesting is at most the first number, from the beginning of the tokens
unfoldable pub expr : ℕ → ℕ → List Kind → Read Expr
expr zero = level beyond zero
expr (suc n) = level (expr n) (suc n)

-- the same, where its tokens are nested one deeper
unfoldable pub nested : ℕ → ℕ → List Kind → Read Expr
nested zero = beyond
nested (suc n) = expr n
