-- The `old` expressions of a postcondition (ECMA-367, 8.9), in the order of the text.
use Rattle.std.specs.Prelude.{ℕ, List, [], ◌∷◌, ◌++◌, length}
use Rattle.std.specs.List.{flat_map}
use Rattle.sc_tree.specs.declared.expression.UnaryOperator.TheVariants as unary
use Rattle.sc_tree.specs.Plain.{Clause, Expr, Unary, Binary, ObjectTest, Call, no_target, target, Exprs, no_exprs, expr_then}

-- the operands of `old` in an expression
abbrev mutual
  pub olds_of : Expr → List Expr
  olds_of (Unary s unary.Old a) = a ∷ []
  olds_of (Unary s op a) = olds_of a
  olds_of (Binary s op a b) = olds_of a ++ olds_of b
  olds_of (ObjectTest s d a x) = olds_of a
  olds_of (Call s no_target x es) = olds_of_each es
  olds_of (Call s (target a) x es) = olds_of a ++ olds_of_each es
  olds_of e = []

  pub olds_of_each : Exprs → List Expr
  olds_of_each no_exprs = []
  olds_of_each (expr_then e es) = olds_of e ++ olds_of_each es

-- how many there are
abbrev pub olds_in : Expr → ℕ
olds_in e = length (olds_of e)

abbrev pub olds_of_clauses : List Clause → List Expr
olds_of_clauses ks = flat_map (λ (k : Clause). olds_of k.condition) ks
