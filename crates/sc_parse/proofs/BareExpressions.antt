-- Expressions that are read with their places are, without them, those of the grammar's own reading.
use Rattle.std.proofs.Common.{◌≡◌, ℕ, ℤ, zero, suc, max, true, false, List, Option, Some, None, Ok, refl, ap, ◌∙◌}
use Rattle.std.specs.Prelude.{nat_le}
use Rattle.sc_text.specs.Kind.{Kind}
use Rattle.sc_text.specs.declared.token.Terminal.TheVariants as terminal
use Rattle.sc_tree.specs.declared.expression.UnaryOperator.{UnaryOperator}
use Rattle.sc_tree.specs.declared.expression.BinaryOperator.{BinaryOperator}
use Rattle.sc_tree.specs.Grammar.Operators.{top, groups}
use Rattle.sc_tree.specs.Plain as plain
use Rattle.sc_tree.specs.Plain.{Expr, Exprs, Target, no_exprs, expr_then, no_target, target, Binary}
use Rattle.sc_tree.specs.Bare.{nowhere, bare_expr, bare_target, bare_exprs}
use Rattle.sc_tree.specs.Internal.Reading.Looks as looks
use Rattle.sc_tree.specs.Internal.Reading.Looks.{Fault, Deep, ◌>>=◌}
use Rattle.sc_tree.specs.Internal.Reading.Expressions as unplaced
use Rattle.sc_tree.specs.Internal.Reading.Expressions.{exprs_push}
use Rattle.sc_tree.specs.Properties.{span_of}
use Rattle.sc_parse.specs.Reading.Looks.{Ahead, Read, begin, kinds, left, past, past_operator, sees, integer_ahead, prefix_ahead, operator_ahead}
use Rattle.sc_parse.specs.Reading.Expressions.{across, parenthesized, more_exprs, exprs, actuals, calling, chain_head, calls, chain, object_test, integer_or_chain, primary, prefixed, operand_by, operand, with_operator, operators, level, beyond, expr, nested}
use Rattle.sc_parse.proofs.BareReadings.{forget, read, forget_then, forget_if, kinds-past, kinds-past_operator, left_is, forget_expect, forget_name, forget_tested_type}

bare-pushed : (es : Exprs) (t : Expr) → bare_exprs (exprs_push es t) ≡ exprs_push (bare_exprs es) (bare_expr t)
unfolding bare_expr
bare-pushed no_exprs t = refl
bare-pushed (expr_then u es) t = ap (expr_then (bare_expr u)) (bare-pushed es t)

-- The functions read alike what stands one deeper.
module _ (inner : ℕ → Ahead → Read Expr) (plain_inner : ℕ → List Kind → looks.Read Expr) (S : (k : ℕ) (q : Ahead) → forget (read bare_expr) (inner k q) ≡ plain_inner k (kinds q)) where
  past_inner : (k : ℕ) (q : Ahead) → forget (read bare_expr) (inner k (past q)) ≡ plain_inner k (looks.past (kinds q))
  past_inner k q = S k (past q) ∙ ap (plain_inner k) (kinds-past q)

  forget_parenthesized : (q : Ahead) → forget (read bare_expr) (parenthesized inner q) ≡ unplaced.parenthesized plain_inner (kinds q)
  unfolding parenthesized unplaced.parenthesized
  forget_parenthesized q = forget_then _ _ _ _ _ (S top q) λ x. forget_then _ _ _ _ _ (forget_expect terminal.CloseParenthesis x.2) λ r. refl

  forget_more_exprs : (f : ℕ) (found : Exprs) (high : ℕ) (q : Ahead) → forget (read bare_exprs) (more_exprs inner f found high q) ≡ unplaced.more_exprs plain_inner f (bare_exprs found) high (kinds q)
  unfolding more_exprs unplaced.more_exprs
  forget_more_exprs zero found high q = refl
  forget_more_exprs (suc f) found high q =
      forget_if (forget (read bare_exprs)) (sees terminal.Comma q)
      (forget_then _ _ _ _ _ (past_inner top q) λ x.
      forget_more_exprs f (exprs_push found x.0) (max high x.1) x.2 ∙ ap (λ (es : Exprs). unplaced.more_exprs plain_inner f es (max high x.1) (kinds x.2)) (bare-pushed found x.0))
      refl

  forget_exprs : (q : Ahead) → forget (read bare_exprs) (exprs inner q) ≡ unplaced.exprs plain_inner (kinds q)
  unfolding exprs unplaced.exprs bare_expr
  forget_exprs q =
      forget_then _ _ _ _ _ (S top q) λ x.
      forget_more_exprs (left x.2) (expr_then x.0 no_exprs) x.1 x.2 ∙ ap (λ (f : ℕ). unplaced.more_exprs plain_inner f (expr_then (bare_expr x.0) no_exprs) x.1 (kinds x.2)) (left_is x.2)

  pub forget_actuals : (q : Ahead) → forget (read bare_exprs) (actuals inner q) ≡ unplaced.actuals plain_inner (kinds q)
  unfolding actuals unplaced.actuals bare_expr
  forget_actuals q =
      forget_if (forget (read bare_exprs)) (sees terminal.OpenParenthesis q)
      (forget_then _ _ _ _ _ (forget_exprs (past q) ∙ ap (unplaced.exprs plain_inner) (kinds-past q)) λ x. forget_then _ _ _ _ _ (forget_expect terminal.CloseParenthesis x.2) λ r. refl)
      refl

  forget_calling : (start : ℕ) (t : Target) (q : Ahead) → forget (read bare_expr) (calling inner start t q) ≡ unplaced.calling plain_inner (bare_target t) (kinds q)
  unfolding calling unplaced.calling bare_expr
  forget_calling start t q = forget_then _ _ _ _ _ (forget_name q) λ x. forget_then _ _ _ _ _ (forget_actuals x.1) λ es. refl

  forget_chain_head : (q : Ahead) → forget (read bare_expr) (chain_head inner q) ≡ unplaced.chain_head plain_inner (kinds q)
  unfolding chain_head unplaced.chain_head bare_expr
  forget_chain_head q =
      forget_if (forget (read bare_expr)) (sees terminal.Current q) (ap (λ (r : List Kind). Ok (plain.Current nowhere, 0, r)) (kinds-past q))
      (forget_if (forget (read bare_expr)) (sees terminal.Result q) (ap (λ (r : List Kind). Ok (plain.Result nowhere, 0, r)) (kinds-past q)) (forget_calling (begin q) no_target q))

  forget_calls : (room f : ℕ) (t : Expr) (h : ℕ) (q : Ahead) → forget (read bare_expr) (calls inner room f t h q) ≡ unplaced.calls plain_inner room f (bare_expr t) h (kinds q)
  unfolding calls unplaced.calls bare_expr
  forget_calls room zero t h q = refl
  forget_calls room (suc f) t h q =
      forget_if (forget (read bare_expr)) (sees terminal.Dot q)
      (forget_if (forget (read bare_expr)) (nat_le room h) refl
      (forget_then _ _ _ _ _ (forget_calling (span_of t).start (target t) (past q) ∙ ap (unplaced.calling plain_inner (target (bare_expr t))) (kinds-past q)) λ x.
      forget_calls room f x.0 (max (suc h) x.1) x.2))
      refl

  pub forget_chain : (room : ℕ) (q : Ahead) → forget (read bare_expr) (chain inner room q) ≡ unplaced.chain plain_inner room (kinds q)
  unfolding chain unplaced.chain
  forget_chain room q =
      forget_then _ _ _ _ _ (forget_chain_head q) λ x.
      forget_calls room (left x.2) x.0 x.1 x.2 ∙ ap (λ (f : ℕ). unplaced.calls plain_inner room f (bare_expr x.0) x.1 (kinds x.2)) (left_is x.2)

  forget_object_test : (room : ℕ) (q : Ahead) → forget (read bare_expr) (object_test inner room q) ≡ unplaced.object_test plain_inner room (kinds q)
  unfolding object_test unplaced.object_test bare_expr
  forget_object_test room q =
      forget_then _ _ _ _ _ (forget_tested_type q) λ o. forget_then _ _ _ _ _ (forget_chain room o.1) λ t. forget_then _ _ _ _ _ (forget_expect terminal.As t.2) λ s.
      forget_then _ _ _ _ _ (forget_name s) λ x. refl

  forget_integer_or_chain : (room : ℕ) (o : Option ℤ) (q : Ahead) → forget (read bare_expr) (integer_or_chain inner room o q) ≡ unplaced.integer_or_chain plain_inner room o (kinds q)
  unfolding bare_expr
  forget_integer_or_chain room (Some n) q = ap (λ (r : List Kind). Ok (plain.Integer nowhere n, 0, r)) (kinds-past q)
  forget_integer_or_chain room None q = forget_chain room q

  forget_primary : (room : ℕ) (q : Ahead) → forget (read bare_expr) (primary inner room q) ≡ unplaced.primary plain_inner room (kinds q)
  unfolding primary unplaced.primary bare_expr
  forget_primary room q =
      let F = forget (read bare_expr) in
      forget_if F (sees terminal.True q) (ap (λ (r : List Kind). Ok (plain.Boolean nowhere true, 0, r)) (kinds-past q))
      (forget_if F (sees terminal.False q) (ap (λ (r : List Kind). Ok (plain.Boolean nowhere false, 0, r)) (kinds-past q))
      (forget_if F (sees terminal.Void q) (ap (λ (r : List Kind). Ok (plain.Void nowhere, 0, r)) (kinds-past q))
      (forget_if F (sees terminal.OpenParenthesis q) (forget_parenthesized (past q) ∙ ap (unplaced.parenthesized plain_inner) (kinds-past q))
      (forget_if F (sees terminal.Attached q) (forget_object_test room (past q) ∙ ap (unplaced.object_test plain_inner room) (kinds-past q))
      (forget_integer_or_chain room (integer_ahead q) q)))))

  forget_prefixed : (op : UnaryOperator) (q : Ahead) → forget (read bare_expr) (prefixed inner op q) ≡ unplaced.prefixed plain_inner op (kinds q)
  unfolding prefixed unplaced.prefixed bare_expr
  forget_prefixed op q = forget_then _ _ _ _ _ (S 0 q) λ x. refl

  forget_operand_by : (room : ℕ) (o : Option UnaryOperator) (q : Ahead) → forget (read bare_expr) (operand_by inner room o q) ≡ unplaced.operand_by plain_inner room o (kinds q)
  forget_operand_by room None q = forget_primary room q
  forget_operand_by room (Some op) q = forget_prefixed op (past q) ∙ ap (unplaced.prefixed plain_inner op) (kinds-past q)

  forget_operand : (room : ℕ) (q : Ahead) → forget (read bare_expr) (operand inner room q) ≡ unplaced.operand plain_inner room (kinds q)
  unfolding operand unplaced.operand
  forget_operand room q = forget_operand_by room (prefix_ahead q) q

  forget_with_operator : (room k : ℕ) (next : Expr → ℕ → Ahead → Read Expr) (plain_next : Expr → ℕ → List Kind → looks.Read Expr) →
      ((t : Expr) (h : ℕ) (q : Ahead) → forget (read bare_expr) (next t h q) ≡ plain_next (bare_expr t) h (kinds q)) → (t : Expr) (h : ℕ) (q : Ahead) (o : Option BinaryOperator) →
      forget (read bare_expr) (with_operator inner room k next t h q o) ≡ unplaced.with_operator plain_inner room k plain_next (bare_expr t) h (kinds q) o
  unfolding bare_expr
  forget_with_operator room k next plain_next N t h q None = refl
  forget_with_operator room k next plain_next N t h q (Some op) =
      forget_if (forget (read bare_expr)) (nat_le room h) refl
      (forget_then _ _ _ _ _ (S k (past_operator op q) ∙ ap (plain_inner k) (kinds-past_operator op q)) λ x.
      forget_if (forget (read bare_expr)) (groups k) (N (Binary (across t x.0) op t x.0) (suc (max h x.1)) x.2) refl)

  forget_operators : (room k f : ℕ) (t : Expr) (h : ℕ) (q : Ahead) → forget (read bare_expr) (operators inner room k f t h q) ≡ unplaced.operators plain_inner room k f (bare_expr t) h (kinds q)
  unfolding operators unplaced.operators
  forget_operators room k zero t h q = refl
  forget_operators room k (suc f) t h q = forget_with_operator room k (operators inner room k f) (unplaced.operators plain_inner room k f) (forget_operators room k f) t h q (operator_ahead k q)

  pub forget_level : (room k : ℕ) (q : Ahead) → forget (read bare_expr) (level inner room k q) ≡ unplaced.level plain_inner room k (kinds q)
  unfolding level unplaced.level
  forget_level room zero q = forget_operand room q
  forget_level room (suc k) q =
      forget_then _ _ _ _ _ (forget_level room k q) λ x.
      forget_operators room k (left x.2) x.0 x.1 x.2 ∙ ap (λ (f : ℕ). unplaced.operators plain_inner room k f (bare_expr x.0) x.1 (kinds x.2)) (left_is x.2)

pub forget_expr : (n k : ℕ) (q : Ahead) → forget (read bare_expr) (expr n k q) ≡ unplaced.expr n k (kinds q)
unfolding expr unplaced.expr
forget_expr zero k q = forget_level beyond unplaced.beyond (λ k q. refl) zero k q
forget_expr (suc n) k q = forget_level (expr n) (unplaced.expr n) (forget_expr n) (suc n) k q

pub forget_nested : (n k : ℕ) (q : Ahead) → forget (read bare_expr) (nested n k q) ≡ unplaced.nested n k (kinds q)
unfolding nested unplaced.nested
forget_nested zero k q = refl
forget_nested (suc n) k q = forget_expr n k q
