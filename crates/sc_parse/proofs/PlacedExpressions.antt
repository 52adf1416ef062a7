-- Expressions that are read stand where their tokens do.
use Rattle.std.proofs.Common.{◌≡◌, ℕ, ℤ, zero, suc, max, true, Option, Some, None, refl}
use Rattle.std.specs.Prelude.{nat_le}
use Rattle.sc_text.specs.Kind.{INTEGER, TERMINAL}
use Rattle.sc_text.specs.declared.token.Terminal.TheVariants as terminal
use Rattle.sc_tree.specs.declared.expression.UnaryOperator.{UnaryOperator}
use Rattle.sc_tree.specs.declared.expression.BinaryOperator.{BinaryOperator}
use Rattle.sc_tree.specs.Grammar.Operators.{top, groups, prefix_of}
use Rattle.sc_tree.specs.Plain.{Name, Expr, Call, Binary, Exprs, no_exprs, expr_then, Target, no_target, target}
use Rattle.sc_tree.specs.Internal.Reading.Looks as looks
use Rattle.sc_tree.specs.Internal.Reading.Looks.{Fault, Deep, ◌>>=◌}
use Rattle.sc_tree.specs.Internal.Reading.Expressions.{exprs_push}
use Rattle.sc_tree.proofs.Looks as facts
use Rattle.sc_tree.proofs.ReadingSteps.{Holds, holds, nothing, holds_then, holds_if, holds_also}
use Rattle.sc_tree.specs.Properties.{span_of}
use Rattle.sc_parse.specs.Reading.Looks as reading
use Rattle.sc_parse.specs.Reading.Looks.{Ahead, Read, kinds, left, past, past_operator, sees, up_to, integer_ahead, prefix_ahead, operator_ahead}
use Rattle.sc_parse.specs.Reading.Expressions.{across, parenthesized, more_exprs, exprs, actuals, calling, chain_head, calls, chain, object_test, integer_or_chain, primary, prefixed, operand_by, operand, with_operator, operators, level, beyond, expr, nested}
use Rattle.sc_parse.specs.Places as places
use Rattle.sc_parse.specs.Places.{Point, IsToken, IsWord, AreWords, IsPlacedName, IsPlacedExpr, ArePlacedActuals, ArePlacedExprs}
use Rattle.sc_parse.proofs.PlacedReadings.{spot, step, seen, a_word, words, expected, named, begun, from_last, from_there, place_tested_type}

push_expr : {es : Exprs} {t : Expr} {p q r u : Point} → ArePlacedExprs es p q → IsWord terminal.Comma q r → IsPlacedExpr t r u → ArePlacedExprs (exprs_push es t) p u
push_expr (places.one_expr d) w e = places.more_exprs d w (places.one_expr e)
push_expr (places.more_exprs d v ds) w e = places.more_exprs d v (push_expr ds w e)

-- an expression, from this point on
abbrev pub PlacesExpr : Point → Expr × ℕ × Ahead → Type 0
PlacesExpr p x = IsPlacedExpr x.0 p (spot x.2)

-- a call of this target that begins there
data IsCalled (start : ℕ) (t : Target) (p : Point) : Expr × ℕ × Ahead → Type 0 where
  called : {x : Name} {es : Exprs} {h : ℕ} {r : Ahead} {q : Point} → IsPlacedName x p q → ArePlacedActuals es q (spot r) → IsCalled start t p (Call (up_to start r) t x es, h, r)

-- What stands one deeper is placed.
module _ (inner : ℕ → Ahead → Read Expr) (S : (k : ℕ) (q : Ahead) → Holds (PlacesExpr (spot q)) (inner k q)) where
  place_more_exprs : (f : ℕ) (found : Exprs) (high : ℕ) (q : Ahead) (p : Point) → ArePlacedExprs found p (spot q) →
      Holds (λ x. ArePlacedExprs x.0 p (spot x.2)) (more_exprs inner f found high q)
  unfolding more_exprs
  place_more_exprs zero found high q p d = holds d
  place_more_exprs (suc f) found high q p d =
      holds_if (sees terminal.Comma q) _ _
      (λ b. holds_then _ (S top (past q)) λ x e. place_more_exprs f (exprs_push found x.0) (max high x.1) x.2 p (push_expr d (a_word terminal.Comma q b) e))
      (λ _. holds d)

  place_exprs : (q : Ahead) → Holds (λ x. ArePlacedExprs x.0 (spot q) (spot x.2)) (exprs inner q)
  unfolding exprs
  place_exprs q = holds_then _ (S top q) λ x d. place_more_exprs (left x.2) (expr_then x.0 no_exprs) x.1 x.2 (spot q) (places.one_expr d)

  pub place_actuals : (q : Ahead) → Holds (λ x. ArePlacedActuals x.0 (spot q) (spot x.2)) (actuals inner q)
  unfolding actuals
  place_actuals q =
      holds_if (sees terminal.OpenParenthesis q) _ _
      (λ b. holds_then _ (place_exprs (past q)) λ x d. holds_then _ (expected terminal.CloseParenthesis x.2) λ r w. holds (places.actuals (a_word terminal.OpenParenthesis q b) d w))
      (λ _. holds places.no_actuals)

  place_calling : (start : ℕ) (t : Target) (q : Ahead) → Holds (IsCalled start t (spot q)) (calling inner start t q)
  unfolding calling
  place_calling start t q = holds_then _ (named q) λ x n. holds_then _ (place_actuals x.1) λ es d. holds (called n d)

  place_unqualified : (q : Ahead) (x : Expr × ℕ × Ahead) → IsCalled (reading.begin q) no_target (spot q) x → PlacesExpr (spot q) x
  place_unqualified q _ (called {r} n d) = places.unqualified n d (begun q r)

  place_chain_head : (q : Ahead) → Holds (PlacesExpr (spot q)) (chain_head inner q)
  unfolding chain_head
  place_chain_head q =
      holds_if (sees terminal.Current q) _ _ (λ b. holds (places.current (seen terminal.Current q b)))
      (λ _. holds_if (sees terminal.Result q) _ _ (λ b. holds (places.result (seen terminal.Result q b)))
      (λ _. holds_also (place_calling (reading.begin q) no_target q) (place_unqualified q)))

  place_qualified : (t : Expr) (p : Point) (q : Ahead) → IsPlacedExpr t p (spot q) → sees terminal.Dot q ≡ true → (x : Expr × ℕ × Ahead) →
      IsCalled (span_of t).start (target t) (spot (past q)) x → PlacesExpr p x
  place_qualified t p q d b _ (called n e) = places.qualified d (a_word terminal.Dot q b) n e refl refl

  place_calls : (room f : ℕ) (t : Expr) (h : ℕ) (q : Ahead) (p : Point) → IsPlacedExpr t p (spot q) → Holds (PlacesExpr p) (calls inner room f t h q)
  unfolding calls
  place_calls room zero t h q p d = holds d
  place_calls room (suc f) t h q p d =
      holds_if (sees terminal.Dot q) _ _
      (λ b. holds_if (nat_le room h) _ _ (λ _. nothing)
      (λ _. holds_then _ (place_calling (span_of t).start (target t) (past q)) λ x e. place_calls room f x.0 (max (suc h) x.1) x.2 p (place_qualified t p q d b x e)))
      (λ _. holds d)

  pub place_chain : (room : ℕ) (q : Ahead) → Holds (PlacesExpr (spot q)) (chain inner room q)
  unfolding chain
  place_chain room q = holds_then _ (place_chain_head q) λ x d. place_calls room (left x.2) x.0 x.1 x.2 (spot q) d

  place_object_test : (room : ℕ) (p : Point) (q : Ahead) → IsToken (TERMINAL terminal.Attached) q.last p (spot q) → Holds (PlacesExpr p) (object_test inner room q)
  unfolding object_test
  place_object_test room p q k =
      holds_then _ (place_tested_type q) λ o d. holds_then _ (place_chain room o.1) λ t e. holds_then _ (expected terminal.As t.2) λ s w. holds_then _ (named s) λ x n.
      holds (places.object_test (q.last, k) d e w n (from_there _ p q x.1 k))

  place_integer_or_chain : (room : ℕ) (o : Option ℤ) (q : Ahead) → integer_ahead q ≡ o → Holds (PlacesExpr (spot q)) (integer_or_chain inner room o q)
  place_integer_or_chain room (Some n) q e = holds (places.integer (step q (INTEGER n) (looks.past (kinds q)) (facts.integer_is (kinds q) n e)))
  place_integer_or_chain room None q e = place_chain room q

  place_primary : (room : ℕ) (q : Ahead) → Holds (PlacesExpr (spot q)) (primary inner room q)
  unfolding primary parenthesized
  place_primary room q =
      holds_if (sees terminal.True q) _ _ (λ b. holds (places.true_constant (seen terminal.True q b)))
      (λ _. holds_if (sees terminal.False q) _ _ (λ b. holds (places.false_constant (seen terminal.False q b)))
      (λ _. holds_if (sees terminal.Void q) _ _ (λ b. holds (places.void (seen terminal.Void q b)))
      (λ _. holds_if (sees terminal.OpenParenthesis q) _ _
      (λ b. holds_then _ (S top (past q)) λ x d. holds_then _ (expected terminal.CloseParenthesis x.2) λ r w. holds (places.parenthesized (a_word terminal.OpenParenthesis q b) d w))
      (λ _. holds_if (sees terminal.Attached q) _ _ (λ b. place_object_test room (spot q) (past q) (seen terminal.Attached q b))
      (λ _. place_integer_or_chain room (integer_ahead q) q refl)))))

  place_operand_by : (room : ℕ) (o : Option UnaryOperator) (q : Ahead) → prefix_ahead q ≡ o → Holds (PlacesExpr (spot q)) (operand_by inner room o q)
  unfolding prefixed
  place_operand_by room None q e = place_primary room q
  place_operand_by room (Some op) q e =
      let k = step q (TERMINAL (prefix_of op)) (looks.past (kinds q)) (facts.prefix_is (kinds q) op e) in
      holds_then _ (S 0 (past q)) λ x d. holds (places.prefixed ((past q).last, k) d (from_last _ (spot q) (past q) k) refl)

  place_operand : (room : ℕ) (q : Ahead) → Holds (PlacesExpr (spot q)) (operand inner room q)
  unfolding operand
  place_operand room q = place_operand_by room (prefix_ahead q) q refl

  place_infixed : (k : ℕ) (t : Expr) (q : Ahead) (p : Point) (op : BinaryOperator) → operator_ahead k q ≡ Some op → IsPlacedExpr t p (spot q) → (x : Expr × ℕ × Ahead) →
      PlacesExpr (spot (past_operator op q)) x → IsPlacedExpr (Binary (across t x.0) op t x.0) p (spot x.2)
  place_infixed k t q p op e d x g = go (facts.ahead_is k (kinds q) op e)
    where
      go : facts.Ahead k (kinds q) op → IsPlacedExpr (Binary (across t x.0) op t x.0) p (spot x.2)
      go (facts.ahead u w) = places.infixed d (words _ q _ w) g refl refl

  place_with_operator : (room k : ℕ) (next : Expr → ℕ → Ahead → Read Expr) (t : Expr) (h : ℕ) (q : Ahead) (p : Point) →
      ((t : Expr) (h : ℕ) (q : Ahead) → IsPlacedExpr t p (spot q) → Holds (PlacesExpr p) (next t h q)) → IsPlacedExpr t p (spot q) →
      (o : Option BinaryOperator) → operator_ahead k q ≡ o → Holds (PlacesExpr p) (with_operator inner room k next t h q o)
  place_with_operator room k next t h q p N d None e = holds d
  place_with_operator room k next t h q p N d (Some op) e =
      holds_if (nat_le room h) _ _ (λ _. nothing)
      (λ _. holds_then _ (S k (past_operator op q)) λ x g.
      holds_if (groups k) _ _ (λ _. N (Binary (across t x.0) op t x.0) (suc (max h x.1)) x.2 (place_infixed k t q p op e d x g)) (λ _. holds (place_infixed k t q p op e d x g)))

  place_operators : (room k f : ℕ) (t : Expr) (h : ℕ) (q : Ahead) (p : Point) → IsPlacedExpr t p (spot q) → Holds (PlacesExpr p) (operators inner room k f t h q)
  unfolding operators
  place_operators room k zero t h q p d = holds d
  place_operators room k (suc f) t h q p d =
      place_with_operator room k (operators inner room k f) t h q p (λ t h q d. place_operators room k f t h q p d) d (operator_ahead k q) refl

  pub place_level : (room k : ℕ) (q : Ahead) → Holds (PlacesExpr (spot q)) (level inner room k q)
  unfolding level
  place_level room zero q = place_operand room q
  place_level room (suc k) q = holds_then _ (place_level room k q) λ x d. place_operators room k (left x.2) x.0 x.1 x.2 (spot q) d

pub place_expr : (n k : ℕ) (q : Ahead) → Holds (PlacesExpr (spot q)) (expr n k q)
unfolding expr
place_expr zero k q = place_level beyond (λ k q. nothing) zero k q
place_expr (suc n) k q = place_level (expr n) (place_expr n) (suc n) k q

pub place_nested : (n k : ℕ) (q : Ahead) → Holds (PlacesExpr (spot q)) (nested n k q)
unfolding nested
place_nested zero k q = nothing
place_nested (suc n) k q = place_expr n k q
