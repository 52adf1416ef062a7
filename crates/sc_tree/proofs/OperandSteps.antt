-- Reading gives the operators and operands of an expression that tokens spell, step by step.
use Rattle.std.proofs.Common.{◌≡◌, ℕ, ℤ, zero, suc, ◌≤◌, ◌<◌, max, true, false, List, ◌∷◌, ◌++◌, length, Option, None, Ok, Err, refl, ap, ◌∙◌, arith, ◌⊎◌, inl, inr}
use Rattle.std.specs.Prelude.{nat_le, if◌then◌else◌}
use Rattle.sc_text.specs.Kind.{Kind, INTEGER, TERMINAL}
use Rattle.sc_text.specs.declared.token.Terminal.TheVariants as terminal
use Rattle.sc_tree.specs.declared.expression.UnaryOperator.{UnaryOperator}
use Rattle.sc_tree.specs.declared.expression.BinaryOperator.{BinaryOperator}
use Rattle.sc_tree.specs.Plain.{Expr, Integer, Boolean, Void, Unary, Binary}
use Rattle.sc_tree.specs.Bare.{nowhere}
use Rattle.sc_tree.specs.Grammar.{class_below, groups, top, prefix_of, spelling, IsPrimary}
use Rattle.sc_tree.specs.Internal.Reading.{Deep, Read, ◌>>=◌, same_terminal, begins_expr, operator_ahead, parenthesized, chain, primary, prefixed, operand_by, operand, with_operator, operators, level, expr, nested}
use Rattle.sc_tree.proofs.ReadingSteps.{Comes, fits, deep, lastly, along, bind_ok, bind_err, choose_true, choose_false, le_true, le_false}
use Rattle.sc_tree.proofs.Looks.{expect_self, operator_seen, above_own, past_spelling, no_second}
use Rattle.sc_tree.proofs.Follows.{ChainFirst, name_first, current_first, result_first, primary_unprefixed, prefix_seen, operator_longer}

-- ---- one deeper

pub expr_is : (n k : ℕ) (ts : List Kind) → expr n k ts ≡ level (nested n) n k ts
unfolding expr nested
expr_is zero k ts = refl
expr_is (suc n) k ts = refl

pub nested_comes : (need k : ℕ) (x : Expr × ℕ × List Kind) (ts : List Kind) → ((n : ℕ) → Comes n need x (level (nested n) n k ts)) → (n : ℕ) → Comes n (suc need) x (nested n k ts)
unfolding nested
nested_comes need k x ts all zero = deep (omega arith) refl
nested_comes need k x ts all (suc n) = go (all n)
  where
    go : Comes n need x (level (nested n) n k ts) → Comes (suc n) (suc need) x (expr n k ts)
    go (fits h q) = fits (omega arith) (expr_is n k ts ∙ q)
    go (deep h q) = deep (omega arith) (expr_is n k ts ∙ q)

-- ---- operators between two operands

-- Reading has come so far, and goes on with the operators just above the class.
pub data Chained (room k h : ℕ) (t : Expr) (r : List Kind) (a : Read Expr) : Type 0 where
  goes : h ≤ room → (f : ℕ) → length r ≤ f → a ≡ operators (nested room) room k f t h r → Chained room k h t r a
  too_deep : room < h → a ≡ Err Deep → Chained room k h t r a

pub le_or_lt : (m n : ℕ) → (m ≤ n) ⊎ (n < m)
le_or_lt zero n = inl (omega arith)
le_or_lt (suc m) zero = inr (omega arith)
le_or_lt (suc m) (suc n) = go (le_or_lt m n)
  where
    go : (m ≤ n) ⊎ (n < m) → (suc m ≤ suc n) ⊎ (suc n < suc m)
    go (inl h) = inl (omega arith)
    go (inr h) = inr (omega arith)

operators_stop : (room k f : ℕ) (t : Expr) (h : ℕ) (r : List Kind) → operator_ahead k r ≡ None → operators (nested room) room k f t h r ≡ Ok (t, h, r)
unfolding operators
operators_stop room k zero t h r e = refl
operators_stop room k (suc f) t h r e = rw e refl

-- what an operator's right operand leads to
abbrev stepped : ℕ → ℕ → BinaryOperator → Expr → ℕ → Expr × ℕ × List Kind → Read Expr
stepped n f op t h x =
    if groups (class_below op) then operators (nested n) n (class_below op) f (Binary nowhere op t x.0) (suc (max h x.1)) x.2 else Ok (Binary nowhere op t x.0, suc (max h x.1), x.2)

operators_some : (n f : ℕ) (op : BinaryOperator) (t : Expr) (h : ℕ) (rb : List Kind) → begins_expr rb ≡ true →
    operators (nested n) n (class_below op) (suc f) t h (spelling op ++ rb) ≡ (if nat_le n h then Err Deep else (nested n (class_below op) rb >>= stepped n f op t h))
unfolding operators
operators_some n f op t h rb b =
    ap (with_operator (nested n) n (class_below op) (operators (nested n) n (class_below op) f) t h (spelling op ++ rb)) (above_own op (spelling op ++ rb) (operator_seen op rb (no_second _ rb b refl) (no_second _ rb b refl)))
    ∙ ap (λ (r : List Kind). if nat_le n h then Err Deep else (nested n (class_below op) r >>= stepped n f op t h)) (past_spelling op rb)

-- An operator behind its left operand, with a right operand that begins as one and leaves fewer tokens.
module _ (op : BinaryOperator) (n ha hb : ℕ) (a b : Expr) (rb r : List Kind) (begins : begins_expr rb ≡ true) (within : length r ≤ length rb) where
  left_in : (f : ℕ) → length rb ≤ f → groups (class_below op) ≡ true → (x : Read Expr) → x ≡ operators (nested n) n (class_below op) (suc f) a ha (spelling op ++ rb) →
      (n ≤ ha) ⊎ (ha < n) → Comes n (suc hb) (b, hb, r) (nested n (class_below op) rb) → Chained n (class_below op) (suc (max ha hb)) (Binary nowhere op a b) r x
  left_in f len g x e (inl h) c = too_deep (omega arith) (e ∙ operators_some n f op a ha rb begins ∙ choose_true _ _ _ (le_true n ha h))
  left_in f len g x e (inr h) (fits p q) =
      goes (omega arith) f (omega arith) (e ∙ operators_some n f op a ha rb begins ∙ choose_false _ _ _ (le_false n ha h) ∙ bind_ok _ _ (stepped n f op a ha) q ∙ choose_true _ _ _ g)
  left_in f len g x e (inr h) (deep p q) =
      too_deep (omega arith) (e ∙ operators_some n f op a ha rb begins ∙ choose_false _ _ _ (le_false n ha h) ∙ bind_err _ _ (stepped n f op a ha) q)

  left_at : (f : ℕ) → suc (length rb) ≤ f → groups (class_below op) ≡ true → (x : Read Expr) → x ≡ operators (nested n) n (class_below op) f a ha (spelling op ++ rb) →
      Comes n (suc hb) (b, hb, r) (nested n (class_below op) rb) → Chained n (class_below op) (suc (max ha hb)) (Binary nowhere op a b) r x
  left_at zero len g x e c = absurd (omega arith)
  left_at (suc f) len g x e c = left_in f (omega arith) g x e (le_or_lt n ha) c

  pub left_step : groups (class_below op) ≡ true → (x : Read Expr) → Chained n (class_below op) ha a (spelling op ++ rb) x →
      Comes n (suc hb) (b, hb, r) (nested n (class_below op) rb) → Chained n (class_below op) (suc (max ha hb)) (Binary nowhere op a b) r x
  left_step g x (goes h f len e) c = let l = operator_longer op rb in left_at f (omega arith) g x e c
  left_step g x (too_deep h e) c = too_deep (omega arith) e

  alone_in : groups (class_below op) ≡ false → (f : ℕ) → (x : Read Expr) → x ≡ operators (nested n) n (class_below op) (suc f) a ha (spelling op ++ rb) →
      (n ≤ ha) ⊎ (ha < n) → Comes n (suc hb) (b, hb, r) (nested n (class_below op) rb) → Comes n (suc (max ha hb)) (Binary nowhere op a b, suc (max ha hb), r) x
  alone_in g f x e (inl h) c = deep (omega arith) (e ∙ operators_some n f op a ha rb begins ∙ choose_true _ _ _ (le_true n ha h))
  alone_in g f x e (inr h) (fits p q) =
      fits (omega arith) (e ∙ operators_some n f op a ha rb begins ∙ choose_false _ _ _ (le_false n ha h) ∙ bind_ok _ _ (stepped n f op a ha) q ∙ choose_false _ _ _ g)
  alone_in g f x e (inr h) (deep p q) =
      deep (omega arith) (e ∙ operators_some n f op a ha rb begins ∙ choose_false _ _ _ (le_false n ha h) ∙ bind_err _ _ (stepped n f op a ha) q)

  alone_at : groups (class_below op) ≡ false → (f : ℕ) → 1 ≤ f → (x : Read Expr) → x ≡ operators (nested n) n (class_below op) f a ha (spelling op ++ rb) →
      Comes n (suc hb) (b, hb, r) (nested n (class_below op) rb) → Comes n (suc (max ha hb)) (Binary nowhere op a b, suc (max ha hb), r) x
  alone_at g zero l x e c = absurd (omega arith)
  alone_at g (suc f) l x e c = alone_in g f x e (le_or_lt n ha) c

  pub alone_step : groups (class_below op) ≡ false → (x : Read Expr) → Chained n (class_below op) ha a (spelling op ++ rb) x →
      Comes n (suc hb) (b, hb, r) (nested n (class_below op) rb) → Comes n (suc (max ha hb)) (Binary nowhere op a b, suc (max ha hb), r) x
  alone_step g x (goes h f len e) c = let l = operator_longer op rb in alone_at g f (omega arith) x e c
  alone_step g x (too_deep h e) c = deep (omega arith) e

abbrev then_operators : ℕ → ℕ → Expr × ℕ × List Kind → Read Expr
then_operators n k x = operators (nested n) n k (length x.2) x.0 x.1 x.2

pub first_step : (n k h : ℕ) (t : Expr) (r ts : List Kind) → Comes n h (t, h, r) (level (nested n) n k ts) → Chained n k h t r (level (nested n) n (suc k) ts)
unfolding level
first_step n k h t r ts (fits p e) = goes p (length r) (omega arith) (bind_ok _ _ (then_operators n k) e)
first_step n k h t r ts (deep p e) = too_deep p (bind_err _ _ (then_operators n k) e)

pub stop_step : (n k h : ℕ) (t : Expr) (r : List Kind) (x : Read Expr) → operator_ahead k r ≡ None → Chained n k h t r x → Comes n h (t, h, r) x
stop_step n k h t r x s (goes p f len e) = fits p (e ∙ operators_stop n k f t h r s)
stop_step n k h t r x s (too_deep p e) = deep p e

-- ---- operands

pub integer_read : (n : ℕ) (v : ℤ) (r : List Kind) → primary (nested n) n (INTEGER v ∷ r) ≡ Ok (Integer nowhere v, 0, r)
unfolding primary
integer_read n v r = refl

pub true_read : (n : ℕ) (r : List Kind) → primary (nested n) n (TERMINAL terminal.True ∷ r) ≡ Ok (Boolean nowhere true, 0, r)
unfolding primary same_terminal
true_read n r = refl

pub false_read : (n : ℕ) (r : List Kind) → primary (nested n) n (TERMINAL terminal.False ∷ r) ≡ Ok (Boolean nowhere false, 0, r)
unfolding primary same_terminal
false_read n r = refl

pub void_read : (n : ℕ) (r : List Kind) → primary (nested n) n (TERMINAL terminal.Void ∷ r) ≡ Ok (Void nowhere, 0, r)
unfolding primary same_terminal
void_read n r = refl

pub chain_read : (n : ℕ) (ts : List Kind) → ChainFirst ts → primary (nested n) n ts ≡ chain (nested n) n ts
unfolding primary same_terminal
chain_read n _ (name_first x r) = refl
chain_read n _ (current_first r) = refl
chain_read n _ (result_first r) = refl

pub open_step : (n h : ℕ) (t : Expr) (c r : List Kind) → Comes n (suc h) (t, h, TERMINAL terminal.CloseParenthesis ∷ r) (nested n top c) →
    Comes n (suc h) (t, suc h, r) (primary (nested n) n (TERMINAL terminal.OpenParenthesis ∷ c))
unfolding primary parenthesized same_terminal
open_step n h t c r d = lastly _ _ _ _ _ _ d (bind_ok _ r _ (expect_self terminal.CloseParenthesis r))

pub primary_step : {t : Expr} {c : List Kind} {h : ℕ} → IsPrimary t c h → (r : List Kind) (n : ℕ) → Comes n h (t, h, r) (primary (nested n) n (c ++ r)) → Comes n h (t, h, r) (level (nested n) n 0 (c ++ r))
unfolding level operand
primary_step {t} {c} {h} d r n s = along n h h (t, h, r) (t, h, r) _ _ refl refl (ap (λ (o : Option UnaryOperator). operand_by (nested n) n o (c ++ r)) (primary_unprefixed d r)) s

pub prefixed_step : (n h : ℕ) (op : UnaryOperator) (t : Expr) (c r : List Kind) → Comes n (suc h) (t, h, r) (nested n 0 c) →
    Comes n (suc h) (Unary nowhere op t, suc h, r) (level (nested n) n 0 (TERMINAL (prefix_of op) ∷ c))
unfolding level operand prefixed
prefixed_step n h op t c r d =
    along n _ _ (Unary nowhere op t, suc h, r) _ _ _ refl refl (ap (λ (o : Option UnaryOperator). operand_by (nested n) n o (TERMINAL (prefix_of op) ∷ c)) (prefix_seen op c)) (lastly n (suc h) (t, h, r) _ _ _ d refl)
