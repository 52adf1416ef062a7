-- What may follow: tokens that don't go on with what stands before them.
use Rattle.std.proofs.Common.{◌∙◌, sym, ◌≡◌, ℕ, suc, ◌≤◌, ◌<◌, Bool, true, false, List, [], ◌∷◌, ◌++◌, length, Option, Some, None, refl, ap, subst, append_assoc, arith}
use Rattle.sc_text.specs.Kind.{Kind, NAME, INTEGER, STRING, TERMINAL}
use Rattle.sc_text.specs.declared.token.Terminal.{Terminal}
use Rattle.sc_text.specs.declared.token.Terminal.TheVariants as terminal
use Rattle.sc_tree.specs.declared.expression.UnaryOperator.{UnaryOperator}
use Rattle.sc_tree.specs.declared.expression.UnaryOperator.TheVariants as unary
use Rattle.sc_tree.specs.declared.expression.BinaryOperator.{BinaryOperator}
use Rattle.sc_tree.specs.declared.expression.BinaryOperator.TheVariants as binary
use Rattle.sc_tree.specs.Plain.{Exprs, Expr}
use Rattle.sc_tree.specs.Grammar as grammar
use Rattle.sc_tree.specs.Grammar.{IsExprs, class_below, prefix_of, spelling, goes_on, goes_on_by, IsPrimary, IsChain, IsExpr}
use Rattle.sc_tree.specs.Internal.Reading.{past, option_completed, operator_by, sees, begins_expr, begins_expr_by, prefix_ahead, operator_at, operator_ahead, above, past_operator}
use Rattle.sc_tree.proofs.ReadingSteps.{not_both}
use Rattle.sc_tree.proofs.Looks.{sees_is, operator_is, class_seen, above_none}

-- whatever is no operator doesn't stand first where one does
pub operator_unseen : (m : Terminal) (op : BinaryOperator) (r : List Kind) → operator_by m ≡ None → sees m (spelling op ++ r) ≡ false
operator_unseen m op r e = go (sees m (spelling op ++ r)) refl
  where
    none : (r : List Kind) → option_completed r (operator_by m) ≡ None
    none r = ap (option_completed r) e

    go : (b : Bool) → sees m (spelling op ++ r) ≡ b → b ≡ false
    go true b =
        let p = class_seen op r in
        let q : Some p.0 ≡ None = sym p.1 ∙ ap operator_at (sees_is m (spelling op ++ r) b) ∙ none (past (spelling op ++ r)) in
        cc
    go false b = refl

-- No actuals stand here, and no dot.
pub record Unlinked (r : List Kind) : Type 0 where
  pub parenthesis : sees terminal.OpenParenthesis r ≡ false
  pub dot : sees terminal.Dot r ≡ false

-- The tokens don't go on with an expression of the class.
pub record Stops (k : ℕ) (r : List Kind) : Type 0 where
  pub no_operator : (j : ℕ) → j < k → operator_ahead j r ≡ None
  pub unlinked : Unlinked r

pub fewer : (k : ℕ) (r : List Kind) → Stops (suc k) r → Stops k r
fewer k r s = record { no_operator = λ j h. s.no_operator j (omega arith); unlinked = s.unlinked }

pub operator_stops : (op : BinaryOperator) (r : List Kind) → Stops (class_below op) (spelling op ++ r)
operator_stops op r =
    let p = class_seen op r in
    record {
      no_operator = λ j h. above_none j p.0 (spelling op ++ r) p.1 (omega (arith, p.2));
      unlinked = record { parenthesis = operator_unseen terminal.OpenParenthesis op r refl; dot = operator_unseen terminal.Dot op r refl };
    }

-- whether a token goes on with what stands before it
abbrev pub connects : Terminal → Bool
connects terminal.Times = true
connects terminal.Quotient = true
connects terminal.Remainder = true
connects terminal.Plus = true
connects terminal.Minus = true
connects terminal.Equal = true
connects terminal.NotEqual = true
connects terminal.Less = true
connects terminal.Greater = true
connects terminal.LessEqual = true
connects terminal.GreaterEqual = true
connects terminal.And = true
connects terminal.Or = true
connects terminal.Xor = true
connects terminal.Implies = true
connects terminal.Becomes = true
connects terminal.Colon = true
connects terminal.Dot = true
connects terminal.OpenParenthesis = true
connects _ = false

-- The first of the tokens, if any, doesn't go on with what stands before it.
abbrev pub Apart : List Kind → Type 0
Apart (TERMINAL m ∷ r) = connects m ≡ false
Apart _ = Unit {0}

operator_connects : (op : BinaryOperator) (r : List Kind) → Apart (spelling op ++ r) → ⊥
operator_connects binary.Times r a = cc
operator_connects binary.Quotient r a = cc
operator_connects binary.Remainder r a = cc
operator_connects binary.Plus r a = cc
operator_connects binary.Minus r a = cc
operator_connects binary.Equal r a = cc
operator_connects binary.NotEqual r a = cc
operator_connects binary.Less r a = cc
operator_connects binary.Greater r a = cc
operator_connects binary.LessEqual r a = cc
operator_connects binary.GreaterEqual r a = cc
operator_connects binary.And r a = cc
operator_connects binary.AndThen r a = cc
operator_connects binary.Or r a = cc
operator_connects binary.OrElse r a = cc
operator_connects binary.Xor r a = cc
operator_connects binary.Implies r a = cc

pub apart_operator : (r : List Kind) → Apart r → operator_at r ≡ None
apart_operator r a = go (operator_at r) refl
  where
    go : (o : Option BinaryOperator) → operator_at r ≡ o → o ≡ None
    go None e = refl
    go (Some op) e = absurd (operator_connects op (past_operator op r) (subst Apart (operator_is r op e) a))

pub apart_sees : (m : Terminal) (r : List Kind) → connects m ≡ true → Apart r → sees m r ≡ false
apart_sees m r c a = go (sees m r) refl
  where
    go : (b : Bool) → sees m r ≡ b → b ≡ false
    go true e = let d : connects m ≡ false = subst Apart (sees_is m r e) a in absurd (not_both c d)
    go false e = refl

pub apart_unlinked : (r : List Kind) → Apart r → Unlinked r
apart_unlinked r a = record { parenthesis = apart_sees terminal.OpenParenthesis r refl a; dot = apart_sees terminal.Dot r refl a }

pub apart_stops : (k : ℕ) (r : List Kind) → Apart r → Stops k r
apart_stops k r a = record { no_operator = λ j h. ap (above j) (apart_operator r a); unlinked = apart_unlinked r a }

goes_on_connects : (m : Terminal) → connects m ≡ false → goes_on_by m ≡ false
goes_on_connects terminal.OpenParenthesis c = cc
goes_on_connects terminal.Plus c = cc
goes_on_connects terminal.Minus c = cc
goes_on_connects _ c = refl

pub apart_goes_on : (r : List Kind) → Apart r → goes_on r ≡ false
apart_goes_on [] a = refl
apart_goes_on (NAME x ∷ r) a = refl
apart_goes_on (INTEGER n ∷ r) a = refl
apart_goes_on (STRING s ∷ r) a = refl
apart_goes_on (TERMINAL m ∷ r) a = goes_on_connects m a

begins_apart_by : (m : Terminal) → begins_expr_by m ≡ true → goes_on_by m ≡ false → connects m ≡ false
begins_apart_by terminal.True b g = refl
begins_apart_by terminal.False b g = refl
begins_apart_by terminal.Void b g = refl
begins_apart_by terminal.Current b g = refl
begins_apart_by terminal.Result b g = refl
begins_apart_by terminal.Attached b g = refl
begins_apart_by terminal.Not b g = refl
begins_apart_by terminal.Old b g = refl
begins_apart_by terminal.OpenParenthesis b g = cc
begins_apart_by terminal.Plus b g = cc
begins_apart_by terminal.Minus b g = cc
begins_apart_by _ b g = cc

-- an expression that doesn't begin with `(`, `+` or `-`
pub begins_apart : (r : List Kind) → begins_expr r ≡ true → goes_on r ≡ false → Apart r
begins_apart [] b g = tt
begins_apart (NAME x ∷ r) b g = tt
begins_apart (INTEGER n ∷ r) b g = tt
begins_apart (STRING s ∷ r) b g = tt
begins_apart (TERMINAL m ∷ r) b g = begins_apart_by m b g

-- ---- what stands first in an expression

-- how a chain of calls begins
pub data ChainFirst : List Kind → Type 0 where
  name_first : (x : List ℕ) (r : List Kind) → ChainFirst (NAME x ∷ r)
  current_first : (r : List Kind) → ChainFirst (TERMINAL terminal.Current ∷ r)
  result_first : (r : List Kind) → ChainFirst (TERMINAL terminal.Result ∷ r)

pub chain_first : {t : Expr} {c : List Kind} {h : ℕ} → IsChain t c h → (r : List Kind) → ChainFirst (c ++ r)
chain_first grammar.current r = current_first r
chain_first grammar.result r = result_first r
chain_first (grammar.unqualified x {es} {c} d) r = name_first x (c ++ r)
chain_first (grammar.qualified {t} {ct} d x {es} {c} e) r = rw (append_assoc ct (TERMINAL terminal.Dot ∷ NAME x ∷ c) r) (chain_first d ((TERMINAL terminal.Dot ∷ NAME x ∷ c) ++ r))

pub first_begins : (ts : List Kind) → ChainFirst ts → begins_expr ts ≡ true
first_begins _ (name_first x r) = refl
first_begins _ (current_first r) = refl
first_begins _ (result_first r) = refl

first_unprefixed : (ts : List Kind) → ChainFirst ts → prefix_ahead ts ≡ None
first_unprefixed _ (name_first x r) = refl
first_unprefixed _ (current_first r) = refl
first_unprefixed _ (result_first r) = refl

pub primary_begins : {t : Expr} {c : List Kind} {h : ℕ} → IsPrimary t c h → (r : List Kind) → begins_expr (c ++ r) ≡ true
primary_begins (grammar.integer n) r = refl
primary_begins grammar.true_constant r = refl
primary_begins grammar.false_constant r = refl
primary_begins grammar.void r = refl
primary_begins (grammar.parenthesized d) r = refl
primary_begins (grammar.chain {t} {c} d) r = first_begins (c ++ r) (chain_first d r)
primary_begins (grammar.object_test o d x) r = refl

pub primary_unprefixed : {t : Expr} {c : List Kind} {h : ℕ} → IsPrimary t c h → (r : List Kind) → prefix_ahead (c ++ r) ≡ None
primary_unprefixed (grammar.integer n) r = refl
primary_unprefixed grammar.true_constant r = refl
primary_unprefixed grammar.false_constant r = refl
primary_unprefixed grammar.void r = refl
primary_unprefixed (grammar.parenthesized d) r = refl
primary_unprefixed (grammar.chain {t} {c} d) r = first_unprefixed (c ++ r) (chain_first d r)
primary_unprefixed (grammar.object_test o d x) r = refl

prefix_begins : (op : UnaryOperator) (r : List Kind) → begins_expr (TERMINAL (prefix_of op) ∷ r) ≡ true
prefix_begins unary.Not r = refl
prefix_begins unary.Old r = refl
prefix_begins unary.Plus r = refl
prefix_begins unary.Minus r = refl

pub prefix_seen : (op : UnaryOperator) (r : List Kind) → prefix_ahead (TERMINAL (prefix_of op) ∷ r) ≡ Some op
prefix_seen unary.Not r = refl
prefix_seen unary.Old r = refl
prefix_seen unary.Plus r = refl
prefix_seen unary.Minus r = refl

pub expr_begins : {k : ℕ} {t : Expr} {c : List Kind} {h : ℕ} → IsExpr k t c h → (r : List Kind) → begins_expr (c ++ r) ≡ true
expr_begins (grammar.primary d) r = primary_begins d r
expr_begins (grammar.prefixed op {t} {c} d) r = prefix_begins op (c ++ r)
expr_begins (grammar.tighter d) r = expr_begins d r
expr_begins (grammar.left op g {a} {b} {ca} {cb} d e) r = rw (append_assoc ca (spelling op ++ cb) r) (expr_begins d ((spelling op ++ cb) ++ r))
expr_begins (grammar.alone op g {a} {b} {ca} {cb} d e) r = rw (append_assoc ca (spelling op ++ cb) r) (expr_begins d ((spelling op ++ cb) ++ r))

pub exprs_begin : {es : Exprs} {c : List Kind} {h : ℕ} → IsExprs es c h → (r : List Kind) → begins_expr (c ++ r) ≡ true
exprs_begin (grammar.one_expr d) r = expr_begins d r
exprs_begin (grammar.more_exprs {t} {es} {c} {cs} d ds) r = rw (append_assoc c (TERMINAL terminal.Comma ∷ cs) r) (expr_begins d ((TERMINAL terminal.Comma ∷ cs) ++ r))

pub operator_longer : (op : BinaryOperator) (r : List Kind) → suc (length r) ≤ length (spelling op ++ r)
operator_longer binary.Times r = omega arith
operator_longer binary.Quotient r = omega arith
operator_longer binary.Remainder r = omega arith
operator_longer binary.Plus r = omega arith
operator_longer binary.Minus r = omega arith
operator_longer binary.Equal r = omega arith
operator_longer binary.NotEqual r = omega arith
operator_longer binary.Less r = omega arith
operator_longer binary.Greater r = omega arith
operator_longer binary.LessEqual r = omega arith
operator_longer binary.GreaterEqual r = omega arith
operator_longer binary.And r = omega arith
operator_longer binary.AndThen r = omega arith
operator_longer binary.Or r = omega arith
operator_longer binary.OrElse r = omega arith
operator_longer binary.Xor r = omega arith
operator_longer binary.Implies r = omega arith
