-- Expressions of a class, read from the operand on: levels between which no operator stands are the same.
use Rattle.std.proofs.Common.{◌≡◌, ℕ, zero, suc, ◌+◌, ◌-◌, ◌≤◌, ◌<◌, false, Option, None, Some, Ok, refl, ap, sym, ◌∙◌, arith}
use Rattle.std.specs.Prelude.{◌==◌, MatchOption}
use Rattle.sc_tree.specs.declared.expression.BinaryOperator.{BinaryOperator}
use Rattle.sc_tree.specs.Grammar.Operators.{class_below}
use Rattle.sc_tree.specs.Plain.{Expr}
use Rattle.sc_tree.specs.Internal.Reading.Looks.{◌>>=◌, above}
use Rattle.sc_tree.proofs.ReadingSteps.{bind_ok, choose_false}
use Rattle.sc_parse.specs.declared.fault.ParseFault.{ParseFault}
use Rattle.sc_parse.specs.Reading.Looks.{Ahead, IsFree, Read, left, operator_ahead, operator_at}
use Rattle.sc_parse.specs.Reading.Expressions.{expr, nested, operators, with_operator}
use Rattle.sc_parse.specs.Reading.Reads.{Fails}
use Rattle.sc_parse.proofs.Faults.{Fails-along, Fails-bind}
use Rattle.sc_parse.proofs.Turns.{expr_suc, then_operators}

-- ---- where no operator of some classes stands

pub free_of_none : (least class : ℕ) (q : Ahead) (o : Option BinaryOperator) → o ≡ operator_at q → ((op : BinaryOperator) → o ≡ Some op → ⊥) → IsFree least class q
free_of_none least class q None e d = λ k a b. ap (above k) (sym e)
free_of_none least class q (Some op) e d = absurd (d op refl)

-- what is known where no class was found
pub free_of_no_class : (o : Option ℕ) (A : Type 0) (B : ℕ → Type 0) → MatchOption o A B → ((k : ℕ) → o ≡ Some k → ⊥) → A
free_of_no_class None A B m d = m
free_of_no_class (Some k) A B m d = absurd (d k refl)

larger : (m n : ℕ) → n < m → (m == n) ≡ false
larger m n h = grind arith

smaller : (m n : ℕ) → m < n → (m == n) ≡ false
smaller m n h = grind arith

-- the operator is just above a lower class
pub free_above : (least class : ℕ) (q : Ahead) (o : Option BinaryOperator) (op : BinaryOperator) (c : ℕ) →
    o ≡ operator_at q → o ≡ Some op → c ≡ class_below op → c < least → IsFree least class q
free_above least class q o op c e d s h =
    λ k a b. ap (above k) (sym e ∙ d) ∙ choose_false (class_below op == k) _ _ (smaller (class_below op) k (omega (arith, s, h, a)))

-- the operator is just above a class that is no lower than any of these
pub free_below : (least class : ℕ) (q : Ahead) (o : Option BinaryOperator) (op : BinaryOperator) (c : ℕ) →
    o ≡ operator_at q → o ≡ Some op → c ≡ class_below op → class ≤ c → IsFree least class q
free_below least class q o op c e d s h =
    λ k a b. ap (above k) (sym e ∙ d) ∙ choose_false (class_below op == k) _ _ (larger (class_below op) k (omega (arith, s, h, b)))

-- ---- levels

one_higher : (room k : ℕ) (ts : Ahead) → expr room (suc k) ts ≡ (expr room k ts >>= then_operators room k)
one_higher room k ts =
    let e : suc k - 1 ≡ k = omega arith in
    expr_suc room (suc k) ts (omega arith) ∙ ap (λ (j : ℕ). expr room j ts >>= then_operators room j) e

-- where no operator of the class stands, none is read
none_read : (inner : ℕ → Ahead → Read Expr) (room k f : ℕ) (t : Expr) (h : ℕ) (ts : Ahead) → operator_ahead k ts ≡ None → operators inner room k f t h ts ≡ Ok (t, h, ts)
unfolding operators
none_read inner room k zero t h ts e = refl
none_read inner room k (suc f) t h ts e = ap (with_operator inner room k (operators inner room k f) t h ts) e

-- so many levels higher
stays_by : (room k n m : ℕ) (ts : Ahead) (t : Expr) (h : ℕ) (rest : Ahead) → m ≡ k + n → expr room k ts ≡ Ok (t, h, rest) → IsFree k m rest → expr room m ts ≡ Ok (t, h, rest)
stays_by room k zero m ts t h rest q e free = let z : m ≡ k = omega (arith, q) in ap (λ (j : ℕ). expr room j ts) z ∙ e
stays_by room k (suc n) m ts t h rest q e free =
    let z : m ≡ suc (k + n) = omega (arith, q) in
    ap (λ (j : ℕ). expr room j ts) z ∙ one_higher room (k + n) ts
    ∙ bind_ok _ _ (then_operators room (k + n)) (stays_by room k n (k + n) ts t h rest refl e (λ j a b. free j a (omega (arith, b, q))))
    ∙ none_read (nested room) room (k + n) (left rest) t h rest (free (k + n) (omega arith) (omega (arith, q)))

-- An expression behind which no operator of the levels above it stands is one of the higher class as well.
pub stays : (room k m : ℕ) (ts : Ahead) (t : Expr) (h : ℕ) (rest : Ahead) → k ≤ m → expr room k ts ≡ Ok (t, h, rest) → IsFree k m rest → expr room m ts ≡ Ok (t, h, rest)
stays room k m ts t h rest p e free = stays_by room k (m - k) m ts t h rest (omega (arith, p)) e free

-- Up to the class of the operator that stands behind it nothing is read, and then that operator.
pub reaches : (room k c : ℕ) (ts : Ahead) (t : Expr) (h : ℕ) (rest : Ahead) → k ≤ c → expr room k ts ≡ Ok (t, h, rest) → IsFree k c rest →
    expr room (c + 1) ts ≡ operators (nested room) room c (left rest) t h rest
reaches room k c ts t h rest p e free =
    let z : c + 1 ≡ suc c = omega arith in
    ap (λ (j : ℕ). expr room j ts) z ∙ one_higher room c ts ∙ bind_ok _ _ (then_operators room c) (stays room k c ts t h rest p e free)

-- ---- faults

fails_by : (room k n m : ℕ) (ts : Ahead) (e : ParseFault) → m ≡ k + n → Fails (expr room k ts) e → Fails (expr room m ts) e
fails_by room k zero m ts e q f = let z : m ≡ k = omega (arith, q) in Fails-along _ _ e (ap (λ (j : ℕ). expr room j ts) z) f
fails_by room k (suc n) m ts e q f =
    let z : m ≡ suc (k + n) = omega (arith, q) in
    Fails-along _ _ e (ap (λ (j : ℕ). expr room j ts) z ∙ one_higher room (k + n) ts)
    (Fails-bind (expr room (k + n) ts) (then_operators room (k + n)) e (fails_by room k n (k + n) ts e refl f))

-- Where an expression can't be read, none of a higher class can.
pub fails_higher : (room k m : ℕ) (ts : Ahead) (e : ParseFault) → k ≤ m → Fails (expr room k ts) e → Fails (expr room m ts) e
fails_higher room k m ts e p f = fails_by room k (m - k) m ts e (omega (arith, p)) f
