-- What each look at the next token says of the tokens.
use Rattle.std.proofs.Common.{◌≡◌, ℕ, ℤ, Bool, true, false, List, [], ◌∷◌, ◌++◌, ◌<◌, Option, Some, None, Ok, Err, refl, ap, sym, ◌∙◌, subst, arith, rules}
use Rattle.std.specs.Prelude.{◌==◌, if◌then◌else◌}
use Rattle.std.proofs.lemmas.Slice.Eq.{bytes_eq-Decides}
use denote.Enum.Bare.{same_true, true_same}
use Rattle.sc_text.specs.contracts.token.Terminal.{the_type}
use Rattle.sc_text.specs.Kind.{Kind, NAME, INTEGER, STRING, TERMINAL}
use Rattle.sc_text.specs.declared.token.Terminal.{Terminal}
use Rattle.sc_text.specs.declared.token.Terminal.TheVariants as terminal
use Rattle.sc_tree.specs.declared.expression.UnaryOperator.{UnaryOperator}
use Rattle.sc_tree.specs.declared.expression.UnaryOperator.TheVariants as unary
use Rattle.sc_tree.specs.declared.expression.BinaryOperator.{BinaryOperator}
use Rattle.sc_tree.specs.declared.expression.BinaryOperator.TheVariants as binary
use Rattle.sc_tree.specs.Plain.{Name}
use Rattle.sc_tree.specs.Bare.{named}
use Rattle.sc_tree.specs.Grammar.{class_below, prefix_of, spelling}
use Rattle.sc_tree.specs.Internal.Reading.{Wrong, past, same_terminal, sees, begins_expr, begins_expr_by, expect, name, text, sees_word, expect_word, integer_ahead, prefix_by, prefix_ahead, operator_by, completed, option_completed, operator_at, above, operator_ahead, past_operator}
use Rattle.sc_tree.proofs.ReadingSteps.{Holds, holds, nothing, choose_true, choose_false, not_both}

pub same_is : (a b : Terminal) → same_terminal a b ≡ true → a ≡ b
unfolding same_terminal
same_is a b e = same_true the_type (search rules) a b e

same_self : (m : Terminal) → same_terminal m m ≡ true
unfolding same_terminal
same_self m = true_same the_type m m refl

pub sees_is : (m : Terminal) (ts : List Kind) → sees m ts ≡ true → ts ≡ TERMINAL m ∷ past ts
sees_is m [] e = cc
sees_is m (NAME x ∷ r) e = cc
sees_is m (INTEGER n ∷ r) e = cc
sees_is m (STRING s ∷ r) e = cc
sees_is m (TERMINAL o ∷ r) e = ap (λ (o : Terminal). TERMINAL o ∷ r) (same_is o m e)

pub sees_self : (m : Terminal) (r : List Kind) → sees m (TERMINAL m ∷ r) ≡ true
sees_self m r = same_self m

pub expect_self : (m : Terminal) (r : List Kind) → expect m (TERMINAL m ∷ r) ≡ Ok r
unfolding expect
expect_self m r = choose_true _ _ _ (sees_self m r)

pub expect_holds : (m : Terminal) (ts : List Kind) → Holds (λ r. ts ≡ TERMINAL m ∷ r) (expect m ts)
unfolding expect
expect_holds m ts = go (sees m ts) refl
  where
    go : (b : Bool) → sees m ts ≡ b → Holds (λ r. ts ≡ TERMINAL m ∷ r) (if b then Ok (past ts) else Err Wrong)
    go true e = holds (sees_is m ts e)
    go false e = nothing

-- a name and what follows it
pub data NameFirst (ts : List Kind) : Name × List Kind → Type 0 where
  name_first : (x : List ℕ) (r : List Kind) → ts ≡ NAME x ∷ r → NameFirst ts (named x, r)

pub name_holds : (ts : List Kind) → Holds (NameFirst ts) (name ts)
name_holds [] = nothing
name_holds (NAME x ∷ r) = holds (name_first x r refl)
name_holds (INTEGER n ∷ r) = nothing
name_holds (STRING s ∷ r) = nothing
name_holds (TERMINAL m ∷ r) = nothing

-- what a first name is
pub first_name : (ts : List Kind) (x : Name × List Kind) → NameFirst ts x → (y : List ℕ) × (ts ≡ NAME y ∷ x.1) × (x.0 ≡ named y)
first_name ts _ (name_first y r e) = (y, e, refl)

-- a string and what follows it
pub data TextFirst (ts : List Kind) : List ℕ × List Kind → Type 0 where
  text_first : (s : List ℕ) (r : List Kind) → ts ≡ STRING s ∷ r → TextFirst ts (s, r)

pub text_holds : (ts : List Kind) → Holds (TextFirst ts) (text ts)
text_holds [] = nothing
text_holds (NAME x ∷ r) = nothing
text_holds (INTEGER n ∷ r) = nothing
text_holds (STRING s ∷ r) = holds (text_first s r refl)
text_holds (TERMINAL m ∷ r) = nothing

pub sees_word_is : (w : List ℕ) (ts : List Kind) → sees_word w ts ≡ true → ts ≡ NAME w ∷ past ts
sees_word_is w [] e = cc
sees_word_is w (NAME x ∷ r) e = ap (λ (x : List ℕ). NAME x ∷ r) ((bytes_eq-Decides x w).0 e)
sees_word_is w (INTEGER n ∷ r) e = cc
sees_word_is w (STRING s ∷ r) e = cc
sees_word_is w (TERMINAL m ∷ r) e = cc

pub expect_word_holds : (w : List ℕ) (ts : List Kind) → Holds (λ r. ts ≡ NAME w ∷ r) (expect_word w ts)
unfolding expect_word
expect_word_holds w ts = go (sees_word w ts) refl
  where
    go : (b : Bool) → sees_word w ts ≡ b → Holds (λ r. ts ≡ NAME w ∷ r) (if b then Ok (past ts) else Err Wrong)
    go true e = holds (sees_word_is w ts e)
    go false e = nothing

some_same : {A : Type 0} (a b : A) → Some a ≡ Some b → a ≡ b
some_same a b e = cc

pub integer_is : (ts : List Kind) (n : ℤ) → integer_ahead ts ≡ Some n → ts ≡ INTEGER n ∷ past ts
integer_is [] n e = cc
integer_is (NAME x ∷ r) n e = cc
integer_is (INTEGER m ∷ r) n e = ap (λ (m : ℤ). INTEGER m ∷ r) (some_same m n e)
integer_is (STRING s ∷ r) n e = cc
integer_is (TERMINAL m ∷ r) n e = cc

-- ---- operators

prefix_is_by : (m : Terminal) (op : UnaryOperator) → prefix_by m ≡ Some op → m ≡ prefix_of op
prefix_is_by terminal.Not op e = ap prefix_of (some_same unary.Not op e)
prefix_is_by terminal.Old op e = ap prefix_of (some_same unary.Old op e)
prefix_is_by terminal.Plus op e = ap prefix_of (some_same unary.Plus op e)
prefix_is_by terminal.Minus op e = ap prefix_of (some_same unary.Minus op e)
prefix_is_by _ op e = cc

pub prefix_is : (ts : List Kind) (op : UnaryOperator) → prefix_ahead ts ≡ Some op → ts ≡ TERMINAL (prefix_of op) ∷ past ts
prefix_is [] op e = cc
prefix_is (NAME x ∷ r) op e = cc
prefix_is (INTEGER n ∷ r) op e = cc
prefix_is (STRING s ∷ r) op e = cc
prefix_is (TERMINAL m ∷ r) op e = ap (λ (m : Terminal). TERMINAL m ∷ r) (prefix_is_by m op e)

-- the tokens are the operator, and what stands behind it
abbrev Spells : Terminal → List Kind → BinaryOperator → Type 0
Spells m r op = TERMINAL m ∷ r ≡ spelling op ++ past_operator op (TERMINAL m ∷ r)

spells_same : (m : Terminal) (r : List Kind) (o op : BinaryOperator) → Some o ≡ Some op → Spells m r o → Spells m r op
spells_same m r o op e s = subst (Spells m r) (some_same o op e) s

spells_and : (r : List Kind) → Spells terminal.And r (completed r binary.And)
spells_and r = go (sees terminal.Then r) refl
  where
    go : (b : Bool) → sees terminal.Then r ≡ b → Spells terminal.And r (if b then binary.AndThen else binary.And)
    go true e = ap (λ (r : List Kind). TERMINAL terminal.And ∷ r) (sees_is terminal.Then r e)
    go false e = refl

spells_or : (r : List Kind) → Spells terminal.Or r (completed r binary.Or)
spells_or r = go (sees terminal.Else r) refl
  where
    go : (b : Bool) → sees terminal.Else r ≡ b → Spells terminal.Or r (if b then binary.OrElse else binary.Or)
    go true e = ap (λ (r : List Kind). TERMINAL terminal.Or ∷ r) (sees_is terminal.Else r e)
    go false e = refl

operator_is_by : (m : Terminal) (r : List Kind) (op : BinaryOperator) → option_completed r (operator_by m) ≡ Some op → Spells m r op
operator_is_by terminal.Times r op e = spells_same terminal.Times r binary.Times op e refl
operator_is_by terminal.Quotient r op e = spells_same terminal.Quotient r binary.Quotient op e refl
operator_is_by terminal.Remainder r op e = spells_same terminal.Remainder r binary.Remainder op e refl
operator_is_by terminal.Plus r op e = spells_same terminal.Plus r binary.Plus op e refl
operator_is_by terminal.Minus r op e = spells_same terminal.Minus r binary.Minus op e refl
operator_is_by terminal.Equal r op e = spells_same terminal.Equal r binary.Equal op e refl
operator_is_by terminal.NotEqual r op e = spells_same terminal.NotEqual r binary.NotEqual op e refl
operator_is_by terminal.Less r op e = spells_same terminal.Less r binary.Less op e refl
operator_is_by terminal.Greater r op e = spells_same terminal.Greater r binary.Greater op e refl
operator_is_by terminal.LessEqual r op e = spells_same terminal.LessEqual r binary.LessEqual op e refl
operator_is_by terminal.GreaterEqual r op e = spells_same terminal.GreaterEqual r binary.GreaterEqual op e refl
operator_is_by terminal.And r op e = spells_same terminal.And r (completed r binary.And) op e (spells_and r)
operator_is_by terminal.Or r op e = spells_same terminal.Or r (completed r binary.Or) op e (spells_or r)
operator_is_by terminal.Xor r op e = spells_same terminal.Xor r binary.Xor op e refl
operator_is_by terminal.Implies r op e = spells_same terminal.Implies r binary.Implies op e refl
operator_is_by _ r op e = cc

pub operator_is : (ts : List Kind) (op : BinaryOperator) → operator_at ts ≡ Some op → ts ≡ spelling op ++ past_operator op ts
operator_is [] op e = cc
operator_is (NAME x ∷ r) op e = cc
operator_is (INTEGER n ∷ r) op e = cc
operator_is (STRING s ∷ r) op e = cc
operator_is (TERMINAL m ∷ r) op e = operator_is_by m r op e

above_is : (k : ℕ) (o : Option BinaryOperator) (op : BinaryOperator) → above k o ≡ Some op → (class_below op ≡ k) × (o ≡ Some op)
above_is k None op e = cc
above_is k (Some o) op e = by_test (class_below o == k) refl e
  where
    by_test : (b : Bool) → (class_below o == k) ≡ b → (if b then Some o else None) ≡ Some op → (class_below op ≡ k) × (Some o ≡ Some op)
    by_test true d e = let same : o ≡ op = cc in (ap class_below (sym same) ∙ eq_of _ _ d, e)
      where
        eq_of : (m n : ℕ) → (m == n) ≡ true → m ≡ n
        eq_of m n e = grind arith
    by_test false d e = cc

-- an operator ahead is one just above the class
pub data Ahead (k : ℕ) (ts : List Kind) (op : BinaryOperator) : Type 0 where
  ahead : class_below op ≡ k → ts ≡ spelling op ++ past_operator op ts → Ahead k ts op

pub ahead_is : (k : ℕ) (ts : List Kind) (op : BinaryOperator) → operator_ahead k ts ≡ Some op → Ahead k ts op
ahead_is k ts op e = let p = above_is k (operator_at ts) op e in ahead p.0 (operator_is ts op p.1)

-- ---- an operator that stands here

pub past_spelling : (op : BinaryOperator) (r : List Kind) → past_operator op (spelling op ++ r) ≡ r
past_spelling binary.Times r = refl
past_spelling binary.Quotient r = refl
past_spelling binary.Remainder r = refl
past_spelling binary.Plus r = refl
past_spelling binary.Minus r = refl
past_spelling binary.Equal r = refl
past_spelling binary.NotEqual r = refl
past_spelling binary.Less r = refl
past_spelling binary.Greater r = refl
past_spelling binary.LessEqual r = refl
past_spelling binary.GreaterEqual r = refl
past_spelling binary.And r = refl
past_spelling binary.AndThen r = refl
past_spelling binary.Or r = refl
past_spelling binary.OrElse r = refl
past_spelling binary.Xor r = refl
past_spelling binary.Implies r = refl

-- whatever follows it, the operator that is seen is of its class
pub class_seen : (op : BinaryOperator) (r : List Kind) → (o : BinaryOperator) × (operator_at (spelling op ++ r) ≡ Some o) × (class_below o ≡ class_below op)
class_seen binary.Times r = (binary.Times, refl, refl)
class_seen binary.Quotient r = (binary.Quotient, refl, refl)
class_seen binary.Remainder r = (binary.Remainder, refl, refl)
class_seen binary.Plus r = (binary.Plus, refl, refl)
class_seen binary.Minus r = (binary.Minus, refl, refl)
class_seen binary.Equal r = (binary.Equal, refl, refl)
class_seen binary.NotEqual r = (binary.NotEqual, refl, refl)
class_seen binary.Less r = (binary.Less, refl, refl)
class_seen binary.Greater r = (binary.Greater, refl, refl)
class_seen binary.LessEqual r = (binary.LessEqual, refl, refl)
class_seen binary.GreaterEqual r = (binary.GreaterEqual, refl, refl)
class_seen binary.And r = (completed r binary.And, refl, go (sees terminal.Then r))
  where
    go : (b : Bool) → class_below (if b then binary.AndThen else binary.And) ≡ 3
    go true = refl
    go false = refl
class_seen binary.AndThen r = (binary.AndThen, ap (λ (b : Bool). Some (if b then binary.AndThen else binary.And)) (sees_self terminal.Then r), refl)
class_seen binary.Or r = (completed r binary.Or, refl, go (sees terminal.Else r))
  where
    go : (b : Bool) → class_below (if b then binary.OrElse else binary.Or) ≡ 4
    go true = refl
    go false = refl
class_seen binary.OrElse r = (binary.OrElse, ap (λ (b : Bool). Some (if b then binary.OrElse else binary.Or)) (sees_self terminal.Else r), refl)
class_seen binary.Xor r = (binary.Xor, refl, refl)
class_seen binary.Implies r = (binary.Implies, refl, refl)

-- where an operand follows, it is the operator itself
pub operator_seen : (op : BinaryOperator) (r : List Kind) → sees terminal.Then r ≡ false → sees terminal.Else r ≡ false → operator_at (spelling op ++ r) ≡ Some op
operator_seen binary.Times r t e = refl
operator_seen binary.Quotient r t e = refl
operator_seen binary.Remainder r t e = refl
operator_seen binary.Plus r t e = refl
operator_seen binary.Minus r t e = refl
operator_seen binary.Equal r t e = refl
operator_seen binary.NotEqual r t e = refl
operator_seen binary.Less r t e = refl
operator_seen binary.Greater r t e = refl
operator_seen binary.LessEqual r t e = refl
operator_seen binary.GreaterEqual r t e = refl
operator_seen binary.And r t e = ap (λ (b : Bool). Some (if b then binary.AndThen else binary.And)) t
operator_seen binary.AndThen r t e = ap (λ (b : Bool). Some (if b then binary.AndThen else binary.And)) (sees_self terminal.Then r)
operator_seen binary.Or r t e = ap (λ (b : Bool). Some (if b then binary.OrElse else binary.Or)) e
operator_seen binary.OrElse r t e = ap (λ (b : Bool). Some (if b then binary.OrElse else binary.Or)) (sees_self terminal.Else r)
operator_seen binary.Xor r t e = refl
operator_seen binary.Implies r t e = refl

same_class : (m n : ℕ) → m ≡ n → (m == n) ≡ true
same_class m n e = grind arith

other_class : (m n : ℕ) → n < m → (m == n) ≡ false
other_class m n h = grind arith

pub above_own : (op : BinaryOperator) (ts : List Kind) → operator_at ts ≡ Some op → operator_ahead (class_below op) ts ≡ Some op
above_own op ts e = ap (above (class_below op)) e ∙ choose_true _ _ _ (same_class (class_below op) (class_below op) refl)

pub above_none : (j : ℕ) (op : BinaryOperator) (ts : List Kind) → operator_at ts ≡ Some op → j < class_below op → operator_ahead j ts ≡ None
above_none j op ts e h = ap (above j) e ∙ choose_false _ _ _ (other_class (class_below op) j h)

-- what begins an expression is no second word of an operator
pub no_second : (m : Terminal) (r : List Kind) → begins_expr r ≡ true → begins_expr_by m ≡ false → sees m r ≡ false
no_second m r b n = go (sees m r) refl
  where
    go : (t : Bool) → sees m r ≡ t → t ≡ false
    go true e = let q : begins_expr r ≡ begins_expr_by m = ap begins_expr (sees_is m r e) in absurd (not_both b (q ∙ n))
    go false e = refl
