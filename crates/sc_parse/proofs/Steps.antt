-- Reading in steps, where each of them reads something.
use Rattle.std.proofs.Common.{◌≡◌, ℕ, suc, ◌<◌, Bool, true, false, List, Option, Some, None, Ok, Err, refl, ap, sym, ◌∙◌, arith}
use Rattle.std.specs.Prelude.{ℤ, ◌+◌, ◌==◌, if◌then◌else◌, option_map, MatchOption}
use Rattle.sc_text.specs.declared.token.Terminal.TheVariants as terminal
use Rattle.sc_tree.specs.declared.expression.Expr as code
use Rattle.sc_tree.specs.declared.expression.Expr.{roll-out-Expr}
use Rattle.sc_tree.specs.declared.expression.Expr.TheVariants as variants
use Rattle.sc_tree.specs.declared.expression.Call as code_call
use Rattle.sc_tree.specs.declared.expression.Name as code_name
use Rattle.sc_text.specs.declared.token.Span.{Span}
use Rattle.sc_tree.specs.View.{expr_of}
use Rattle.sc_tree.specs.Grammar.Operators.{top}
use Rattle.sc_tree.specs.Plain.{Name, Expr, Integer, Boolean, Void, Call, Target, Exprs, Variable, Clause, Instr, Assign, PrintText, CallRoutine, Check, Instrs}
use Rattle.sc_tree.specs.Internal.Reading.Looks as looks
use Rattle.sc_tree.specs.Internal.Reading.Looks.{Wrong, ◌>>=◌}
use Rattle.sc_tree.proofs.Looks.{integer_is}
use Rattle.sc_tree.proofs.ReadingSteps.{bind_ok, choose_true, choose_false}
use Rattle.sc_tree.specs.Properties.{span_of}
use Rattle.sc_parse.specs.Reading.Looks.{Ahead, begin, up_to, Read, kinds, past, sees, expect, name, text, integer_ahead}
use Rattle.sc_parse.specs.Reading.Expressions.{parenthesized, exprs, actuals, calling, chain, object_test, integer_or_chain, primary, expr, nested}
use Rattle.sc_parse.specs.Reading.Instructions.{variable, assignment, printing, called, routine_call, checked, checking}
use Rattle.sc_parse.specs.Reading.Reads.{expr_in, constant_ahead}

-- ---- expressions

-- a name with its actuals
pub calling_is : (inner : ℕ → Ahead → Read Expr) (start : ℕ) (a : Target) (ts : Ahead) (x : Name) (r : Ahead) (es : Exprs) (h : ℕ) (rest : Ahead) (t : Expr) →
    name ts ≡ Ok (x, r) → actuals inner r ≡ Ok (es, h, rest) → t ≡ Call (up_to start rest) a x es → calling inner start a ts ≡ Ok (t, h, rest)
unfolding calling
calling_is inner start a ts x r es h rest t p q w = rw (p, q, w) refl

-- actuals in parentheses
pub actuals_read : (inner : ℕ → Ahead → Read Expr) (ts : Ahead) (b : Bool) (r : Ahead) (es xs : Exprs) (h : ℕ) (s rest : Ahead) →
    b ≡ sees terminal.OpenParenthesis ts → b ≡ true → r ≡ past ts → exprs inner r ≡ Ok (es, h, s) → expect terminal.CloseParenthesis s ≡ Ok rest → xs ≡ es → actuals inner ts ≡ Ok (xs, h + 1, rest)
unfolding actuals
actuals_read inner ts b r es xs h s rest q d w p u y =
    let e : suc h ≡ h + 1 = omega arith in
    let f = sym q ∙ d in let v : exprs inner (past ts) ≡ Ok (es, h, s) = ap (exprs inner) (sym w) ∙ p in rw (f, v, u, y) (ap (λ (h : ℕ). Ok (es, h, rest)) e)

-- a constant that stands here, or else what is read
abbrev pub or_else : Option Expr → Ahead → Read Expr → Read Expr
or_else (Some t) r a = Ok (t, 0, r)
or_else None r a = a

by_sight : (t f v : Bool) (s : Span) (o : Option Expr) (r : Ahead) (x a : Read Expr) → x ≡ or_else o r a →
    (if t then Ok (Boolean s true, 0, r) else if f then Ok (Boolean s false, 0, r) else if v then Ok (Void s, 0, r) else x)
    ≡ or_else (if t then Some (Boolean s true) else if f then Some (Boolean s false) else if v then Some (Void s) else o) r a
by_sight true f v s o r x a e = refl
by_sight false true v s o r x a e = refl
by_sight false false true s o r x a e = refl
by_sight false false false s o r x a e = e

module _ (inner : ℕ → Ahead → Read Expr) (room : ℕ) (ts : Ahead) where
  abbrev pub no_constant : Read Expr
  no_constant =
      if sees terminal.OpenParenthesis ts then parenthesized inner (past ts)
      else if sees terminal.Attached ts then object_test inner room (past ts) else chain inner room ts

  by_integer : (o : Option ℤ) → integer_ahead ts ≡ o →
      (if sees terminal.OpenParenthesis ts then parenthesized inner (past ts)
      else if sees terminal.Attached ts then object_test inner room (past ts) else integer_or_chain inner room o ts)
      ≡ or_else (option_map (Integer (past ts).last) o) (past ts) no_constant
  by_integer (Some n) e =
      choose_false (sees terminal.OpenParenthesis ts) _ _ (ap (looks.sees terminal.OpenParenthesis) (integer_is (kinds ts) n e))
      ∙ choose_false (sees terminal.Attached ts) _ _ (ap (looks.sees terminal.Attached) (integer_is (kinds ts) n e))
  by_integer None e = refl

  pub primary_is : primary inner room ts ≡ or_else (constant_ahead ts) (past ts) no_constant
  unfolding primary
  primary_is = by_sight _ _ _ (past ts).last _ (past ts) _ no_constant (by_integer (integer_ahead ts) refl)

  pub primary_constant : (t : Expr) (r : Ahead) → constant_ahead ts ≡ Some t → r ≡ past ts → primary inner room ts ≡ Ok (t, 0, r)
  primary_constant t r e w = primary_is ∙ ap (λ (o : Option Expr). or_else o (past ts) no_constant) e ∙ ap (λ (r : Ahead). Ok (t, 0, r)) (sym w)

  pub primary_otherwise : (o : Option code.Expr) (B : code.Expr → Type 0) → MatchOption o (constant_ahead ts ≡ None) B → ((e : code.Expr) → o ≡ Some e → ⊥) → primary inner room ts ≡ no_constant
  primary_otherwise None B m d = primary_is ∙ ap (λ (o : Option Expr). or_else o (past ts) no_constant) m
  primary_otherwise (Some e) B m d = absurd (d e refl)

  module _ (same : primary inner room ts ≡ no_constant) (b : Bool) (q : b ≡ sees terminal.OpenParenthesis ts) where
    pub primary_parenthesis : (r : Ahead) → b ≡ true → r ≡ past ts → primary inner room ts ≡ parenthesized inner r
    primary_parenthesis r d w = same ∙ choose_true (sees terminal.OpenParenthesis ts) _ _ (sym q ∙ d) ∙ ap (parenthesized inner) (sym w)

    module _ (d : b ≡ false) (a : Bool) (p : a ≡ sees terminal.Attached ts) where
      pub primary_test : (r : Ahead) → a ≡ true → r ≡ past ts → primary inner room ts ≡ object_test inner room r
      primary_test r e w =
          same ∙ choose_false (sees terminal.OpenParenthesis ts) _ _ (sym q ∙ d) ∙ choose_true (sees terminal.Attached ts) _ _ (sym p ∙ e) ∙ ap (object_test inner room) (sym w)

      pub primary_chain : a ≡ false → primary inner room ts ≡ chain inner room ts
      primary_chain e = same ∙ choose_false (sees terminal.OpenParenthesis ts) _ _ (sym q ∙ d) ∙ choose_false (sees terminal.Attached ts) _ _ (sym p ∙ e)

-- what follows an expression in parentheses
abbrev pub closed : Expr × ℕ × Ahead → Read Expr
closed x = expect terminal.CloseParenthesis x.2 >>= λ (rest : Ahead). Ok (x.0, suc x.1, rest)

pub parenthesized_is : (inner : ℕ → Ahead → Read Expr) (r : Ahead) → parenthesized inner r ≡ (inner top r >>= closed)
unfolding parenthesized
parenthesized_is inner r = refl

pub parenthesized_read : (inner : ℕ → Ahead → Read Expr) (r : Ahead) (t u : Expr) (h : ℕ) (s rest : Ahead) →
    inner top r ≡ Ok (t, h, s) → expect terminal.CloseParenthesis s ≡ Ok rest → u ≡ t → parenthesized inner r ≡ Ok (u, h + 1, rest)
parenthesized_read inner r t u h s rest p q w =
    let e : suc h ≡ h + 1 = omega arith in
    parenthesized_is inner r ∙ bind_ok _ _ closed p ∙ bind_ok _ _ (λ (rest : Ahead). Ok (t, suc h, rest)) q ∙ ap (λ (h : ℕ). Ok (t, h, rest)) e ∙ ap (λ (t : Expr). Ok (t, h + 1, rest)) (sym w)

-- ---- instructions

module _ (room : ℕ) (inner : Ahead → Read Instrs) (ts : Ahead) (i : Instr) where
  pub assignment_is : (v : Variable) (r s : Ahead) (t : Expr) (h : ℕ) (rest : Ahead) →
      variable ts ≡ Ok (v, r) → expect terminal.Becomes r ≡ Ok s → expr room top s ≡ Ok (t, h, rest) → i ≡ Assign (record { start = begin ts; end = (span_of t).end }) v t → assignment room inner ts ≡ Ok (i, h, rest)
  unfolding assignment
  assignment_is v r s t h rest p q w e = rw (p, q, w, e) refl

  pub routine_call_is : (t : Expr) (h : ℕ) (rest : Ahead) (s : Span) (a : Target) (x : Name) (es : Exprs) →
      chain (nested room) room ts ≡ Ok (t, h, rest) → t ≡ Call s a x es → i ≡ CallRoutine s a x es → routine_call room inner ts ≡ Ok (i, h, rest)
  unfolding routine_call
  routine_call_is t h rest s a x es p q e = rw (p, q, e) refl

  pub checking_is : (cs : List Clause) (h : ℕ) (r rest : Ahead) → checked room inner ts ≡ Ok (cs, h, r) → expect terminal.End r ≡ Ok rest → i ≡ Check (up_to ts.last.start rest) cs → checking room inner ts ≡ Ok (i, h, rest)
  unfolding checking
  checking_is cs h r rest p q e = rw (p, q, e) refl

pub not_zero : (room : ℕ) → 0 < room → (room == 0) ≡ false
not_zero room a = grind arith

pub printing_is : (room : ℕ) (inner : Ahead → Read Instrs) (start : ℕ) (ts r : Ahead) (s : List ℕ) (u rest : Ahead) (i : Instr) →
    0 < room → r ≡ ts → text r ≡ Ok (s, u) → expect terminal.CloseParenthesis u ≡ Ok rest → i ≡ PrintText (up_to start rest) s → printing room inner start ts ≡ Ok (i, 1, rest)
unfolding printing
printing_is room inner start ts r s u rest i a w p q e = rw (not_zero room a, sym w, p, q, e) refl

-- What is read from memory as a call is one.
one_call : (s : Span) (t : code.Held-Call-target) (n : code_name.Name) (shape : _) (es : _) → ((x : code_call.Call) → variants.Call' s t n shape es ≡ variants.Call x → ⊥) → ⊥
unfolding code.roll-Expr code.out-Expr denote.Hole.Carrier.roll denote.Hole.Carrier.out
one_call s t n shape es d = d _ (sym (roll-out-Expr (variants.Call' s t n shape es)) ∙ sym (variants.rolls-Call _))

-- a chain that is no call
not_called : (room : ℕ) (inner : Ahead → Read Instrs) (e : code.Expr) → ((x : code_call.Call) → e ≡ variants.Call x → ⊥) → (h : ℕ) (rest : Ahead) → called room inner (expr_in e, h, rest) ≡ Err Wrong
unfolding expr_of
not_called room inner (variants.Integer s n) d h rest = refl
not_called room inner (variants.Boolean s b) d h rest = refl
not_called room inner (variants.Void s) d h rest = refl
not_called room inner (variants.Current s) d h rest = refl
not_called room inner (variants.Result s) d h rest = refl
not_called room inner (variants.Unary' s op p a) d h rest = refl
not_called room inner (variants.Binary' s op p a q b) d h rest = refl
not_called room inner (variants.ObjectTest' s t p a n) d h rest = refl
not_called room inner (variants.Call' s t n shape es) d h rest = absurd (one_call s t n shape es d)

pub routine_call_fails : (room : ℕ) (inner : Ahead → Read Instrs) (ts : Ahead) (e : code.Expr) (h : ℕ) (rest : Ahead) →
    chain (nested room) room ts ≡ Ok (expr_in e, h, rest) → ((x : code_call.Call) → e ≡ variants.Call x → ⊥) → routine_call room inner ts ≡ Err Wrong
unfolding routine_call
routine_call_fails room inner ts e h rest p d = rw p (not_called room inner e d h rest)
