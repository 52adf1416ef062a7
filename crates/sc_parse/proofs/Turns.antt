-- Reading, one level, one nesting or one turn of a list at a time, by the numbers that code counts with.
use Rattle.std.proofs.Common.{◌≡◌, ℕ, zero, suc, ◌+◌, ◌-◌, ◌≤◌, ◌<◌, max, Bool, true, false, List, [], ◌∷◌, ◌++◌, length, Option, Some, Ok, Err, refl, ap, sym, ◌∙◌, arith}
use Rattle.std.specs.Prelude.{nat_le, if◌then◌else◌}
use Rattle.sc_text.specs.declared.token.Span.{Span}
use Rattle.sc_text.specs.declared.token.Token.{Token}
use Rattle.sc_text.specs.declared.token.Terminal.TheVariants as terminal
use Rattle.sc_tree.specs.declared.expression.BinaryOperator.{BinaryOperator}
use Rattle.sc_tree.specs.Grammar.Operators.{groups, top}
use Rattle.sc_tree.specs.Plain as plain
use Rattle.sc_tree.specs.Plain.{Name, DeclaredType, Clause, Expr, Current, Call, Binary, ObjectTest, Target, no_target, target, Exprs, no_exprs, expr_then, Head, Instr, Instrs, no_instrs, Branches, no_branches}
use Rattle.sc_parse.specs.declared.fault.ParseFault.{ParseFault}
use Rattle.sc_parse.specs.Reading.Reads.{Fails}
use Rattle.sc_parse.proofs.Faults.{Fails-bind, Fails-along}
use Rattle.sc_tree.proofs.ReadingSteps.{bind_ok, choose_true, choose_false, le_true, le_false}
use Rattle.sc_tree.specs.Internal.Reading.Looks.{Deep, ◌>>=◌}
use Rattle.sc_tree.specs.Properties.{span_of}
use Rattle.sc_parse.specs.Reading.Looks.{Ahead, begin, left, Read, past, sees, skip_semicolons, past_semicolons, begins_instr, operator_ahead, past_operator}
use Rattle.sc_tree.specs.Internal.Reading.Expressions.{exprs_push}
use Rattle.sc_parse.specs.Reading.Expressions.{across, with_operator, more_exprs, exprs, calling, chain_head, calls, chain, operators, operand, level, expr, nested}
use Rattle.sc_parse.specs.Reading.Assertions.{clauses, nested_clauses}
use Rattle.sc_tree.specs.Internal.Reading.Instructions.{instrs_push, branches_push}
use Rattle.sc_parse.specs.Reading.Instructions.{nested_chain, branch, branches, head, more_heads, heads, instr, instrs_from, body, instrs, nested_instrs}

-- a list's turns are as many as the tokens that are left
pub turns_of : (ts : Ahead) → length ts.rest - 0 ≡ left ts
turns_of ts = omega arith

-- where no semicolon stands, none is read over
pub semicolons_none : (q : Ahead) → sees terminal.Semicolon q ≡ false → skip_semicolons q ≡ q
semicolons_none q e = go q.last q.rest e
  where
    go : (s : Span) (ts : List Token) → sees terminal.Semicolon (record { last = s; rest = ts }) ≡ false → past_semicolons s ts ≡ record { last = s; rest = ts }
    go s [] e = refl
    go s (t ∷ ts) e = choose_false _ _ _ e

-- ---- levels and nestings

pub nested_none : (room k : ℕ) (ts : Ahead) → room ≡ 0 → nested room k ts ≡ Err Deep
unfolding nested
nested_none zero k ts e = refl
nested_none (suc n) k ts e = absurd (omega (arith, e))

pub nested_some : (room k : ℕ) (ts : Ahead) → 0 < room → nested room k ts ≡ expr (room - 1) k ts
unfolding nested
nested_some zero k ts p = absurd (omega arith)
nested_some (suc n) k ts p = let e : suc n - 1 ≡ n = omega arith in ap (λ (m : ℕ). expr m k ts) (sym e)

expr_is : (room k : ℕ) (ts : Ahead) → expr room k ts ≡ level (nested room) room k ts
unfolding expr nested
expr_is zero k ts = refl
expr_is (suc n) k ts = refl

pub expr_zero : (room k : ℕ) (ts : Ahead) → k ≡ 0 → expr room k ts ≡ operand (nested room) room ts
unfolding level
expr_zero room zero ts e = expr_is room zero ts
expr_zero room (suc k) ts e = absurd (omega (arith, e))

-- an expression of the class below, and the operators above that
abbrev pub then_operators : ℕ → ℕ → Expr × ℕ × Ahead → Read Expr
then_operators room k x = operators (nested room) room k (left x.2) x.0 x.1 x.2

pub expr_suc : (room k : ℕ) (ts : Ahead) → 0 < k → expr room k ts ≡ (expr room (k - 1) ts >>= then_operators room (k - 1))
unfolding level
expr_suc room zero ts p = absurd (omega arith)
expr_suc room (suc k) ts p =
    let e : suc k - 1 ≡ k = omega arith in
    expr_is room (suc k) ts ∙ ap (λ (a : Read Expr). a >>= then_operators room k) (sym (expr_is room k ts)) ∙ ap (λ (j : ℕ). expr room j ts >>= then_operators room j) (sym e)

pub chain_none : (room : ℕ) (ts : Ahead) → room ≡ 0 → nested_chain room ts ≡ Err Deep
unfolding nested_chain
chain_none zero ts e = refl
chain_none (suc n) ts e = absurd (omega (arith, e))

pub chain_some : (room : ℕ) (ts : Ahead) → 0 < room → nested_chain room ts ≡ chain (nested (room - 1)) (room - 1) ts
unfolding nested_chain
chain_some zero ts p = absurd (omega arith)
chain_some (suc n) ts p = let e : suc n - 1 ≡ n = omega arith in ap (λ (m : ℕ). chain (nested m) m ts) (sym e)

pub clauses_none : (room : ℕ) (ts : Ahead) → room ≡ 0 → nested_clauses room ts ≡ Err Deep
unfolding nested_clauses
clauses_none zero ts e = refl
clauses_none (suc n) ts e = absurd (omega (arith, e))

pub clauses_some : (room : ℕ) (ts : Ahead) → 0 < room → nested_clauses room ts ≡ clauses (room - 1) ts
unfolding nested_clauses
clauses_some zero ts p = absurd (omega arith)
clauses_some (suc n) ts p = let e : suc n - 1 ≡ n = omega arith in ap (λ (m : ℕ). clauses m ts) (sym e)

-- ---- turns of operators

module _ (inner : ℕ → Ahead → Read Expr) (room k n i : ℕ) (t : Expr) (h : ℕ) (ts : Ahead) where
  pub operators_end : n ≤ i → operators inner room k (n - i) t h ts ≡ Ok (t, h, ts)
  unfolding operators
  operators_end p = let z : n - i ≡ 0 = omega arith in ap (λ (f : ℕ). operators inner room k f t h ts) z

  pub operators_turn : i < n → operators inner room k (n - i) t h ts ≡ with_operator inner room k (operators inner room k (n - (i + 1))) t h ts (operator_ahead k ts)
  unfolding operators
  operators_turn p = let z : n - i ≡ suc (n - (i + 1)) = omega arith in ap (λ (f : ℕ). operators inner room k f t h ts) z

  -- what follows an operator's right operand
  abbrev pub after_operand : BinaryOperator → Expr × ℕ × Ahead → Read Expr
  after_operand op x =
      if groups k then operators inner room k (n - (i + 1)) (Binary (across t x.0) op t x.0) (suc (max h x.1)) x.2 else Ok (Binary (across t x.0) op t x.0, suc (max h x.1), x.2)

  pub operators_right : (o : Option BinaryOperator) (op : BinaryOperator) (r : Ahead) → i < n → o ≡ operator_ahead k ts → o ≡ Some op → h < room → r ≡ past_operator op ts →
      operators inner room k (n - i) t h ts ≡ (inner k r >>= after_operand op)
  operators_right o op r p q d b w =
      operators_turn p ∙ ap (with_operator inner room k (operators inner room k (n - (i + 1))) t h ts) (sym q ∙ d) ∙ choose_false (nat_le room h) _ _ (le_false room h b)
      ∙ ap (λ (r : Ahead). inner k r >>= after_operand op) (sym w)

module _ (inner : ℕ → Ahead → Read Expr) (room k n i : ℕ) (t : Expr) (h : ℕ) (ts : Ahead) where
  pub operators_deep : (o : Option BinaryOperator) (op : BinaryOperator) → i < n → o ≡ operator_ahead k ts → o ≡ Some op → room ≤ h → operators inner room k (n - i) t h ts ≡ Err Deep
  operators_deep o op p q d b =
      operators_turn inner room k n i t h ts p ∙ ap (with_operator inner room k (operators inner room k (n - (i + 1))) t h ts) (sym q ∙ d) ∙ choose_true (nat_le room h) _ _ (le_true room h b)

module _ (inner : ℕ → Ahead → Read Expr) (room k n i : ℕ) (t : Expr) (h : ℕ) (ts : Ahead) (all : Read Expr) (same : operators inner room k (n - i) t h ts ≡ all)
    (o : Option BinaryOperator) (op : BinaryOperator) (r : Ahead) (p : i < n) (q : o ≡ operator_ahead k ts) (d : o ≡ Some op) (b : h < room) (w : r ≡ past_operator op ts) where
  right : all ≡ (inner k r >>= after_operand inner room k n i t h ts op)
  right = sym same ∙ operators_right inner room k n i t h ts o op r p q d b w

  pub operators_fail : (e : ParseFault) → Fails (inner k r) e → Fails all e
  operators_fail e f = Fails-along _ _ e right (Fails-bind (inner k r) (after_operand inner room k n i t h ts op) e f)

  pub operators_done : (u : Expr) (g : ℕ) (rest : Ahead) (c : Bool) (v : Expr) (m : ℕ) → inner k r ≡ Ok (u, g, rest) → c ≡ groups k → c ≡ false → v ≡ Binary (across t u) op t u → m ≡ max h g → all ≡ Ok (v, m + 1, rest)
  operators_done u g rest c v m x y z l a =
      let s : suc (max h g) ≡ m + 1 = omega (arith, a) in
      right ∙ bind_ok _ _ (after_operand inner room k n i t h ts op) x ∙ choose_false _ _ _ (sym y ∙ z) ∙ ap (λ (v : Expr). Ok (v, suc (max h g), rest)) (sym l) ∙ ap (λ (m : ℕ). Ok (v, m, rest)) s

  pub operators_more : (u : Expr) (g : ℕ) (rest : Ahead) (c : Bool) (v : Expr) (m : ℕ) → inner k r ≡ Ok (u, g, rest) → c ≡ groups k → c ≡ true → v ≡ Binary (across t u) op t u → m ≡ max h g →
      operators inner room k (n - (i + 1)) v (m + 1) rest ≡ all
  operators_more u g rest c v m x y z l a =
      let s : m + 1 ≡ suc (max h g) = omega (arith, a) in
      ap (λ (m : ℕ). operators inner room k (n - (i + 1)) v m rest) s ∙ ap (λ (v : Expr). operators inner room k (n - (i + 1)) v (suc (max h g)) rest) l
      ∙ sym (right ∙ bind_ok _ _ (after_operand inner room k n i t h ts op) x ∙ choose_true _ _ _ (sym y ∙ z))

-- the first turn has as many before it as tokens are left
pub operators_begin : (inner : ℕ → Ahead → Read Expr) (room k : ℕ) (ts : Ahead) (t : Expr) (h : ℕ) →
    operators inner room k (length ts.rest - 0) t h ts ≡ operators inner room k (left ts) t h ts
operators_begin inner room k ts t h = ap (λ (f : ℕ). operators inner room k f t h ts) (turns_of ts)

-- ---- turns of calls

module _ (inner : ℕ → Ahead → Read Expr) (room n i : ℕ) (t : Expr) (h : ℕ) (ts : Ahead) where
  -- what follows a call
  abbrev pub after_call : Expr × ℕ × Ahead → Read Expr
  after_call x = calls inner room (n - (i + 1)) x.0 (max (suc h) x.1) x.2

  pub calls_end : n ≤ i → calls inner room (n - i) t h ts ≡ Ok (t, h, ts)
  unfolding calls
  calls_end p = let z : n - i ≡ 0 = omega arith in ap (λ (f : ℕ). calls inner room f t h ts) z

  pub calls_turn : i < n →
      calls inner room (n - i) t h ts ≡ (if sees terminal.Dot ts then (if nat_le room h then Err Deep else (calling inner (span_of t).start (target t) (past ts) >>= after_call)) else Ok (t, h, ts))
  unfolding calls
  calls_turn p = let z : n - i ≡ suc (n - (i + 1)) = omega arith in ap (λ (f : ℕ). calls inner room f t h ts) z

  pub calls_none : (b : Bool) → i < n → b ≡ sees terminal.Dot ts → b ≡ false → calls inner room (n - i) t h ts ≡ Ok (t, h, ts)
  calls_none b p q d = calls_turn p ∙ choose_false (sees terminal.Dot ts) _ _ (sym q ∙ d)

module _ (inner : ℕ → Ahead → Read Expr) (room n i : ℕ) (t : Expr) (h : ℕ) (ts : Ahead) (all : Read Expr) (same : calls inner room (n - i) t h ts ≡ all)
    (c : Bool) (r : Ahead) (a : Target) (p : i < n) (q : c ≡ sees terminal.Dot ts) (d : c ≡ true) (b : h < room) (w : r ≡ past ts) (l : a ≡ target t)
    (start : ℕ) (z : start ≡ (span_of t).start) where
  called : all ≡ (calling inner start a r >>= after_call inner room n i t h ts)
  called =
      sym same ∙ calls_turn inner room n i t h ts p ∙ choose_true (sees terminal.Dot ts) _ _ (sym q ∙ d) ∙ choose_false (nat_le room h) _ _ (le_false room h b)
      ∙ ap (λ (r : Ahead). calling inner (span_of t).start (target t) r >>= after_call inner room n i t h ts) (sym w) ∙ ap (λ (a : Target). calling inner (span_of t).start a r >>= after_call inner room n i t h ts) (sym l)
      ∙ ap (λ (s : ℕ). calling inner s a r >>= after_call inner room n i t h ts) (sym z)

  pub calls_fail : (e : ParseFault) → Fails (calling inner start a r) e → Fails all e
  calls_fail e f = Fails-along _ _ e called (Fails-bind (calling inner start a r) (after_call inner room n i t h ts) e f)

  pub calls_more : (u : Expr) (g : ℕ) (rest : Ahead) (m : ℕ) → calling inner start a r ≡ Ok (u, g, rest) → m ≡ max (h + 1) g → calls inner room (n - (i + 1)) u m rest ≡ all
  calls_more u g rest m x y =
      let s : m ≡ max (suc h) g = omega (arith, y) in
      ap (λ (m : ℕ). calls inner room (n - (i + 1)) u m rest) s ∙ sym (called ∙ bind_ok _ _ (after_call inner room n i t h ts) x)

pub calls_begin : (inner : ℕ → Ahead → Read Expr) (room : ℕ) (ts : Ahead) (t : Expr) (h : ℕ) →
    calls inner room (length ts.rest - 0) t h ts ≡ calls inner room (left ts) t h ts
calls_begin inner room ts t h = ap (λ (f : ℕ). calls inner room f t h ts) (turns_of ts)

-- ---- turns of actuals

abbrev pub next_exprs : (ℕ → Ahead → Read Expr) → ℕ → Exprs → ℕ → Expr × ℕ × Ahead → Read Exprs
next_exprs inner f found high x = more_exprs inner f (exprs_push found x.0) (max high x.1) x.2

module _ (inner : ℕ → Ahead → Read Expr) (n i : ℕ) (found : Exprs) (high : ℕ) (ts : Ahead) where
  pub exprs_end : n ≤ i → more_exprs inner (n - i) found high ts ≡ Ok (found, high, ts)
  unfolding more_exprs
  exprs_end p = let z : n - i ≡ 0 = omega arith in ap (λ (f : ℕ). more_exprs inner f found high ts) z

  pub exprs_turn : i < n → more_exprs inner (n - i) found high ts ≡ (if sees terminal.Comma ts then (inner top (past ts) >>= next_exprs inner (n - (i + 1)) found high) else Ok (found, high, ts))
  unfolding more_exprs
  exprs_turn p = let z : n - i ≡ suc (n - (i + 1)) = omega arith in ap (λ (f : ℕ). more_exprs inner f found high ts) z

  pub exprs_more : (b : Bool) (r : Ahead) (x : Expr) (h : ℕ) (rest : Ahead) (xs : Exprs) (m : ℕ) → i < n → b ≡ sees terminal.Comma ts → b ≡ true → r ≡ past ts → inner top r ≡ Ok (x, h, rest) →
      xs ≡ exprs_push found x → m ≡ max high h → more_exprs inner (n - (i + 1)) xs m rest ≡ more_exprs inner (n - i) found high ts
  exprs_more b r x h rest xs m p q d w e u v =
      ap (λ (m : ℕ). more_exprs inner (n - (i + 1)) xs m rest) v ∙ ap (λ (xs : Exprs). more_exprs inner (n - (i + 1)) xs (max high h) rest) u
      ∙ sym (exprs_turn p ∙ choose_true (sees terminal.Comma ts) _ _ (sym q ∙ d) ∙ ap (λ (r : Ahead). inner top r >>= next_exprs inner (n - (i + 1)) found high) (sym w) ∙ bind_ok _ _ (next_exprs inner (n - (i + 1)) found high) e)

  pub exprs_none : (b : Bool) → i < n → b ≡ sees terminal.Comma ts → b ≡ false → more_exprs inner (n - i) found high ts ≡ Ok (found, high, ts)
  exprs_none b p q d = exprs_turn p ∙ choose_false (sees terminal.Comma ts) _ _ (sym q ∙ d)

  pub exprs_fail : (b : Bool) (r : Ahead) (e : ParseFault) → i < n → b ≡ sees terminal.Comma ts → b ≡ true → r ≡ past ts → Fails (inner top r) e → Fails (more_exprs inner (n - i) found high ts) e
  exprs_fail b r e p q d w f =
      Fails-along _ _ e (exprs_turn p ∙ choose_true (sees terminal.Comma ts) _ _ (sym q ∙ d) ∙ ap (λ (r : Ahead). inner top r >>= next_exprs inner (n - (i + 1)) found high) (sym w))
      (Fails-bind (inner top r) (next_exprs inner (n - (i + 1)) found high) e f)

-- what follows the first actual
abbrev pub then_exprs : (ℕ → Ahead → Read Expr) → Expr × ℕ × Ahead → Read Exprs
then_exprs inner x = more_exprs inner (left x.2) (expr_then x.0 no_exprs) x.1 x.2

pub exprs_is : (inner : ℕ → Ahead → Read Expr) (ts : Ahead) → exprs inner ts ≡ (inner top ts >>= then_exprs inner)
unfolding exprs
exprs_is inner ts = refl

pub exprs_begin : (inner : ℕ → Ahead → Read Expr) (before : Ahead) (ts : Ahead) (t : Expr) (h : ℕ) (found : Exprs) → inner top before ≡ Ok (t, h, ts) → found ≡ expr_then t no_exprs →
    more_exprs inner (length ts.rest - 0) found h ts ≡ exprs inner before
exprs_begin inner before ts t h found q e =
    ap (λ (f : ℕ). more_exprs inner f found h ts) (turns_of ts) ∙ ap (λ (es : Exprs). more_exprs inner (left ts) es h ts) e
    ∙ sym (exprs_is inner before ∙ bind_ok _ _ (then_exprs inner) q)

-- ---- chains

-- what stands before the first dot, and the dots
abbrev pub then_calls : (ℕ → Ahead → Read Expr) → ℕ → Expr × ℕ × Ahead → Read Expr
then_calls inner room x = calls inner room (left x.2) x.0 x.1 x.2

module _ (inner : ℕ → Ahead → Read Expr) (room : ℕ) (ts : Ahead) (b : Bool) (p : b ≡ sees terminal.Current ts) where
  pub chain_current : (r : Ahead) (t : Expr) → b ≡ true → r ≡ past ts → t ≡ Current r.last → chain inner room ts ≡ calls inner room (left r) t 0 r
  unfolding chain chain_head
  chain_current r t q w v = let d = sym p ∙ q in rw (v, d, w) refl

  module _ (q : b ≡ false) (c : Bool) (d : c ≡ sees terminal.Result ts) where
    pub chain_result : (r : Ahead) (t : Expr) → c ≡ true → r ≡ past ts → t ≡ plain.Result r.last → chain inner room ts ≡ calls inner room (left r) t 0 r
    unfolding chain chain_head
    chain_result r t e w v = let u = sym p ∙ q in let g = sym d ∙ e in rw (v, u, g, w) refl

    chain_called : c ≡ false → chain inner room ts ≡ (calling inner (begin ts) no_target ts >>= then_calls inner room)
    unfolding chain chain_head
    chain_called e = let u = sym p ∙ q in let g = sym d ∙ e in rw (u, g) refl

    module _ (start : ℕ) (a : Target) (f : c ≡ false) (z : start ≡ begin ts) (w : a ≡ no_target) where
      chain_calls : chain inner room ts ≡ (calling inner start a ts >>= then_calls inner room)
      chain_calls =
          chain_called f ∙ ap (λ (s : ℕ). calling inner s no_target ts >>= then_calls inner room) (sym z) ∙ ap (λ (a : Target). calling inner start a ts >>= then_calls inner room) (sym w)

      pub chain_fail : (e : ParseFault) → Fails (calling inner start a ts) e → Fails (chain inner room ts) e
      chain_fail e h = Fails-along _ _ e chain_calls (Fails-bind (calling inner start a ts) (then_calls inner room) e h)

      pub chain_dots : (t : Expr) (h : ℕ) (rest : Ahead) → calling inner start a ts ≡ Ok (t, h, rest) → chain inner room ts ≡ calls inner room (left rest) t h rest
      chain_dots t h rest e = chain_calls ∙ bind_ok _ _ (then_calls inner room) e

-- ---- instructions

pub inside_none : (room : ℕ) (ts : Ahead) → room ≡ 0 → nested_instrs room ts ≡ Err Deep
unfolding nested_instrs
inside_none zero ts e = refl
inside_none (suc n) ts e = absurd (omega (arith, e))

pub inside_some : (room : ℕ) (ts : Ahead) → 0 < room → nested_instrs room ts ≡ instrs (room - 1) ts
unfolding nested_instrs
inside_some zero ts p = absurd (omega arith)
inside_some (suc n) ts p = let e : suc n - 1 ≡ n = omega arith in ap (λ (m : ℕ). instrs m ts) (sym e)

all_instrs : (room : ℕ) (ts : Ahead) → instrs room ts ≡ instrs_from room (nested_instrs room) (left (skip_semicolons ts)) no_instrs 0 (skip_semicolons ts)
unfolding body instrs nested_instrs
all_instrs zero ts = refl
all_instrs (suc n) ts = refl

pub instrs_begin : (room : ℕ) (ts : Ahead) (before : Ahead) (found : Instrs) → ts ≡ skip_semicolons before → found ≡ no_instrs →
    instrs_from room (nested_instrs room) (length ts.rest - 0) found 0 ts ≡ instrs room before
instrs_begin room ts before found q e =
    ap (λ (f : ℕ). instrs_from room (nested_instrs room) f found 0 ts) (turns_of ts) ∙ ap (λ (r : Ahead). instrs_from room (nested_instrs room) (left r) found 0 r) q
    ∙ ap (λ (is : Instrs). instrs_from room (nested_instrs room) (left (skip_semicolons before)) is 0 (skip_semicolons before)) e ∙ sym (all_instrs room before)

abbrev pub next_instrs : ℕ → ℕ → Instrs → ℕ → Instr × ℕ × Ahead → Read Instrs
next_instrs room f found high x = instrs_from room (nested_instrs room) f (instrs_push found x.0) (max high x.1) (skip_semicolons x.2)

module _ (room : ℕ) (n i : ℕ) (found : Instrs) (high : ℕ) (ts : Ahead) where
  pub instrs_end : n ≤ i → instrs_from room (nested_instrs room) (n - i) found high ts ≡ Ok (found, high, ts)
  unfolding instrs_from
  instrs_end p = let z : n - i ≡ 0 = omega arith in ap (λ (f : ℕ). instrs_from room (nested_instrs room) f found high ts) z

  pub instrs_turn : i < n → instrs_from room (nested_instrs room) (n - i) found high ts ≡ (if begins_instr ts then (instr room (nested_instrs room) ts >>= next_instrs room (n - (i + 1)) found high) else Ok (found, high, ts))
  unfolding instrs_from
  instrs_turn p = let z : n - i ≡ suc (n - (i + 1)) = omega arith in ap (λ (f : ℕ). instrs_from room (nested_instrs room) f found high ts) z

  pub instrs_more : (b : Bool) (x : Instr) (h : ℕ) (rest next : Ahead) (xs : Instrs) → i < n → b ≡ begins_instr ts → b ≡ true → instr room (nested_instrs room) ts ≡ Ok (x, h, rest) →
      xs ≡ instrs_push found x → next ≡ skip_semicolons rest → instrs_from room (nested_instrs room) (n - (i + 1)) xs (max high h) next ≡ instrs_from room (nested_instrs room) (n - i) found high ts
  instrs_more b x h rest next xs p q d e u v =
      ap (λ (xs : Instrs). instrs_from room (nested_instrs room) (n - (i + 1)) xs (max high h) next) u ∙ ap (λ (r : Ahead). instrs_from room (nested_instrs room) (n - (i + 1)) (instrs_push found x) (max high h) r) v
      ∙ sym (instrs_turn p ∙ choose_true (begins_instr ts) _ _ (sym q ∙ d) ∙ bind_ok _ _ (next_instrs room (n - (i + 1)) found high) e)

  pub instrs_none : (b : Bool) → i < n → b ≡ begins_instr ts → b ≡ false → instrs_from room (nested_instrs room) (n - i) found high ts ≡ Ok (found, high, ts)
  instrs_none b p q d = instrs_turn p ∙ choose_false (begins_instr ts) _ _ (sym q ∙ d)

  pub instrs_fail : (b : Bool) (e : ParseFault) → i < n → b ≡ begins_instr ts → b ≡ true → Fails (instr room (nested_instrs room) ts) e → Fails (instrs_from room (nested_instrs room) (n - i) found high ts) e
  instrs_fail b e p q d f =
      Fails-along _ _ e (instrs_turn p ∙ choose_true (begins_instr ts) _ _ (sym q ∙ d)) (Fails-bind (instr room (nested_instrs room) ts) (next_instrs room (n - (i + 1)) found high) e f)

pub branches_begin : (room : ℕ) (ts : Ahead) (found : Branches) → found ≡ no_branches →
    branches room (nested_instrs room) (length ts.rest - 0) found 0 ts ≡ branches room (nested_instrs room) (left ts) no_branches 0 ts
branches_begin room ts found e =
    ap (λ (f : ℕ). branches room (nested_instrs room) f found 0 ts) (turns_of ts) ∙ ap (λ (bs : Branches). branches room (nested_instrs room) (left ts) bs 0 ts) e

abbrev pub next_branches : ℕ → ℕ → Branches → ℕ → (Expr × Instrs) × ℕ × Ahead → Read Branches
next_branches room f found high x = branches room (nested_instrs room) f (branches_push found x.0.0 x.0.1) (max high x.1) x.2

module _ (room : ℕ) (n i : ℕ) (found : Branches) (high : ℕ) (ts : Ahead) where
  pub branches_end : n ≤ i → branches room (nested_instrs room) (n - i) found high ts ≡ Ok (found, high, ts)
  unfolding branches
  branches_end p = let z : n - i ≡ 0 = omega arith in ap (λ (f : ℕ). branches room (nested_instrs room) f found high ts) z

  pub branches_turn : i < n → branches room (nested_instrs room) (n - i) found high ts ≡ (if sees terminal.Elseif ts then (branch room (nested_instrs room) (past ts) >>= next_branches room (n - (i + 1)) found high) else Ok (found, high, ts))
  unfolding branches
  branches_turn p = let z : n - i ≡ suc (n - (i + 1)) = omega arith in ap (λ (f : ℕ). branches room (nested_instrs room) f found high ts) z

  pub branches_more : (b : Bool) (r : Ahead) (x : (Expr × Instrs)) (h : ℕ) (rest : Ahead) (xs : Branches) → i < n → b ≡ sees terminal.Elseif ts → b ≡ true → r ≡ past ts → branch room (nested_instrs room) r ≡ Ok (x, h, rest) →
      xs ≡ branches_push found x.0 x.1 → branches room (nested_instrs room) (n - (i + 1)) xs (max high h) rest ≡ branches room (nested_instrs room) (n - i) found high ts
  branches_more b r x h rest xs p q d w e u =
      ap (λ (xs : Branches). branches room (nested_instrs room) (n - (i + 1)) xs (max high h) rest) u
      ∙ sym (branches_turn p ∙ choose_true (sees terminal.Elseif ts) _ _ (sym q ∙ d) ∙ ap (λ (r : Ahead). branch room (nested_instrs room) r >>= next_branches room (n - (i + 1)) found high) (sym w) ∙ bind_ok _ _ (next_branches room (n - (i + 1)) found high) e)

  pub branches_none : (b : Bool) → i < n → b ≡ sees terminal.Elseif ts → b ≡ false → branches room (nested_instrs room) (n - i) found high ts ≡ Ok (found, high, ts)
  branches_none b p q d = branches_turn p ∙ choose_false (sees terminal.Elseif ts) _ _ (sym q ∙ d)

  pub branches_fail : (b : Bool) (r : Ahead) (e : ParseFault) → i < n → b ≡ sees terminal.Elseif ts → b ≡ true → r ≡ past ts → Fails (branch room (nested_instrs room) r) e →
      Fails (branches room (nested_instrs room) (n - i) found high ts) e
  branches_fail b r e p q d w f =
      Fails-along _ _ e (branches_turn p ∙ choose_true (sees terminal.Elseif ts) _ _ (sym q ∙ d) ∙ ap (λ (r : Ahead). branch room (nested_instrs room) r >>= next_branches room (n - (i + 1)) found high) (sym w))
      (Fails-bind (branch room (nested_instrs room) r) (next_branches room (n - (i + 1)) found high) e f)

-- what follows the first head
abbrev pub then_heads : ℕ → Head × ℕ × Ahead → Read (List Head)
then_heads room x = more_heads room (nested_instrs room) (left x.2) (x.0 ∷ []) x.1 x.2

pub heads_is : (room : ℕ) (ts : Ahead) → heads room (nested_instrs room) ts ≡ (head room (nested_instrs room) ts >>= then_heads room)
unfolding heads
heads_is room ts = refl

pub heads_begin : (room : ℕ) (before : Ahead) (ts : Ahead) (x : Head) (h : ℕ) (found : List Head) → head room (nested_instrs room) before ≡ Ok (x, h, ts) → found ≡ x ∷ [] →
    more_heads room (nested_instrs room) (length ts.rest - 0) found h ts ≡ heads room (nested_instrs room) before
heads_begin room before ts x h found q e =
    ap (λ (f : ℕ). more_heads room (nested_instrs room) f found h ts) (turns_of ts) ∙ ap (λ (xs : List Head). more_heads room (nested_instrs room) (left ts) xs h ts) e
    ∙ sym (heads_is room before ∙ bind_ok _ _ (then_heads room) q)

abbrev pub next_heads : ℕ → ℕ → List Head → ℕ → Head × ℕ × Ahead → Read (List Head)
next_heads room f found high x = more_heads room (nested_instrs room) f (found ++ x.0 ∷ []) (max high x.1) x.2

module _ (room : ℕ) (n i : ℕ) (found : List Head) (high : ℕ) (ts : Ahead) where
  pub heads_end : n ≤ i → more_heads room (nested_instrs room) (n - i) found high ts ≡ Ok (found, high, ts)
  unfolding more_heads
  heads_end p = let z : n - i ≡ 0 = omega arith in ap (λ (f : ℕ). more_heads room (nested_instrs room) f found high ts) z

  pub heads_turn : i < n → more_heads room (nested_instrs room) (n - i) found high ts ≡ (if sees terminal.Comma ts then (head room (nested_instrs room) (past ts) >>= next_heads room (n - (i + 1)) found high) else Ok (found, high, ts))
  unfolding more_heads
  heads_turn p = let z : n - i ≡ suc (n - (i + 1)) = omega arith in ap (λ (f : ℕ). more_heads room (nested_instrs room) f found high ts) z

  pub heads_more : (b : Bool) (r : Ahead) (x : Head) (h : ℕ) (rest : Ahead) (xs : List Head) → i < n → b ≡ sees terminal.Comma ts → b ≡ true → r ≡ past ts → head room (nested_instrs room) r ≡ Ok (x, h, rest) →
      xs ≡ found ++ x ∷ [] → more_heads room (nested_instrs room) (n - (i + 1)) xs (max high h) rest ≡ more_heads room (nested_instrs room) (n - i) found high ts
  heads_more b r x h rest xs p q d w e u =
      ap (λ (xs : List Head). more_heads room (nested_instrs room) (n - (i + 1)) xs (max high h) rest) u
      ∙ sym (heads_turn p ∙ choose_true (sees terminal.Comma ts) _ _ (sym q ∙ d) ∙ ap (λ (r : Ahead). head room (nested_instrs room) r >>= next_heads room (n - (i + 1)) found high) (sym w) ∙ bind_ok _ _ (next_heads room (n - (i + 1)) found high) e)

  pub heads_none : (b : Bool) → i < n → b ≡ sees terminal.Comma ts → b ≡ false → more_heads room (nested_instrs room) (n - i) found high ts ≡ Ok (found, high, ts)
  heads_none b p q d = heads_turn p ∙ choose_false (sees terminal.Comma ts) _ _ (sym q ∙ d)

  pub heads_fail : (b : Bool) (r : Ahead) (e : ParseFault) → i < n → b ≡ sees terminal.Comma ts → b ≡ true → r ≡ past ts → Fails (head room (nested_instrs room) r) e →
      Fails (more_heads room (nested_instrs room) (n - i) found high ts) e
  heads_fail b r e p q d w f =
      Fails-along _ _ e (heads_turn p ∙ choose_true (sees terminal.Comma ts) _ _ (sym q ∙ d) ∙ ap (λ (r : Ahead). head room (nested_instrs room) r >>= next_heads room (n - (i + 1)) found high) (sym w))
      (Fails-bind (head room (nested_instrs room) r) (next_heads room (n - (i + 1)) found high) e f)
