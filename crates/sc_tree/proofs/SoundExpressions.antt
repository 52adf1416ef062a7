-- What reading gives, the tokens spell: expressions.
use Rattle.std.proofs.Common.{ap, nat_le, ◌≡◌, ℕ, ℤ, zero, suc, max, Bool, true, false, List, [], ◌∷◌, ◌++◌, length, Option, Some, None, Ok, refl, sym, ◌∙◌, subst, append-nil, arith}
use Rattle.std.specs.Prelude.{if◌then◌else◌}
use Rattle.sc_text.specs.Kind.{Kind, NAME, INTEGER, TERMINAL}
use Rattle.sc_text.specs.declared.token.Terminal.TheVariants as terminal
use Rattle.sc_tree.specs.declared.expression.UnaryOperator.{UnaryOperator}
use Rattle.sc_tree.specs.declared.expression.BinaryOperator.{BinaryOperator}
use Rattle.sc_tree.specs.Plain.{target, ObjectTest, Call, Name, no_exprs, no_target, expr_then, Exprs, Target, Expr, Binary}
use Rattle.sc_tree.specs.Bare.{nowhere, named}
use Rattle.sc_tree.specs.Grammar as grammar
use Rattle.sc_tree.specs.Grammar.{class_below, groups, top, prefix_of, spelling, IsPrimary, IsChain, IsActuals, IsExprs, IsExpr, IsTestedType}
use Rattle.sc_tree.specs.Internal.Reading.{Read, past, sees, integer_ahead, prefix_ahead, operator_ahead, past_operator, exprs_push, parenthesized, more_exprs, exprs, actuals, calling, chain_head, calls, chain, object_test, integer_or_chain, primary, prefixed, operand_by, operand, with_operator, operators, level, beyond, expr, nested}
use Rattle.sc_tree.proofs.ReadingSteps.{Holds, holds, nothing, holds_then, holds_if, holds_also, Spelled, through}
use Rattle.sc_tree.proofs.Looks.{sees_is, expect_holds, name_holds, first_name, integer_is, prefix_is, Ahead, ahead, ahead_is}
use Rattle.sc_tree.proofs.Lists.{exprs_joined, exprs_joined-push, exprs_joined-none, told}
use Rattle.sc_tree.proofs.SoundTypes.{sound_tested_type}

-- What is read is spelled by the tokens that it took.
abbrev pub Sound : {A : Type 0} → (A → List Kind → ℕ → Type 0) → List Kind → Read A → Type 0
Sound Is ts a = Holds (Spelled Is ts) a

-- the left operand so far
data Start (k : ℕ) (t : Expr) (c : List Kind) (h : ℕ) : Type 0 where
  first : IsExpr k t c h → Start k t c h
  later : groups k ≡ true → IsExpr (suc k) t c h → Start k t c h

started : {k : ℕ} {t : Expr} {c : List Kind} {h : ℕ} → Start k t c h → IsExpr (suc k) t c h
started (first d) = grammar.tighter d
started (later g d) = d

-- an operator's tree, whichever way its class groups
one_more : (op : BinaryOperator) (a b : Expr) (ca cb : List Kind) (ha hb : ℕ) → Start (class_below op) a ca ha → IsExpr (class_below op) b cb hb → (g : Bool) → groups (class_below op) ≡ g →
    IsExpr (suc (class_below op)) (Binary nowhere op a b) (ca ++ (spelling op ++ cb)) (suc (max ha hb))
one_more op a b ca cb ha hb s d true g = grammar.left op g (started s) d
one_more op a b ca cb ha hb (first e) d false g = grammar.alone op g e d
one_more op a b ca cb ha hb (later g' e) d false g = let q : true ≡ false = sym g' ∙ g in cc

one_more_at : (op : BinaryOperator) (k : ℕ) (a b : Expr) (ca cb : List Kind) (ha hb : ℕ) → class_below op ≡ k → Start k a ca ha → IsExpr k b cb hb → (g : Bool) → groups k ≡ g →
    IsExpr (suc k) (Binary nowhere op a b) (ca ++ (spelling op ++ cb)) (suc (max ha hb))
one_more_at op k a b ca cb ha hb u =
    subst (λ (k : ℕ). Start k a ca ha → IsExpr k b cb hb → (g : Bool) → groups k ≡ g → IsExpr (suc k) (Binary nowhere op a b) (ca ++ (spelling op ++ cb)) (suc (max ha hb))) u (one_more op a b ca cb ha hb)

-- expressions behind a first one, and their commas
record ExprsAfter (found : Exprs) (high : ℕ) (ts : List Kind) (x : Exprs × ℕ × List Kind) : Type 0 where
  pub more : Exprs
  pub tokens : List Kind
  pub nesting : ℕ
  pub same : ts ≡ tokens ++ x.2
  pub is : (t : Expr) (c : List Kind) (h : ℕ) → IsExpr top t c h → IsExprs (expr_then t more) (c ++ tokens) (max h nesting)
  pub joined : x.0 ≡ exprs_joined found more
  pub highest : x.1 ≡ max high nesting

first_alone : (t : Expr) (c : List Kind) (h : ℕ) → IsExpr top t c h → IsExprs (expr_then t no_exprs) (c ++ []) (max h 0)
first_alone t c h d =
    let w : h ≡ max h 0 = omega arith in
    subst (λ (h : ℕ). IsExprs (expr_then t no_exprs) (c ++ []) h) w (subst (λ (c : List Kind). IsExprs (expr_then t no_exprs) c h) (sym (append-nil c)) (grammar.one_expr d))

no_expr_after : (found : Exprs) (high : ℕ) (ts : List Kind) → ExprsAfter found high ts (found, high, ts)
no_expr_after found high ts = record { more = no_exprs; tokens = []; nesting = 0; same = refl; is = first_alone; joined = sym (exprs_joined-none found); highest = omega arith }

expr_after : (found : Exprs) (high : ℕ) (ts : List Kind) (x : Expr × ℕ × List Kind) (y : Exprs × ℕ × List Kind) → ts ≡ TERMINAL terminal.Comma ∷ past ts → Spelled (IsExpr top) (past ts) x → ExprsAfter (exprs_push found x.0) (max high x.1) x.2 y →
    ExprsAfter found high ts y
expr_after found high ts x y e s a =
    record {
      more = expr_then x.0 a.more;
      tokens = TERMINAL terminal.Comma ∷ (s.tokens ++ a.tokens);
      nesting = max x.1 a.nesting;
      same = through ts (TERMINAL terminal.Comma ∷ []) (past ts) (s.tokens ++ a.tokens) y.2 e (through (past ts) s.tokens x.2 a.tokens y.2 s.same a.same);
      is = λ t c h d. grammar.more_exprs d (a.is x.0 s.tokens x.1 s.is);
      joined = a.joined ∙ exprs_joined-push found x.0 a.more;
      highest = omega (arith, a.highest);
    }

exprs_begin : (ts : List Kind) (x : Expr × ℕ × List Kind) (y : Exprs × ℕ × List Kind) → Spelled (IsExpr top) ts x → ExprsAfter (expr_then x.0 no_exprs) x.1 x.2 y → Spelled IsExprs ts y
exprs_begin ts x y s a =
    record {
      tokens = s.tokens ++ a.tokens;
      same = through ts s.tokens x.2 a.tokens y.2 s.same a.same;
      is = told IsExprs _ _ _ _ _ (sym a.joined) (sym a.highest) (a.is x.0 s.tokens x.1 s.is);
    }

-- a call with this target
record Calling (t : Target) (ts : List Kind) (x : Expr × ℕ × List Kind) : Type 0 where
  pub name : List ℕ
  pub actuals : Exprs
  pub tokens : List Kind
  pub same : ts ≡ (NAME name ∷ tokens) ++ x.2
  pub is : IsActuals actuals tokens x.1
  pub built : x.0 ≡ Call nowhere t (named name) actuals

-- The function is sound that reads what stands one deeper.
module _ (inner : ℕ → List Kind → Read Expr) (S : (k : ℕ) (ts : List Kind) → Sound (IsExpr k) ts (inner k ts)) where
  sound_parenthesized : (ts r : List Kind) → ts ≡ TERMINAL terminal.OpenParenthesis ∷ r → Sound IsPrimary ts (parenthesized inner r)
  unfolding parenthesized
  sound_parenthesized ts r e =
      holds_then _ (S top r) λ x s. holds_then _ (expect_holds terminal.CloseParenthesis x.2) λ rest q.
      holds (record {
        tokens = TERMINAL terminal.OpenParenthesis ∷ (s.tokens ++ TERMINAL terminal.CloseParenthesis ∷ []);
        same = through ts (TERMINAL terminal.OpenParenthesis ∷ []) r _ rest e (through r s.tokens x.2 (TERMINAL terminal.CloseParenthesis ∷ []) rest s.same q);
        is = grammar.parenthesized s.is;
      })

  sound_more_exprs : (f : ℕ) (found : Exprs) (high : ℕ) (ts : List Kind) → Holds (ExprsAfter found high ts) (more_exprs inner f found high ts)
  unfolding more_exprs
  sound_more_exprs zero found high ts = holds (no_expr_after found high ts)
  sound_more_exprs (suc f) found high ts =
      holds_if (sees terminal.Comma ts) _ _
      (λ b. holds_then _ (S top (past ts)) λ x s. holds_also (sound_more_exprs f (exprs_push found x.0) (max high x.1) x.2) λ y a. expr_after found high ts x y (sees_is terminal.Comma ts b) s a)
      (λ _. holds (no_expr_after found high ts))

  sound_exprs : (ts : List Kind) → Sound IsExprs ts (exprs inner ts)
  unfolding exprs
  sound_exprs ts = holds_then _ (S top ts) λ x s. holds_also (sound_more_exprs (length x.2) (expr_then x.0 no_exprs) x.1 x.2) λ y a. exprs_begin ts x y s a

  pub sound_actuals : (ts : List Kind) → Sound IsActuals ts (actuals inner ts)
  unfolding actuals
  sound_actuals ts =
      holds_if (sees terminal.OpenParenthesis ts) _ _
      (λ b. holds_then _ (sound_exprs (past ts)) λ x s. holds_then _ (expect_holds terminal.CloseParenthesis x.2) λ rest q.
      holds (record {
        tokens = TERMINAL terminal.OpenParenthesis ∷ (s.tokens ++ TERMINAL terminal.CloseParenthesis ∷ []);
        same = through ts (TERMINAL terminal.OpenParenthesis ∷ []) (past ts) (s.tokens ++ TERMINAL terminal.CloseParenthesis ∷ []) rest (sees_is terminal.OpenParenthesis ts b) (through (past ts) s.tokens x.2 (TERMINAL terminal.CloseParenthesis ∷ []) rest s.same q);
        is = grammar.actuals s.is;
      }))
      (λ _. holds (record { tokens = []; same = refl; is = grammar.no_actuals }))

  sound_calling : (t : Target) (ts : List Kind) → Holds (Calling t ts) (calling inner t ts)
  unfolding calling
  sound_calling t ts =
      holds_then _ (name_holds ts) λ x n. holds_then _ (sound_actuals x.1) λ es s.
      let y = first_name ts x n in
      holds (record {
        name = y.0;
        actuals = es.0;
        tokens = s.tokens;
        same = through ts (NAME y.0 ∷ []) x.1 s.tokens es.2 y.1 s.same;
        is = s.is;
        built = ap (λ (n : Name). Call nowhere t n es.0) y.2;
      })

  sound_chain_head : (ts : List Kind) → Sound IsChain ts (chain_head inner ts)
  unfolding chain_head
  sound_chain_head ts =
      holds_if _ _ _ (λ e. holds (record { tokens = TERMINAL terminal.Current ∷ []; same = sees_is _ ts e; is = grammar.current })) λ _.
      holds_if _ _ _ (λ e. holds (record { tokens = TERMINAL terminal.Result ∷ []; same = sees_is _ ts e; is = grammar.result })) λ _.
      holds_also (sound_calling no_target ts) λ x c. record { tokens = NAME c.name ∷ c.tokens; same = c.same; is = told IsChain _ _ _ _ _ (sym c.built) refl (grammar.unqualified c.name c.is) }

  sound_calls : (room f : ℕ) (t : Expr) (h : ℕ) (ts0 c ts : List Kind) → ts0 ≡ c ++ ts → IsChain t c h → Sound IsChain ts0 (calls inner room f t h ts)
  unfolding calls
  sound_calls room zero t h ts0 c ts e d = holds (record { tokens = c; same = e; is = d })
  sound_calls room (suc f) t h ts0 c ts e d =
      holds_if (sees terminal.Dot ts) _ _
      (λ b. holds_if (nat_le room h) _ _ (λ _. nothing) λ _. holds_then _ (sound_calling (target t) (past ts)) λ x q.
      sound_calls room f x.0 (max (suc h) x.1) ts0 (c ++ TERMINAL terminal.Dot ∷ NAME q.name ∷ q.tokens) x.2
      (through ts0 c ts (TERMINAL terminal.Dot ∷ NAME q.name ∷ q.tokens) x.2 e (through ts (TERMINAL terminal.Dot ∷ []) (past ts) (NAME q.name ∷ q.tokens) x.2 (sees_is terminal.Dot ts b) q.same))
      (told IsChain _ _ _ _ _ (sym q.built) refl (grammar.qualified d q.name q.is)))
      (λ _. holds (record { tokens = c; same = e; is = d }))

  pub sound_chain : (room : ℕ) (ts : List Kind) → Sound IsChain ts (chain inner room ts)
  unfolding chain
  sound_chain room ts = holds_then _ (sound_chain_head ts) λ x s. sound_calls room (length x.2) x.0 x.1 ts s.tokens x.2 s.same s.is

  sound_object_test : (room : ℕ) (ts r : List Kind) → ts ≡ TERMINAL terminal.Attached ∷ r → Sound IsPrimary ts (object_test inner room r)
  unfolding object_test
  sound_object_test room ts r e =
      holds_then _ (sound_tested_type r) λ o so. holds_then _ (sound_chain room o.1) λ t st. holds_then _ (expect_holds terminal.As t.2) λ s q. holds_then _ (name_holds s) λ x n.
      let y = first_name s x n in
      holds (record {
        tokens = TERMINAL terminal.Attached ∷ (so.tokens ++ (st.tokens ++ TERMINAL terminal.As ∷ NAME y.0 ∷ []));
        same = through ts (TERMINAL terminal.Attached ∷ []) r (so.tokens ++ (st.tokens ++ TERMINAL terminal.As ∷ NAME y.0 ∷ [])) x.1 e
            (through r so.tokens o.1 (st.tokens ++ TERMINAL terminal.As ∷ NAME y.0 ∷ []) x.1 so.same
            (through o.1 st.tokens t.2 (TERMINAL terminal.As ∷ NAME y.0 ∷ []) x.1 st.same (q ∙ ap (λ (r : List Kind). TERMINAL terminal.As ∷ r) y.1)));
        is = told IsPrimary _ _ _ _ _ (ap (ObjectTest nowhere o.0 t.0) (sym y.2)) refl (grammar.object_test so.is st.is y.0);
      })

  sound_integer_or_chain : (room : ℕ) (ts : List Kind) (o : Option ℤ) → integer_ahead ts ≡ o → Sound IsPrimary ts (integer_or_chain inner room o ts)
  sound_integer_or_chain room ts None e = holds_also (sound_chain room ts) λ x s. record { tokens = s.tokens; same = s.same; is = grammar.chain s.is }
  sound_integer_or_chain room ts (Some n) e = holds (record { tokens = INTEGER n ∷ []; same = integer_is ts n e; is = grammar.integer n })

  sound_primary : (room : ℕ) (ts : List Kind) → Sound IsPrimary ts (primary inner room ts)
  unfolding primary
  sound_primary room ts =
      holds_if _ _ _ (λ e. holds (record { tokens = TERMINAL terminal.True ∷ []; same = sees_is _ ts e; is = grammar.true_constant })) λ _.
      holds_if _ _ _ (λ e. holds (record { tokens = TERMINAL terminal.False ∷ []; same = sees_is _ ts e; is = grammar.false_constant })) λ _.
      holds_if _ _ _ (λ e. holds (record { tokens = TERMINAL terminal.Void ∷ []; same = sees_is _ ts e; is = grammar.void })) λ _.
      holds_if _ _ _ (λ e. sound_parenthesized ts (past ts) (sees_is _ ts e)) λ _.
      holds_if _ _ _ (λ e. sound_object_test room ts (past ts) (sees_is _ ts e)) λ _. sound_integer_or_chain room ts (integer_ahead ts) refl

  sound_prefixed : (op : UnaryOperator) (ts r : List Kind) → ts ≡ TERMINAL (prefix_of op) ∷ r → Sound (IsExpr 0) ts (prefixed inner op r)
  unfolding prefixed
  sound_prefixed op ts r e =
      holds_then _ (S 0 r) λ x s.
      holds (record { tokens = TERMINAL (prefix_of op) ∷ s.tokens; same = through ts (TERMINAL (prefix_of op) ∷ []) r s.tokens x.2 e s.same; is = grammar.prefixed op s.is })

  sound_operand : (room : ℕ) (ts : List Kind) → Sound (IsExpr 0) ts (operand inner room ts)
  unfolding operand
  sound_operand room ts = go (prefix_ahead ts) refl
    where
      go : (o : Option UnaryOperator) → prefix_ahead ts ≡ o → Sound (IsExpr 0) ts (operand_by inner room o ts)
      go None e = holds_also (sound_primary room ts) λ x s. record { tokens = s.tokens; same = s.same; is = grammar.primary s.is }
      go (Some op) e = sound_prefixed op ts (past ts) (prefix_is ts op e)

  sound_with : (P : Expr × ℕ × List Kind → Type 0) (room k : ℕ) (next : Expr → ℕ → List Kind → Read Expr) (t : Expr) (h : ℕ) (ts : List Kind) (o : Option BinaryOperator) → P (t, h, ts) →
      ((op : BinaryOperator) → o ≡ Some op → (x : Expr × ℕ × List Kind) → Spelled (IsExpr k) (past_operator op ts) x →
      Holds P (if groups k then next (Binary nowhere op t x.0) (suc (max h x.1)) x.2 else Ok (Binary nowhere op t x.0, suc (max h x.1), x.2))) →
      Holds P (with_operator inner room k next t h ts o)
  sound_with P room k next t h ts None stays more = holds stays
  sound_with P room k next t h ts (Some op) stays more =
      holds_if _ _ _ (λ _. nothing) λ _. holds_then _ (S k (past_operator op ts)) (more op refl)

  sound_operators : (room k f : ℕ) (t : Expr) (h : ℕ) (ts0 c ts : List Kind) → ts0 ≡ c ++ ts → Start k t c h → Sound (IsExpr (suc k)) ts0 (operators inner room k f t h ts)
  unfolding operators
  sound_operators room k zero t h ts0 c ts e s = holds (record { tokens = c; same = e; is = started s })
  sound_operators room k (suc f) t h ts0 c ts e s =
      sound_with _ room k (operators inner room k f) t h ts (operator_ahead k ts) (record { tokens = c; same = e; is = started s }) λ op q x sx.
      holds_if (groups k) _ _
      (λ g. sound_operators room k f (Binary nowhere op t x.0) (suc (max h x.1)) ts0 (c ++ (spelling op ++ sx.tokens)) x.2 (added op x sx (ahead_is k ts op q)) (later g (tree op x sx (ahead_is k ts op q) true g)))
      (λ g. holds (record { tokens = c ++ (spelling op ++ sx.tokens); same = added op x sx (ahead_is k ts op q); is = tree op x sx (ahead_is k ts op q) false g }))
    where
      added : (op : BinaryOperator) (x : Expr × ℕ × List Kind) (sx : Spelled (IsExpr k) (past_operator op ts) x) → Ahead k ts op → ts0 ≡ (c ++ (spelling op ++ sx.tokens)) ++ x.2
      added op x sx (ahead u q) = through ts0 c ts (spelling op ++ sx.tokens) x.2 e (through ts (spelling op) (past_operator op ts) sx.tokens x.2 q sx.same)

      tree : (op : BinaryOperator) (x : Expr × ℕ × List Kind) (sx : Spelled (IsExpr k) (past_operator op ts) x) → Ahead k ts op → (g : Bool) → groups k ≡ g →
          IsExpr (suc k) (Binary nowhere op t x.0) (c ++ (spelling op ++ sx.tokens)) (suc (max h x.1))
      tree op x sx (ahead u q) g = one_more_at op k t x.0 c sx.tokens h x.1 u s sx.is g

  sound_level : (room k : ℕ) (ts : List Kind) → Sound (IsExpr k) ts (level inner room k ts)
  unfolding level
  sound_level room zero ts = sound_operand room ts
  sound_level room (suc k) ts = holds_then _ (sound_level room k ts) λ x s. sound_operators room k (length x.2) x.0 x.1 ts s.tokens x.2 s.same (first s.is)

sound_beyond : (k : ℕ) (ts : List Kind) → Sound (IsExpr k) ts (beyond k ts)
sound_beyond k ts = nothing

pub sound_expr : (n k : ℕ) (ts : List Kind) → Sound (IsExpr k) ts (expr n k ts)
unfolding expr
sound_expr zero k ts = sound_level beyond sound_beyond zero k ts
sound_expr (suc n) k ts = sound_level (expr n) (sound_expr n) (suc n) k ts

pub sound_nested : (n k : ℕ) (ts : List Kind) → Sound (IsExpr k) ts (nested n k ts)
unfolding nested
sound_nested zero k ts = sound_beyond k ts
sound_nested (suc n) k ts = sound_expr n k ts
