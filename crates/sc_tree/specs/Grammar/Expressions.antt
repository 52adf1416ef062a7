-- Expressions (ECMA-367, 8.23, 8.24 and 8.28).
use Rattle.std.specs.Prelude.{◌≡◌, ℕ, ℤ, suc, max, true, false, List, [], ◌∷◌, ◌++◌, Option}
use Rattle.sc_text.specs.Kind.{Kind, NAME, INTEGER, TERMINAL}
use Rattle.sc_text.specs.declared.token.Terminal.TheVariants as terminal
use Rattle.sc_tree.specs.declared.expression.UnaryOperator.{UnaryOperator}
use Rattle.sc_tree.specs.declared.expression.BinaryOperator.{BinaryOperator}
use Rattle.sc_tree.specs.Plain as plain
use Rattle.sc_tree.specs.Plain.{DeclaredType, Expr, Integer, Boolean, Void, Current, Call, Unary, Binary, ObjectTest, Target, no_target, target, Exprs, no_exprs, expr_then}
use Rattle.sc_tree.specs.Bare.{nowhere, named}
use Rattle.sc_tree.specs.Grammar.Operators.{top, class_below, groups, prefix_of, spelling}
use Rattle.sc_tree.specs.Grammar.Types.{IsTestedType}

mutual
  pub data IsPrimary : Expr → List Kind → ℕ → Type 0 where
    integer : (n : ℤ) → IsPrimary (Integer nowhere n) (INTEGER n ∷ []) 0
    true_constant : IsPrimary (Boolean nowhere true) (TERMINAL terminal.True ∷ []) 0
    false_constant : IsPrimary (Boolean nowhere false) (TERMINAL terminal.False ∷ []) 0
    void : IsPrimary (Void nowhere) (TERMINAL terminal.Void ∷ []) 0
    parenthesized : {t : Expr} {c : List Kind} {h : ℕ} →
        IsExpr top t c h →
        IsPrimary t (TERMINAL terminal.OpenParenthesis ∷ (c ++ TERMINAL terminal.CloseParenthesis ∷ [])) (suc h)
    chain : {t : Expr} {c : List Kind} {h : ℕ} → IsChain t c h → IsPrimary t c h
    object_test : {o : Option DeclaredType} {t : Expr} {co c : List Kind} {h : ℕ} →
        IsTestedType o co → IsChain t c h → (x : List ℕ) →
        IsPrimary (ObjectTest nowhere o t (named x))
        (TERMINAL terminal.Attached ∷ (co ++ (c ++ TERMINAL terminal.As ∷ NAME x ∷ []))) h

  -- a name with actuals, `Current` or `Result`, and a call for each dot after it
  pub data IsChain : Expr → List Kind → ℕ → Type 0 where
    current : IsChain (Current nowhere) (TERMINAL terminal.Current ∷ []) 0
    result : IsChain (plain.Result nowhere) (TERMINAL terminal.Result ∷ []) 0
    unqualified : (x : List ℕ) {es : Exprs} {c : List Kind} {h : ℕ} → IsActuals es c h →
        IsChain (Call nowhere no_target (named x) es) (NAME x ∷ c) h
    qualified : {t : Expr} {ct : List Kind} {ht : ℕ} → IsChain t ct ht →
        (x : List ℕ) {es : Exprs} {c : List Kind} {h : ℕ} → IsActuals es c h →
        IsChain (Call nowhere (target t) (named x) es) (ct ++ TERMINAL terminal.Dot ∷ NAME x ∷ c) (max (suc ht) h)

  pub data IsActuals : Exprs → List Kind → ℕ → Type 0 where
    no_actuals : IsActuals no_exprs [] 0
    actuals : {es : Exprs} {c : List Kind} {h : ℕ} →
        IsExprs es c h →
        IsActuals es (TERMINAL terminal.OpenParenthesis ∷ (c ++ TERMINAL terminal.CloseParenthesis ∷ [])) (suc h)

  -- at least one expression
  pub data IsExprs : Exprs → List Kind → ℕ → Type 0 where
    one_expr : {t : Expr} {c : List Kind} {h : ℕ} → IsExpr top t c h → IsExprs (expr_then t no_exprs) c h
    more_exprs : {t : Expr} {es : Exprs} {c cs : List Kind} {h hs : ℕ} →
        IsExpr top t c h → IsExprs es cs hs → IsExprs (expr_then t es) (c ++ TERMINAL terminal.Comma ∷ cs) (max h hs)

  -- The tokens spell the tree as an expression of the class.
  pub data IsExpr : ℕ → Expr → List Kind → ℕ → Type 0 where
    primary : {t : Expr} {c : List Kind} {h : ℕ} → IsPrimary t c h → IsExpr 0 t c h
    prefixed : (op : UnaryOperator) {t : Expr} {c : List Kind} {h : ℕ} →
        IsExpr 0 t c h → IsExpr 0 (Unary nowhere op t) (TERMINAL (prefix_of op) ∷ c) (suc h)
    tighter : {k : ℕ} {t : Expr} {c : List Kind} {h : ℕ} → IsExpr k t c h → IsExpr (suc k) t c h
    left : (op : BinaryOperator) → groups (class_below op) ≡ true → {a b : Expr} {ca cb : List Kind} {ha hb : ℕ} →
        IsExpr (suc (class_below op)) a ca ha → IsExpr (class_below op) b cb hb →
        IsExpr (suc (class_below op)) (Binary nowhere op a b) (ca ++ (spelling op ++ cb)) (suc (max ha hb))
    alone : (op : BinaryOperator) → groups (class_below op) ≡ false → {a b : Expr} {ca cb : List Kind} {ha hb : ℕ} →
        IsExpr (class_below op) a ca ha → IsExpr (class_below op) b cb hb →
        IsExpr (suc (class_below op)) (Binary nowhere op a b) (ca ++ (spelling op ++ cb)) (suc (max ha hb))
