-- Each token of an expression has its depth, and the greatest of them is the expression's nesting.
use Rattle.sc_tree.proofs.Lists.{some_tokens}
use Rattle.std.proofs.Common.{◌≡◌, ℕ, suc, ◌≤◌, max, true, List, [], ◌∷◌, ◌++◌, length, refl, ap, sym, ◌∙◌, length-append, arith}
use Rattle.std.proofs.lemmas.List.{length-map}
use Rattle.sc_text.specs.Kind.{Kind}
use Rattle.sc_tree.specs.Plain.{Expr, Exprs}
use Rattle.sc_tree.specs.Grammar as grammar
use Rattle.sc_tree.specs.Grammar.{spelling, IsPrimary, IsChain, IsActuals, IsExprs, IsExpr}
use Rattle.sc_tree.specs.Internal.Reading.{begins_expr}
use Rattle.sc_tree.specs.Nesting.{inside, outside, greatest, primary_depths, chain_depths, actuals_depths, exprs_depths, expr_depths}
use Rattle.sc_tree.proofs.Follows.{chain_first, first_begins, expr_begins, exprs_begin}

-- ---- as many depths as tokens

abbrev pub Sized : List ℕ → List Kind → Type 0
Sized ns c = length ns ≡ length c

pub beside : (ns ms : List ℕ) (c d : List Kind) → Sized ns c → Sized ms d → Sized (ns ++ ms) (c ++ d)
beside ns ms c d e f = let p = length-append ns ms in let q = length-append c d in omega (arith, p, q, e, f)

own : (ns : List ℕ) (c : List Kind) (k : Kind) → Sized ns c → Sized (0 ∷ ns) (k ∷ c)
own ns c k e = ap suc e

pub within : (ns : List ℕ) (c : List Kind) → Sized ns c → Sized (inside ns) c
within ns c e = length-map ns suc ∙ e

pub apart : (c : List Kind) → Sized (outside c) c
apart c = length-map c (λ _. 0)

mutual
  unfolding primary_depths

  pub primary_sized : {t : Expr} {c : List Kind} {h : ℕ} (d : IsPrimary t c h) → Sized (primary_depths d) c
  primary_sized (grammar.integer n) = refl
  primary_sized grammar.true_constant = refl
  primary_sized grammar.false_constant = refl
  primary_sized grammar.void = refl
  primary_sized (grammar.parenthesized {t} {c} d) = ap suc (beside _ (0 ∷ []) c (_ ∷ []) (within _ c (expr_sized d)) refl)
  primary_sized (grammar.chain d) = chain_sized d
  primary_sized (grammar.object_test {co} {c} dt d x) = ap suc (beside (outside co) _ co _ (apart co) (beside _ (0 ∷ 0 ∷ []) c (_ ∷ _ ∷ []) (chain_sized d) refl))

  pub chain_sized : {t : Expr} {c : List Kind} {h : ℕ} (d : IsChain t c h) → Sized (chain_depths d) c
  chain_sized grammar.current = refl
  chain_sized grammar.result = refl
  chain_sized (grammar.unqualified x d) = ap suc (actuals_sized d)
  chain_sized (grammar.qualified {ct} d x da) = beside _ _ ct _ (within _ ct (chain_sized d)) (ap suc (ap suc (actuals_sized da)))

  pub actuals_sized : {es : Exprs} {c : List Kind} {h : ℕ} (d : IsActuals es c h) → Sized (actuals_depths d) c
  actuals_sized grammar.no_actuals = refl
  actuals_sized (grammar.actuals {es} {c} d) = ap suc (beside _ (0 ∷ []) c (_ ∷ []) (within _ c (exprs_sized d)) refl)

  pub exprs_sized : {es : Exprs} {c : List Kind} {h : ℕ} (d : IsExprs es c h) → Sized (exprs_depths d) c
  exprs_sized (grammar.one_expr d) = expr_sized d
  exprs_sized (grammar.more_exprs {c} {cs} d ds) = beside _ _ c _ (expr_sized d) (ap suc (exprs_sized ds))

  pub expr_sized : {k : ℕ} {t : Expr} {c : List Kind} {h : ℕ} (d : IsExpr k t c h) → Sized (expr_depths d) c
  expr_sized (grammar.primary d) = primary_sized d
  expr_sized (grammar.prefixed op {t} {c} d) = ap suc (within _ c (expr_sized d))
  expr_sized (grammar.tighter d) = expr_sized d
  expr_sized (grammar.left op g {a} {b} {ca} {cb} d e) = beside _ _ ca (spelling op ++ cb) (within _ ca (expr_sized d)) (beside _ _ (spelling op) cb (apart (spelling op)) (within _ cb (expr_sized e)))
  expr_sized (grammar.alone op g {a} {b} {ca} {cb} d e) = beside _ _ ca (spelling op ++ cb) (within _ ca (expr_sized d)) (beside _ _ (spelling op) cb (apart (spelling op)) (within _ cb (expr_sized e)))

-- ---- the greatest depth

pub greatest-append : (ns ms : List ℕ) → greatest (ns ++ ms) ≡ max (greatest ns) (greatest ms)
greatest-append [] ms = omega arith
greatest-append (n ∷ ns) ms = let e = greatest-append ns ms in omega (arith, e)

pub greatest-outside : (c : List Kind) → greatest (outside c) ≡ 0
greatest-outside [] = refl
greatest-outside (k ∷ c) = let e = greatest-outside c in omega (arith, e)

-- what a construct holds beside something else
pub greatest-inside : (n : ℕ) (ns : List ℕ) → max (suc n) (greatest (inside ns)) ≡ suc (max n (greatest ns))
greatest-inside n [] = omega arith
greatest-inside n (m ∷ ns) = let e = greatest-inside n ns in omega (arith, e)

pub greatest-inside_some : (ns : List ℕ) → 1 ≤ length ns → greatest (inside ns) ≡ suc (greatest ns)
greatest-inside_some [] l = absurd (omega arith)
greatest-inside_some (n ∷ ns) l = let e = greatest-inside n ns in omega (arith, e)

-- where there are tokens, they stand one deeper in a construct
held_some : (ns : List ℕ) (c : List Kind) (h : ℕ) → Sized ns c → begins_expr (c ++ []) ≡ true → h ≡ greatest ns → greatest (inside ns) ≡ suc h
held_some ns c h s b e =
    let l : 1 ≤ length c = some_tokens begins_expr c refl b in
    greatest-inside_some ns (omega (arith, l, s)) ∙ ap suc (sym e)

pub held : {k : ℕ} {t : Expr} {c : List Kind} {h : ℕ} (d : IsExpr k t c h) → h ≡ greatest (expr_depths d) → greatest (inside (expr_depths d)) ≡ suc h
held {k} {t} {c} {h} d e = held_some (expr_depths d) c h (expr_sized d) (expr_begins d []) e

held_chain : {t : Expr} {c : List Kind} {h : ℕ} (d : IsChain t c h) → h ≡ greatest (chain_depths d) → greatest (inside (chain_depths d)) ≡ suc h
held_chain {t} {c} {h} d e = held_some (chain_depths d) c h (chain_sized d) (first_begins (c ++ []) (chain_first d [])) e

held_exprs : {es : Exprs} {c : List Kind} {h : ℕ} (d : IsExprs es c h) → h ≡ greatest (exprs_depths d) → greatest (inside (exprs_depths d)) ≡ suc h
held_exprs {es} {c} {h} d e = held_some (exprs_depths d) c h (exprs_sized d) (exprs_begin d []) e

joined_depths : (ns ms : List ℕ) (c : List Kind) (a b : ℕ) → greatest ns ≡ suc a → greatest ms ≡ suc b → suc (max a b) ≡ greatest (ns ++ (outside c ++ ms))
joined_depths ns ms c a b e f =
    let p = greatest-append ns (outside c ++ ms) in
    let q = greatest-append (outside c) ms in
    let o = greatest-outside c in
    omega (arith, p, q, o, e, f)

-- `( .. )`
pub closed_depths : (ns : List ℕ) (a : ℕ) → greatest ns ≡ suc a → suc a ≡ greatest (0 ∷ (ns ++ 0 ∷ []))
closed_depths ns a e = let p = greatest-append ns (0 ∷ []) in omega (arith, p, e)

pub side_by_side : (ns ms : List ℕ) (a b : ℕ) → a ≡ greatest ns → b ≡ greatest ms → max a b ≡ greatest (ns ++ ms)
side_by_side ns ms a b e f = let p = greatest-append ns ms in omega (arith, p, e, f)

pub own_first : (ns : List ℕ) (h : ℕ) → h ≡ greatest ns → h ≡ greatest (0 ∷ ns)
own_first ns h e = omega (arith, e)

pub own_last : (ns : List ℕ) (h : ℕ) → h ≡ greatest ns → h ≡ greatest (ns ++ 0 ∷ [])
own_last ns h e = let p = greatest-append ns (0 ∷ []) in omega (arith, p, e)

-- tokens with nothing around them change no greatest depth
pub outside_first : (c : List Kind) (ns : List ℕ) (h : ℕ) → h ≡ greatest ns → h ≡ greatest (outside c ++ ns)
outside_first c ns h e = let p = greatest-append (outside c) ns in let q = greatest-outside c in omega (arith, p, q, e)

-- `a, b`
pub listed_depths : (ns ms : List ℕ) (a b : ℕ) → a ≡ greatest ns → b ≡ greatest ms → max a b ≡ greatest (ns ++ 0 ∷ ms)
listed_depths ns ms a b e f = side_by_side ns (0 ∷ ms) a b e (own_first ms b f)

-- `a.x ..`
dotted_depths : (ns ms : List ℕ) (a b : ℕ) → greatest ns ≡ suc a → b ≡ greatest ms → max (suc a) b ≡ greatest (ns ++ 0 ∷ 0 ∷ ms)
dotted_depths ns ms a b e f = side_by_side ns (0 ∷ 0 ∷ ms) (suc a) b (sym e) (own_first (0 ∷ ms) b (own_first ms b f))

-- `a as x`
pub named_depths : (ns : List ℕ) (a : ℕ) → a ≡ greatest ns → a ≡ greatest (ns ++ 0 ∷ 0 ∷ [])
named_depths ns a e = let p = greatest-append ns (0 ∷ 0 ∷ []) in omega (arith, p, e)

mutual
  unfolding primary_depths

  pub primary_greatest : {t : Expr} {c : List Kind} {h : ℕ} (d : IsPrimary t c h) → h ≡ greatest (primary_depths d)
  primary_greatest (grammar.integer n) = refl
  primary_greatest grammar.true_constant = refl
  primary_greatest grammar.false_constant = refl
  primary_greatest grammar.void = refl
  primary_greatest (grammar.parenthesized {t} {c} {h} d) = closed_depths _ h (held d (expr_greatest d))
  primary_greatest (grammar.chain d) = chain_greatest d
  primary_greatest (grammar.object_test {co} {h} dt d x) =
      own_first (outside co ++ (chain_depths d ++ 0 ∷ 0 ∷ [])) h (outside_first co (chain_depths d ++ 0 ∷ 0 ∷ []) h (named_depths (chain_depths d) h (chain_greatest d)))

  pub chain_greatest : {t : Expr} {c : List Kind} {h : ℕ} (d : IsChain t c h) → h ≡ greatest (chain_depths d)
  chain_greatest grammar.current = refl
  chain_greatest grammar.result = refl
  chain_greatest (grammar.unqualified x {h} d) = own_first (actuals_depths d) h (actuals_greatest d)
  chain_greatest (grammar.qualified {ht} d x {h} da) = dotted_depths _ (actuals_depths da) ht h (held_chain d (chain_greatest d)) (actuals_greatest da)

  pub actuals_greatest : {es : Exprs} {c : List Kind} {h : ℕ} (d : IsActuals es c h) → h ≡ greatest (actuals_depths d)
  actuals_greatest grammar.no_actuals = refl
  actuals_greatest (grammar.actuals {es} {c} {h} d) = closed_depths _ h (held_exprs d (exprs_greatest d))

  pub exprs_greatest : {es : Exprs} {c : List Kind} {h : ℕ} (d : IsExprs es c h) → h ≡ greatest (exprs_depths d)
  exprs_greatest (grammar.one_expr d) = expr_greatest d
  exprs_greatest (grammar.more_exprs {h} {hs} d ds) = listed_depths (expr_depths d) (exprs_depths ds) h hs (expr_greatest d) (exprs_greatest ds)

  pub expr_greatest : {k : ℕ} {t : Expr} {c : List Kind} {h : ℕ} (d : IsExpr k t c h) → h ≡ greatest (expr_depths d)
  expr_greatest (grammar.primary d) = primary_greatest d
  expr_greatest (grammar.prefixed op {t} {c} {h} d) = let e = held d (expr_greatest d) in omega (arith, e)
  expr_greatest (grammar.tighter d) = expr_greatest d
  expr_greatest (grammar.left op g {a} {b} {ca} {cb} {ha} {hb} d e) = joined_depths _ _ (spelling op) ha hb (held d (expr_greatest d)) (held e (expr_greatest e))
  expr_greatest (grammar.alone op g {a} {b} {ca} {cb} {ha} {hb} d e) = joined_depths _ _ (spelling op) ha hb (held d (expr_greatest d)) (held e (expr_greatest e))
