-- Reading gives each tree that tokens spell, where what follows doesn't go on with it: assertions.
use Rattle.std.proofs.Common.{◌≡◌, ℕ, zero, suc, ◌≤◌, max, true, false, List, [], ◌∷◌, ◌++◌, length, Option, Some, None, Ok, refl, ap, sym, ◌∙◌, subst, append_assoc, append-nil, length-append, arith}
use Rattle.sc_text.specs.Kind.{Kind, NAME, INTEGER, STRING, TERMINAL}
use Rattle.sc_text.specs.declared.token.Terminal.{Terminal}
use Rattle.sc_text.specs.declared.token.Terminal.TheVariants as terminal
use Rattle.sc_tree.specs.Plain.{Name, Expr, Exprs, Clause}
use Rattle.sc_tree.specs.Bare.{named}
use Rattle.sc_tree.specs.Grammar as grammar
use Rattle.sc_tree.specs.Grammar.{top, prefix_of, spelling, goes_on, IsPrimary, IsChain, IsActuals, IsExpr, IsClause, IsClauses, IsAssertion}
use Rattle.sc_tree.specs.Internal.Reading.{Read, ◌>>=◌, same_terminal, sees, skip_semicolons, begins_expr, begins_expr_by, tag_ahead, past_tag, expr, clause, clauses_from, clauses, assertion, nested_clauses}
use Rattle.sc_tree.proofs.ReadingSteps.{Comes, fits, deep, lastly, along, needs, grown, where_true, where_false, choose_true, choose_false}
use Rattle.sc_tree.proofs.Looks.{sees_self, no_second}
use Rattle.sc_tree.proofs.Lists.{some_tokens, skip_one, skip_none, skip_shorter}
use Rattle.sc_tree.proofs.Follows.{connects, operator_unseen, Apart, apart_sees, apart_goes_on, begins_apart, expr_begins}
use Rattle.sc_tree.proofs.CompleteExpressions.{complete_expr}

actuals_no_colon : {es : Exprs} {c : List Kind} {h : ℕ} → IsActuals es c h → (r : List Kind) → sees terminal.Colon r ≡ false → sees terminal.Colon (c ++ r) ≡ false
unfolding same_terminal
actuals_no_colon grammar.no_actuals r e = e
actuals_no_colon (grammar.actuals d) r e = refl

dot_no_colon : (r : List Kind) → sees terminal.Colon (TERMINAL terminal.Dot ∷ r) ≡ false
unfolding same_terminal
dot_no_colon r = refl

chain_untagged : {t : Expr} {c : List Kind} {h : ℕ} → IsChain t c h → (r : List Kind) → sees terminal.Colon r ≡ false → tag_ahead (c ++ r) ≡ None
chain_untagged grammar.current r e = refl
chain_untagged grammar.result r e = refl
chain_untagged (grammar.unqualified x {es} {c} d) r e = choose_false _ _ _ (actuals_no_colon d r e)
chain_untagged (grammar.qualified {t} {ct} d x {es} {c} da) r e =
    rw (append_assoc ct (TERMINAL terminal.Dot ∷ NAME x ∷ c) r) (chain_untagged d ((TERMINAL terminal.Dot ∷ NAME x ∷ c) ++ r) (dot_no_colon (NAME x ∷ (c ++ r))))

primary_untagged : {t : Expr} {c : List Kind} {h : ℕ} → IsPrimary t c h → (r : List Kind) → sees terminal.Colon r ≡ false → tag_ahead (c ++ r) ≡ None
primary_untagged (grammar.integer n) r e = refl
primary_untagged grammar.true_constant r e = refl
primary_untagged grammar.false_constant r e = refl
primary_untagged grammar.void r e = refl
primary_untagged (grammar.parenthesized d) r e = refl
primary_untagged (grammar.chain d) r e = chain_untagged d r e
primary_untagged (grammar.object_test dt d x) r e = refl

-- An expression doesn't look like a tag.
expr_untagged : {k : ℕ} {t : Expr} {c : List Kind} {h : ℕ} → IsExpr k t c h → (r : List Kind) → sees terminal.Colon r ≡ false → tag_ahead (c ++ r) ≡ None
expr_untagged (grammar.primary d) r e = primary_untagged d r e
expr_untagged (grammar.prefixed op d) r e = refl
expr_untagged (grammar.tighter d) r e = expr_untagged d r e
expr_untagged (grammar.left op g {a} {b} {ca} {cb} da db) r e =
    rw (append_assoc ca (spelling op ++ cb) r) (expr_untagged da ((spelling op ++ cb) ++ r) (ap (sees terminal.Colon) (append_assoc (spelling op) cb r) ∙ operator_unseen terminal.Colon op (cb ++ r) refl))
expr_untagged (grammar.alone op g {a} {b} {ca} {cb} da db) r e =
    rw (append_assoc ca (spelling op ++ cb) r) (expr_untagged da ((spelling op ++ cb) ++ r) (ap (sees terminal.Colon) (append_assoc (spelling op) cb r) ∙ operator_unseen terminal.Colon op (cb ++ r) refl))

-- a clause, where its tag is known
abbrev clause_with : ℕ → List Kind → Option Name → Read Clause
clause_with n ts o = expr n top (past_tag o ts) >>= λ t. Ok (record { tag = o; condition = t.0 }, t.1, t.2)

complete_clause : {x : Clause} {c : List Kind} {h : ℕ} → IsClause x c h → (r : List Kind) → Apart r → (n : ℕ) → Comes n h (x, h, r) (clause n (c ++ r))
unfolding clause
complete_clause (grammar.untagged {t} {c} {h} d) r a n =
    along n h h (record { tag = None; condition = t }, h, r) _ _ _ refl refl (ap (clause_with n (c ++ r)) (expr_untagged d r (apart_sees terminal.Colon r refl a))) (lastly n h (t, h, r) _ _ _ (complete_expr d r a n) refl)
complete_clause (grammar.tagged x {t} {c} {h} d) r a n =
    along n h h (record { tag = Some (named x); condition = t }, h, r) _ _ _ refl refl (ap (clause_with n (NAME x ∷ TERMINAL terminal.Colon ∷ (c ++ r))) (tag_seen (c ++ r))) (lastly n h (t, h, r) _ _ _ (complete_expr d r a n) refl)
  where
    tag_seen : (r : List Kind) → tag_ahead (NAME x ∷ TERMINAL terminal.Colon ∷ r) ≡ Some (named x)
    tag_seen r = choose_true _ _ _ (sees_self terminal.Colon r)

pub clause_begins : {x : Clause} {c : List Kind} {h : ℕ} → IsClause x c h → (r : List Kind) → begins_expr (c ++ r) ≡ true
clause_begins (grammar.untagged d) r = expr_begins d r
clause_begins (grammar.tagged x d) r = refl

pub clause_long : {x : Clause} {c : List Kind} {h : ℕ} → IsClause x c h → 1 ≤ length c
clause_long {x} {c} d = some_tokens begins_expr c refl (clause_begins d [])

-- No clause begins here, and nothing goes on with one.
pub record ClausesEnd (r : List Kind) : Type 0 where
  pub begins : begins_expr r ≡ false
  pub semicolon : sees terminal.Semicolon r ≡ false
  pub apart : Apart r

goes_on_after : (c r : List Kind) → begins_expr c ≡ true → goes_on c ≡ false → goes_on (c ++ r) ≡ false
goes_on_after [] r b e = cc
goes_on_after (NAME x ∷ c) r b e = e
goes_on_after (INTEGER n ∷ c) r b e = e
goes_on_after (STRING s ∷ c) r b e = e
goes_on_after (TERMINAL m ∷ c) r b e = e

clauses_apart : {xs : List Clause} {c : List Kind} {h : ℕ} → IsClauses xs c h → goes_on c ≡ false → (r : List Kind) → Apart r → Apart (c ++ r)
clauses_apart grammar.no_clause g r a = a
clauses_apart (grammar.semicolon_clauses d) g r a = refl
clauses_apart (grammar.clause {x} {xs} {c} {cs} d g' ds) g r a =
    begins_apart ((c ++ cs) ++ r) (rw (append_assoc c cs r) (clause_begins d (cs ++ r))) (goes_on_after (c ++ cs) r (clause_begins d cs) g)

ClausesRead : List Clause → List Kind → ℕ → Type 0
ClausesRead xs c h = (r : List Kind) → ClausesEnd r → (n f : ℕ) (found : List Clause) (high : ℕ) → length (skip_semicolons (c ++ r)) ≤ f → high ≤ n →
    Comes n h (found ++ xs, max high h, r) (clauses_from n f found high (skip_semicolons (c ++ r)))

clauses_stay : (n f : ℕ) (found : List Clause) (high : ℕ) (r : List Kind) → begins_expr r ≡ false → clauses_from n f found high r ≡ Ok (found, high, r)
unfolding clauses_from
clauses_stay n zero found high r e = refl
clauses_stay n (suc f) found high r e = choose_false _ _ _ e

no_clause_step : ClausesRead [] [] 0
unfolding ClausesRead
no_clause_step r e n f found high len l =
    let w : high ≡ max high 0 = omega arith in
    fits (omega arith) (ap (clauses_from n f found high) (skip_none r e.semicolon) ∙ clauses_stay n f found high r e.begins ∙ ap (λ (s : List Clause). Ok (s, high, r)) (sym (append-nil found)) ∙ ap (λ (m : ℕ). Ok (found ++ [], m, r)) w)

semicolon_step : (xs : List Clause) (c : List Kind) (h : ℕ) → ClausesRead xs c h → ClausesRead xs (TERMINAL terminal.Semicolon ∷ c) h
unfolding ClausesRead
semicolon_step xs c h all r e n f found high len l =
    rw (skip_one (c ++ r)) (all r e n f found high (subst (λ (ts : List Kind). length ts ≤ f) (skip_one (c ++ r)) len) l)

-- one clause, and the rest of them
clause_step : (n f : ℕ) (found : List Clause) (high h hs : ℕ) (x : Clause) (xs : List Clause) (ts r' r : List Kind) → begins_expr ts ≡ true → Apart r' → high ≤ n → Comes n h (x, h, r') (clause n ts) →
    (max high h ≤ n → Comes n hs ((found ++ x ∷ []) ++ xs, max (max high h) hs, r) (clauses_from n f (found ++ x ∷ []) (max high h) (skip_semicolons r'))) →
    Comes n (max h hs) (found ++ x ∷ xs, max high (max h hs), r) (clauses_from n (suc f) found high ts)
unfolding clauses_from
clause_step n f found high h hs x xs ts r' r b a l d more =
    grown n high h h hs hs (max h hs) x _ _ r' r _ _ _ (choose_true _ _ _ b) (append_assoc found (x ∷ []) xs) refl d (λ p. where_false _ _ _ _ _ _ (apart_goes_on r' a) (more (omega arith)))

clause_at : (n h hs : ℕ) (x : Clause) (xs : List Clause) (c cs r : List Kind) → begins_expr (c ++ (cs ++ r)) ≡ true → Apart (cs ++ r) → 1 ≤ length c → Comes n h (x, h, cs ++ r) (clause n (c ++ (cs ++ r))) →
    ((f : ℕ) (found : List Clause) (high : ℕ) → length (skip_semicolons (cs ++ r)) ≤ f → high ≤ n → Comes n hs (found ++ xs, max high hs, r) (clauses_from n f found high (skip_semicolons (cs ++ r)))) →
    (f : ℕ) (found : List Clause) (high : ℕ) → length (c ++ (cs ++ r)) ≤ f → high ≤ n → Comes n (max h hs) (found ++ x ∷ xs, max high (max h hs), r) (clauses_from n f found high (c ++ (cs ++ r)))
clause_at n h hs x xs c cs r b a k d more zero found high len l = let e = length-append c (cs ++ r) in absurd (omega arith)
clause_at n h hs x xs c cs r b a k d more (suc f) found high len l =
    let e = length-append c (cs ++ r) in
    let s = skip_shorter (cs ++ r) in
    clause_step n f found high h hs x xs _ (cs ++ r) r b a l d (λ m. more f (found ++ x ∷ []) (max high h) (omega arith) m)

some_clause_step : (h hs : ℕ) (x : Clause) (xs : List Clause) (c cs : List Kind) → IsClause x c h → goes_on cs ≡ false → IsClauses xs cs hs → ClausesRead xs cs hs → ClausesRead (x ∷ xs) (c ++ cs) (max h hs)
unfolding ClausesRead
some_clause_step h hs x xs c cs d g ds more r e n f found high len l =
    rw same (clause_at n h hs x xs c cs r (clause_begins d (cs ++ r)) (clauses_apart ds g r e.apart) (clause_long d) (complete_clause d (cs ++ r) (clauses_apart ds g r e.apart) n) (more r e n) f found high
    (subst (λ (ts : List Kind). length ts ≤ f) same len) l)
  where
    same : skip_semicolons ((c ++ cs) ++ r) ≡ c ++ (cs ++ r)
    same = ap skip_semicolons (append_assoc c cs r) ∙ skip_none (c ++ (cs ++ r)) (no_second terminal.Semicolon (c ++ (cs ++ r)) (clause_begins d (cs ++ r)) refl)

complete_clauses_from : {xs : List Clause} {c : List Kind} {h : ℕ} → IsClauses xs c h → ClausesRead xs c h
complete_clauses_from grammar.no_clause = no_clause_step
complete_clauses_from (grammar.semicolon_clauses {xs} {c} {h} d) = semicolon_step xs c h (complete_clauses_from d)
complete_clauses_from (grammar.clause {x} {xs} {c} {cs} {h} {hs} d g ds) = some_clause_step h hs x xs c cs d g ds (complete_clauses_from ds)

pub complete_clauses : {xs : List Clause} {c : List Kind} {h : ℕ} → IsClauses xs c h → (r : List Kind) → ClausesEnd r → (n : ℕ) → Comes n h (xs, h, r) (clauses n (c ++ r))
unfolding clauses ClausesRead
complete_clauses {xs} {c} {h} d r e n =
    let w : max 0 h ≡ h = omega arith in
    needs n h h (max 0 h) h xs r _ refl w (complete_clauses_from d r e n (length (skip_semicolons (c ++ r))) [] 0 (omega arith) (omega arith))

pub clauses_end_by : (m : Terminal) (r : List Kind) → begins_expr_by m ≡ false → same_terminal m terminal.Semicolon ≡ false → connects m ≡ false → ClausesEnd (TERMINAL m ∷ r)
clauses_end_by m r b s c = record { begins = b; semicolon = s; apart = c }

-- what stands under `require`, `ensure` or `invariant`
pub complete_assertion : {m : Terminal} {xs : List Clause} {c : List Kind} {h : ℕ} → IsAssertion m xs c h → (r : List Kind) → ClausesEnd r → sees m r ≡ false → (n : ℕ) → Comes n h (xs, h, r) (assertion n m (c ++ r))
unfolding assertion
complete_assertion grammar.no_assertion r e s n = fits (omega arith) (choose_false _ _ _ s)
complete_assertion {m} (grammar.assertion {xs} {c} {h} d) r e s n = where_true _ _ _ _ _ _ (sees_self m (c ++ r)) (complete_clauses d r e n)

pub complete_nested_clauses : {xs : List Clause} {c : List Kind} {h : ℕ} → IsClauses xs c h → (r : List Kind) → ClausesEnd r → (n : ℕ) → Comes n (suc h) (xs, h, r) (nested_clauses n (c ++ r))
unfolding nested_clauses
complete_nested_clauses d r e zero = deep (omega arith) refl
complete_nested_clauses {xs} {c} {h} d r e (suc n) = go (complete_clauses d r e n)
  where
    go : Comes n h (xs, h, r) (clauses n (c ++ r)) → Comes (suc n) (suc h) (xs, h, r) (clauses n (c ++ r))
    go (fits p q) = fits (omega arith) q
    go (deep p q) = deep (omega arith) q
