-- The canonical tokens of clauses and instructions spell them.
use Rattle.std.proofs.Common.{◌≡◌, ℕ, suc, ◌+◌, ◌≤◌, max, Bool, true, false, List, [], ◌∷◌, ◌++◌, None, Some, refl, ap, ◌∙◌, arith, append-nil, append_assoc}
use Rattle.sc_text.specs.Kind.{Kind, NAME, TERMINAL}
use Rattle.sc_text.specs.declared.token.Terminal.{Terminal}
use Rattle.sc_text.specs.declared.token.Terminal.TheVariants as terminal
use Rattle.sc_text.specs.declared.token.Span.{Span}
use Rattle.sc_tree.specs.Plain.{Name, Expr, Call, Target, Exprs, Variable, Clause, Head, Instr, Assign, CallRoutine, Create, If, Loop, Check, Block, Instrs, no_instrs, instr_then, Branches, branch_then}
use Rattle.sc_tree.specs.Bare.{nowhere, named}
use Rattle.sc_tree.specs.Grammar.{top, around, IsPrimary, parenthesized, chain, object_test, integer, true_constant, false_constant, void, IsChain, current, result, unqualified, qualified, IsActuals, IsExpr, primary, prefixed, tighter, left, alone, IsClause, untagged, tagged, IsClauses, no_clause, semicolon_clauses, clause, IsAssertion, no_assertion, assertion, IsVariable, named_variable, result_variable, IsHead, head, IsHeads, one_head, more_heads, IsInstr, assign, print_text, call, create, create_by, conditional, loop, check, block, IsInstrs, no_instr, semicolon_instrs, instr, IsBranches, no_branch, branch, IsElse, no_else, otherwise}
use Rattle.sc_tree.specs.Canonical.Layout.{Part, word, line, tokens_of_parts, tokens_of_lines}
use Rattle.sc_tree.specs.Canonical.Expressions.{expr_parts, actuals_parts}
use Rattle.sc_tree.specs.Canonical.Instructions.{tag_parts, ending, clause_line, clauses_lines, assertion_lines, head_parts, heads_parts, instr_lines, instrs_lines, branches_lines, else_lines}
use Rattle.sc_tree.proofs.CanonicalTokens.{same, each, added, dropped, both, Again, again_along, tokens-append, lines-append}
use Rattle.sc_tree.proofs.CanonicalExpressions.{whole_again, in_chain_again, all_actuals_again}

-- ---- clauses

clause_parts : Clause → List Part
clause_parts x = tag_parts x.tag ++ expr_parts x.condition

clause_again : {x : Clause} {c : List Kind} {h : ℕ} → IsClause x c h → Again (IsClause x) c h (tokens_of_parts (clause_parts x))
unfolding clause_parts
clause_again (untagged d) = let r = whole_again d in record { nesting = r.nesting; low = r.low; spelled = untagged r.spelled; kept = r.kept }
clause_again (tagged x d) = let r = whole_again d in record { nesting = r.nesting; low = r.low; spelled = tagged x r.spelled; kept = each _ (each _ r.kept) }

clause_tokens : (n : ℕ) (x : Clause) (is_last : Bool) →
    tokens_of_parts (clause_line n x is_last).parts ≡ tokens_of_parts (clause_parts x) ++ tokens_of_parts (ending is_last)
unfolding clause_line clause_parts
clause_tokens n x is_last = simp (tokens-append, append_assoc)

more_clauses_again : (n : ℕ) (x : Clause) (xs : List Clause) {c cs : List Kind} {h hs : ℕ} → Again (IsClause x) c h (tokens_of_parts (clause_parts x)) →
    Again (IsClauses xs) cs hs (tokens_of_lines (clauses_lines n xs)) →
    Again (IsClauses (x ∷ xs)) (c ++ cs) (max h hs) (tokens_of_lines (clauses_lines n (x ∷ xs)))
more_clauses_again n x [] p q =
    again_along (ap (λ d. d ++ []) (clause_tokens n x true) ∙ append_assoc (tokens_of_parts (clause_parts x)) [] [])
    (record { nesting = max p.nesting q.nesting; low = omega (arith, p.low, q.low); spelled = clause p.spelled refl q.spelled; kept = both p.kept q.kept })
more_clauses_again n x (y ∷ ys) p q =
    let rest = tokens_of_lines (clauses_lines n (y ∷ ys)) in
    again_along (ap (λ d. d ++ rest) (clause_tokens n x false) ∙ append_assoc (tokens_of_parts (clause_parts x)) _ rest)
    (record {
      nesting = max p.nesting q.nesting;
      low = omega (arith, p.low, q.low);
      spelled = clause p.spelled refl (semicolon_clauses q.spelled);
      kept = both p.kept (added _ q.kept);
    })

pub clauses_again : (n : ℕ) {xs : List Clause} {c : List Kind} {h : ℕ} → IsClauses xs c h → Again (IsClauses xs) c h (tokens_of_lines (clauses_lines n xs))
clauses_again n no_clause = record { nesting = 0; low = omega arith; spelled = no_clause; kept = same _ }
clauses_again n (semicolon_clauses d) = let r = clauses_again n d in record { nesting = r.nesting; low = r.low; spelled = r.spelled; kept = dropped _ r.kept }
clauses_again n (clause {x} {xs} d g ds) = more_clauses_again n x xs (clause_again d) (clauses_again n ds)

some_assertion_again : (n : ℕ) (m : Terminal) (xs : List Clause) {c : List Kind} {h : ℕ} →
    Again (IsClauses xs) c h (tokens_of_lines (clauses_lines (n + 1) xs)) →
    Again (IsAssertion m xs) (TERMINAL m ∷ c) h (tokens_of_lines (assertion_lines n m xs))
some_assertion_again n m [] r = record { nesting = 0; low = omega arith; spelled = no_assertion; kept = dropped _ r.kept }
some_assertion_again n m (x ∷ xs) r = record { nesting = r.nesting; low = r.low; spelled = assertion r.spelled; kept = each _ r.kept }

pub assertion_again : (n : ℕ) {m : Terminal} {xs : List Clause} {c : List Kind} {h : ℕ} → IsAssertion m xs c h →
    Again (IsAssertion m xs) c h (tokens_of_lines (assertion_lines n m xs))
assertion_again n no_assertion = record { nesting = 0; low = omega arith; spelled = no_assertion; kept = same _ }
assertion_again n {m = m} {xs = xs} (assertion d) = some_assertion_again n m xs (clauses_again (n + 1) d)

-- ---- something is spelled by some token

append_none : (a b : List Kind) → a ++ b ≡ [] → a ≡ []
append_none [] b e = refl
append_none (k ∷ a) b e = cc

mutual
  primary_some : {t : Expr} {c : List Kind} {h : ℕ} → IsPrimary t c h → c ≡ [] → ⊥
  primary_some (integer n) e = cc
  primary_some true_constant e = cc
  primary_some false_constant e = cc
  primary_some void e = cc
  primary_some (parenthesized d) e = cc
  primary_some (chain d) e = chain_some d e
  primary_some (object_test d f x) e = cc

  chain_some : {t : Expr} {c : List Kind} {h : ℕ} → IsChain t c h → c ≡ [] → ⊥
  chain_some current e = cc
  chain_some result e = cc
  chain_some (unqualified x d) e = cc
  chain_some (qualified {ct = ct} d x f) e = chain_some d (append_none ct _ e)

  expr_some : {k : ℕ} {t : Expr} {c : List Kind} {h : ℕ} → IsExpr k t c h → c ≡ [] → ⊥
  expr_some (primary d) e = primary_some d e
  expr_some (prefixed op d) e = cc
  expr_some (tighter d) e = expr_some d e
  expr_some (left op g {ca = ca} d f) e = expr_some d (append_none ca _ e)
  expr_some (alone op g {ca = ca} d f) e = expr_some d (append_none ca _ e)

clause_some : {x : Clause} {c : List Kind} {h : ℕ} → IsClause x c h → c ≡ [] → ⊥
clause_some (untagged d) e = expr_some d e
clause_some (tagged x d) e = cc

clauses_none : {xs : List Clause} {c : List Kind} {h : ℕ} → IsClauses xs c h → c ≡ [] → xs ≡ []
clauses_none no_clause e = refl
clauses_none (semicolon_clauses d) e = cc
clauses_none (clause {c = c} d g ds) e = absurd (clause_some d (append_none c _ e))

around_low : (c d : List Kind) (h g : ℕ) → (c ≡ [] → d ≡ []) → g ≤ h → around d g ≤ around c h
around_low [] [] h g n l = omega arith
around_low [] (k ∷ d) h g n l = absurd (cons_some (n refl))
  where
    cons_some : k ∷ d ≡ [] → ⊥
    cons_some e = cc
around_low (j ∷ c) [] h g n l = omega (arith, l)
around_low (j ∷ c) (k ∷ d) h g n l = omega (arith, l)

-- ---- parts of instructions

head_again : {x : Head} {c : List Kind} {h : ℕ} → IsHead x c h → Again (IsHead x) c h (tokens_of_parts (head_parts x))
unfolding head_parts
head_again (head {t} d x) =
    let r = in_chain_again d in
    again_along (tokens-append (expr_parts t) _) (record { nesting = r.nesting; low = r.low; spelled = head r.spelled x; kept = both r.kept (same _) })

more_heads_again : (x y : Head) (ys : List Head) {c cs : List Kind} {h hs : ℕ} → Again (IsHead x) c h (tokens_of_parts (head_parts x)) →
    Again (IsHeads (y ∷ ys)) cs hs (tokens_of_parts (heads_parts (y ∷ ys))) →
    Again (IsHeads (x ∷ y ∷ ys)) (c ++ TERMINAL terminal.Comma ∷ cs) (max h hs) (tokens_of_parts (heads_parts (x ∷ y ∷ ys)))
more_heads_again x y ys p q =
    again_along (tokens-append (head_parts x) (word terminal.Comma ∷ heads_parts (y ∷ ys)))
    (record {
      nesting = max p.nesting q.nesting;
      low = omega (arith, p.low, q.low);
      spelled = more_heads p.spelled q.spelled;
      kept = both p.kept (each _ q.kept);
    })

heads_again : {xs : List Head} {c : List Kind} {h : ℕ} → IsHeads xs c h → Again (IsHeads xs) c h (tokens_of_parts (heads_parts xs))
heads_again (one_head {x} d) =
    let r = head_again d in
    again_along (ap tokens_of_parts (append-nil (head_parts x))) (record { nesting = r.nesting; low = r.low; spelled = one_head r.spelled; kept = r.kept })
heads_again (more_heads {x} d (one_head {x = y} e)) = more_heads_again x y [] (head_again d) (heads_again (one_head e))
heads_again (more_heads {x} d (more_heads {x = y} {xs = ys} e es)) = more_heads_again x y ys (head_again d) (heads_again (more_heads e es))

one_line : (n : ℕ) (ps : List Part) → tokens_of_lines (line n ps ∷ []) ≡ tokens_of_parts ps
one_line n ps = append-nil (tokens_of_parts ps)

-- ---- one lemma a rule

pub assign_again : (n : ℕ) {v : Variable} {t : Expr} {cv c : List Kind} {h : ℕ} → IsVariable v cv → Again (IsExpr top t) c h (tokens_of_parts (expr_parts t)) →
    Again (IsInstr (Assign nowhere v t)) (cv ++ TERMINAL terminal.Becomes ∷ c) h (tokens_of_lines (instr_lines n (Assign nowhere v t)))
unfolding instr_lines
assign_again n {t = t} (named_variable x) r =
    again_along (append-nil (NAME x ∷ TERMINAL terminal.Becomes ∷ tokens_of_parts (expr_parts t)))
    (record {
      nesting = r.nesting;
      low = r.low;
      spelled = assign (named_variable x) r.spelled;
      kept = each _ (each _ r.kept);
    })
assign_again n {t = t} result_variable r =
    again_along (append-nil (TERMINAL terminal.Result ∷ TERMINAL terminal.Becomes ∷ tokens_of_parts (expr_parts t)))
    (record {
      nesting = r.nesting;
      low = r.low;
      spelled = assign result_variable r.spelled;
      kept = each _ (each _ r.kept);
    })

call_tokens : (n : ℕ) (p : Span) (t : Target) (x : Name) (es : Exprs) →
    tokens_of_lines (instr_lines n (CallRoutine p t x es)) ≡ tokens_of_parts (expr_parts (Call p t x es))
unfolding instr_lines expr_parts
call_tokens n p t x es = one_line n _

call_again : (n : ℕ) {p : Span} {t : Target} {x : Name} {es : Exprs} {c : List Kind} {h : ℕ} → IsChain (Call p t x es) c h →
    Again (IsInstr (CallRoutine p t x es)) c h (tokens_of_lines (instr_lines n (CallRoutine p t x es)))
call_again n {p = p} {t = t} {x = x} {es = es} d =
    let r = in_chain_again d in
    again_along (call_tokens n p t x es) (record { nesting = r.nesting; low = r.low; spelled = call r.spelled; kept = r.kept })

create_again : (n : ℕ) {v : Variable} {cv : List Kind} → IsVariable v cv →
    Again (IsInstr (Create nowhere (record { variable = v; call = None }))) (TERMINAL terminal.Create ∷ cv) 0 (tokens_of_lines (instr_lines n (Create nowhere (record { variable = v; call = None }))))
unfolding instr_lines
create_again n (named_variable x) = record { nesting = 0; low = omega arith; spelled = create (named_variable x); kept = same _ }
create_again n result_variable = record { nesting = 0; low = omega arith; spelled = create result_variable; kept = same _ }

create_by_again : (n : ℕ) {v : Variable} {cv : List Kind} → IsVariable v cv → (x : List ℕ) {es : Exprs} {c : List Kind} {h : ℕ} →
    Again (IsActuals es) c h (tokens_of_parts (actuals_parts es)) →
    Again (IsInstr (Create nowhere (record { variable = v; call = Some (record { name = named x; actuals = es }) }))) (TERMINAL terminal.Create ∷ (cv ++ TERMINAL terminal.Dot ∷ NAME x ∷ c)) (max 1 h)
    (tokens_of_lines (instr_lines n (Create nowhere (record { variable = v; call = Some (record { name = named x; actuals = es }) }))))
unfolding instr_lines
create_by_again n (named_variable y) x {es = es} r =
    again_along (append-nil (TERMINAL terminal.Create ∷ NAME y ∷ TERMINAL terminal.Dot ∷ NAME x ∷ tokens_of_parts (actuals_parts es)))
    (record {
      nesting = max 1 r.nesting;
      low = omega (arith, r.low);
      spelled = create_by (named_variable y) x r.spelled;
      kept = each _ (each _ (each _ (each _ r.kept)));
    })
create_by_again n result_variable x {es = es} r =
    again_along (append-nil (TERMINAL terminal.Create ∷ TERMINAL terminal.Result ∷ TERMINAL terminal.Dot ∷ NAME x ∷ tokens_of_parts (actuals_parts es)))
    (record {
      nesting = max 1 r.nesting;
      low = omega (arith, r.low);
      spelled = create_by result_variable x r.spelled;
      kept = each _ (each _ (each _ (each _ r.kept)));
    })

if_tokens : (n : ℕ) (t : Expr) (body other : Instrs) (bs : Branches) →
    tokens_of_lines (instr_lines n (If nowhere t body bs other)) ≡
    TERMINAL terminal.If ∷ (tokens_of_parts (expr_parts t) ++ TERMINAL terminal.Then ∷ (tokens_of_lines (instrs_lines (n + 1) body) ++ (tokens_of_lines (branches_lines n bs)
    ++ ((tokens_of_lines (else_lines n other) ++ tokens_of_lines (instrs_lines (n + 1) other)) ++ TERMINAL terminal.End ∷ []))))
unfolding instr_lines
if_tokens n t body other bs = simp (tokens-append, lines-append, append_assoc)

if_again : (n : ℕ) {t : Expr} {body other : Instrs} {bs : Branches} {c cb cs co : List Kind} {h hb hs ho : ℕ} →
    Again (IsExpr top t) c h (tokens_of_parts (expr_parts t)) →
    Again (IsInstrs body) cb hb (tokens_of_lines (instrs_lines (n + 1) body)) → Again (IsBranches bs) cs hs (tokens_of_lines (branches_lines n bs)) →
    Again (IsElse other) co ho (tokens_of_lines (else_lines n other) ++ tokens_of_lines (instrs_lines (n + 1) other)) →
    Again (IsInstr (If nowhere t body bs other)) (TERMINAL terminal.If ∷ (c ++ TERMINAL terminal.Then ∷ (cb ++ (cs ++ (co ++ TERMINAL terminal.End ∷ [])))))
    (suc (max (max h hb) (max hs ho))) (tokens_of_lines (instr_lines n (If nowhere t body bs other)))
if_again n {t = t} {body = body} {other = other} {bs = bs} p q r s =
    again_along (if_tokens n t body other bs)
    (record {
      nesting = suc (max (max p.nesting q.nesting) (max r.nesting s.nesting));
      low = omega (arith, p.low, q.low, r.low, s.low);
      spelled = conditional p.spelled q.spelled r.spelled s.spelled;
      kept = each _ (both p.kept (each _ (both q.kept (both r.kept (both s.kept (same _))))));
    })

loop_tokens : (n : ℕ) (initial body : Instrs) (t : Expr) →
    tokens_of_lines (instr_lines n (Loop nowhere initial t body)) ≡
    TERMINAL terminal.From ∷ (tokens_of_lines (instrs_lines (n + 1) initial) ++ TERMINAL terminal.Until ∷ (tokens_of_parts (expr_parts t)
    ++ TERMINAL terminal.Loop ∷ (tokens_of_lines (instrs_lines (n + 1) body) ++ TERMINAL terminal.End ∷ [])))
unfolding instr_lines
loop_tokens n initial body t = simp (lines-append, append_assoc)

loop_again : (n : ℕ) {initial body : Instrs} {t : Expr} {ci c cb : List Kind} {hi h hb : ℕ} →
    Again (IsInstrs initial) ci hi (tokens_of_lines (instrs_lines (n + 1) initial)) →
    Again (IsExpr top t) c h (tokens_of_parts (expr_parts t)) → Again (IsInstrs body) cb hb (tokens_of_lines (instrs_lines (n + 1) body)) →
    Again (IsInstr (Loop nowhere initial t body)) (TERMINAL terminal.From ∷ (ci ++ TERMINAL terminal.Until ∷ (c ++ TERMINAL terminal.Loop ∷ (cb ++ TERMINAL terminal.End ∷ []))))
    (suc (max hi (max h hb))) (tokens_of_lines (instr_lines n (Loop nowhere initial t body)))
loop_again n {initial = initial} {body = body} {t = t} p q r =
    again_along (loop_tokens n initial body t)
    (record {
      nesting = suc (max p.nesting (max q.nesting r.nesting));
      low = omega (arith, p.low, q.low, r.low);
      spelled = loop p.spelled q.spelled r.spelled;
      kept = each _ (both p.kept (each _ (both q.kept (each _ (both r.kept (same _))))));
    })

check_tokens : (n : ℕ) (xs : List Clause) →
    tokens_of_lines (instr_lines n (Check nowhere xs)) ≡ TERMINAL terminal.Check ∷ (tokens_of_lines (clauses_lines (n + 1) xs) ++ TERMINAL terminal.End ∷ [])
unfolding instr_lines
check_tokens n xs = ap (λ d. TERMINAL terminal.Check ∷ d) (lines-append (clauses_lines (n + 1) xs) _)

check_again : (n : ℕ) {xs : List Clause} {c : List Kind} {h : ℕ} → IsClauses xs c h →
    Again (IsInstr (Check nowhere xs)) (TERMINAL terminal.Check ∷ (c ++ TERMINAL terminal.End ∷ [])) (around c h) (tokens_of_lines (instr_lines n (Check nowhere xs)))
check_again n {xs = xs} {c = c} {h = h} d =
    let r = clauses_again (n + 1) d in
    again_along (check_tokens n xs)
    (record {
      nesting = around (tokens_of_lines (clauses_lines (n + 1) xs)) r.nesting;
      low = around_low c (tokens_of_lines (clauses_lines (n + 1) xs)) h r.nesting (λ e. ap (λ ys. tokens_of_lines (clauses_lines (n + 1) ys)) (clauses_none d e)) r.low;
      spelled = check r.spelled;
      kept = each _ (both r.kept (same _));
    })

block_tokens : (n : ℕ) (xs : List Head) (body : Instrs) →
    tokens_of_lines (instr_lines n (Block nowhere xs body)) ≡
    TERMINAL terminal.Separate ∷ (tokens_of_parts (heads_parts xs) ++ TERMINAL terminal.Do ∷ (tokens_of_lines (instrs_lines (n + 1) body) ++ TERMINAL terminal.End ∷ []))
unfolding instr_lines
block_tokens n xs body = simp (tokens-append, lines-append, append_assoc)

block_again : (n : ℕ) {xs : List Head} {body : Instrs} {c cb : List Kind} {h hb : ℕ} → IsHeads xs c h →
    Again (IsInstrs body) cb hb (tokens_of_lines (instrs_lines (n + 1) body)) →
    Again (IsInstr (Block nowhere xs body)) (TERMINAL terminal.Separate ∷ (c ++ TERMINAL terminal.Do ∷ (cb ++ TERMINAL terminal.End ∷ []))) (suc (max h hb)) (tokens_of_lines (instr_lines n (Block nowhere xs body)))
block_again n {xs = xs} {body = body} d q =
    let p = heads_again d in
    again_along (block_tokens n xs body)
    (record {
      nesting = suc (max p.nesting q.nesting);
      low = omega (arith, p.low, q.low);
      spelled = block p.spelled q.spelled;
      kept = each _ (both p.kept (each _ (both q.kept (same _))));
    })

instr_then_again : (n : ℕ) {i : Instr} {is : Instrs} {c cs : List Kind} {h hs : ℕ} → Again (IsInstr i) c h (tokens_of_lines (instr_lines n i)) →
    Again (IsInstrs is) cs hs (tokens_of_lines (instrs_lines n is)) →
    Again (IsInstrs (instr_then i is)) (c ++ cs) (max h hs) (tokens_of_lines (instrs_lines n (instr_then i is)))
unfolding instr_lines
instr_then_again n {i = i} {is = is} p q =
    again_along (lines-append (instr_lines n i) (instrs_lines n is))
    (record { nesting = max p.nesting q.nesting; low = omega (arith, p.low, q.low); spelled = instr p.spelled q.spelled; kept = both p.kept q.kept })

branch_tokens : (n : ℕ) (t : Expr) (body : Instrs) (bs : Branches) →
    tokens_of_lines (branches_lines n (branch_then t body bs)) ≡
    TERMINAL terminal.Elseif ∷ (tokens_of_parts (expr_parts t) ++ TERMINAL terminal.Then ∷ (tokens_of_lines (instrs_lines (n + 1) body) ++ tokens_of_lines (branches_lines n bs)))
unfolding instr_lines
branch_tokens n t body bs = simp (tokens-append, lines-append, append_assoc)

branch_again : (n : ℕ) {t : Expr} {body : Instrs} {bs : Branches} {c cb cs : List Kind} {h hb hs : ℕ} →
    Again (IsExpr top t) c h (tokens_of_parts (expr_parts t)) →
    Again (IsInstrs body) cb hb (tokens_of_lines (instrs_lines (n + 1) body)) → Again (IsBranches bs) cs hs (tokens_of_lines (branches_lines n bs)) →
    Again (IsBranches (branch_then t body bs)) (TERMINAL terminal.Elseif ∷ (c ++ TERMINAL terminal.Then ∷ (cb ++ cs))) (max (max h hb) hs) (tokens_of_lines (branches_lines n (branch_then t body bs)))
branch_again n {t = t} {body = body} {bs = bs} p q r =
    again_along (branch_tokens n t body bs)
    (record {
      nesting = max (max p.nesting q.nesting) r.nesting;
      low = omega (arith, p.low, q.low, r.low);
      spelled = branch p.spelled q.spelled r.spelled;
      kept = each _ (both p.kept (each _ (both q.kept r.kept)));
    })

otherwise_again : (n : ℕ) (is : Instrs) {c : List Kind} {h : ℕ} → Again (IsInstrs is) c h (tokens_of_lines (instrs_lines (n + 1) is)) →
    Again (IsElse is) (TERMINAL terminal.Else ∷ c) h (tokens_of_lines (else_lines n is) ++ tokens_of_lines (instrs_lines (n + 1) is))
unfolding instr_lines
otherwise_again n no_instrs r = record { nesting = 0; low = omega arith; spelled = no_else; kept = dropped _ r.kept }
otherwise_again n (instr_then i is) r = record { nesting = r.nesting; low = r.low; spelled = otherwise r.spelled; kept = each _ r.kept }

-- ---- all of them

mutual
  unfolding instr_lines

  instr_again : (n : ℕ) {i : Instr} {c : List Kind} {h : ℕ} → IsInstr i c h → Again (IsInstr i) c h (tokens_of_lines (instr_lines n i))
  instr_again n (assign v d) = assign_again n v (whole_again d)
  instr_again n (print_text s) = record { nesting = 1; low = omega arith; spelled = print_text s; kept = same _ }
  instr_again n (call d) = call_again n d
  instr_again n (create v) = create_again n v
  instr_again n (create_by v x d) = create_by_again n v x (all_actuals_again d)
  instr_again n (conditional d b bs o) = if_again n (whole_again d) (instrs_again (n + 1) b) (branches_again n bs) (else_again n o)
  instr_again n (loop i d b) = loop_again n (instrs_again (n + 1) i) (whole_again d) (instrs_again (n + 1) b)
  instr_again n (check d) = check_again n d
  instr_again n (block d b) = block_again n d (instrs_again (n + 1) b)

  pub instrs_again : (n : ℕ) {is : Instrs} {c : List Kind} {h : ℕ} → IsInstrs is c h → Again (IsInstrs is) c h (tokens_of_lines (instrs_lines n is))
  instrs_again n no_instr = record { nesting = 0; low = omega arith; spelled = no_instr; kept = same _ }
  instrs_again n (semicolon_instrs d) = let r = instrs_again n d in record { nesting = r.nesting; low = r.low; spelled = r.spelled; kept = dropped _ r.kept }
  instrs_again n (instr d ds) = instr_then_again n (instr_again n d) (instrs_again n ds)

  branches_again : (n : ℕ) {bs : Branches} {c : List Kind} {h : ℕ} → IsBranches bs c h → Again (IsBranches bs) c h (tokens_of_lines (branches_lines n bs))
  branches_again n no_branch = record { nesting = 0; low = omega arith; spelled = no_branch; kept = same _ }
  branches_again n (branch d b ds) = branch_again n (whole_again d) (instrs_again (n + 1) b) (branches_again n ds)

  else_again : (n : ℕ) {is : Instrs} {c : List Kind} {h : ℕ} → IsElse is c h →
      Again (IsElse is) c h (tokens_of_lines (else_lines n is) ++ tokens_of_lines (instrs_lines (n + 1) is))
  else_again n no_else = record { nesting = 0; low = omega arith; spelled = no_else; kept = same _ }
  else_again n {is = is} (otherwise d) = otherwise_again n is (instrs_again (n + 1) d)
