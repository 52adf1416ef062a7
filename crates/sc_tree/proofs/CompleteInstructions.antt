-- Reading gives each tree that tokens spell, where what follows doesn't go on with it: instructions.
use Rattle.std.proofs.Common.{◌≡◌, ℕ, zero, suc, ◌+◌, ◌≤◌, ◌<◌, max, Bool, true, false, List, [], ◌∷◌, ◌++◌, length, Ok, refl, ap, sym, ◌∙◌, subst, append_assoc, length-append, arith}
use Rattle.std.specs.Prelude.{◌||◌}
use Rattle.sc_text.specs.Kind.{Kind, NAME, TERMINAL}
use Rattle.sc_text.specs.declared.token.Terminal.TheVariants as terminal
use Rattle.sc_tree.specs.Plain.{Expr, Clause, Head, Instr, If, Loop, Check, Block, Instrs, no_instrs, instr_then, Branches, no_branches, branch_then}
use Rattle.sc_tree.specs.Bare.{nowhere, named}
use Rattle.sc_tree.specs.Grammar as grammar
use Rattle.sc_tree.specs.Grammar.{top, around, IsChain, IsClauses, IsHead, IsHeads, IsInstr, IsInstrs, IsBranches, IsElse}
use Rattle.sc_tree.specs.Internal.Reading.{Read, ◌>>=◌, same_terminal, sees, expect, skip_semicolons, name_ahead, begins_instr, begins_expr, chain, nested, nested_clauses, instrs_push, branches_push, nested_chain, branch, branches, other, conditional, iteration, checked, checking, head, more_heads, heads, block, instr, instrs_from, body, instrs, nested_instrs}
use Rattle.sc_tree.proofs.ReadingSteps.{behind_word, Comes, fits, deep, both, surely, lastly, along, needs, grown, where_true, choose_true, choose_false}
use Rattle.sc_tree.proofs.Looks.{expect_self, sees_self}
use Rattle.sc_tree.proofs.Lists.{some_tokens, instrs_joined, instrs_joined-push, instrs_joined-none, branches_joined, branches_joined-push, branches_joined-none, skip_one, skip_none, skip_shorter}
use Rattle.sc_tree.proofs.Follows.{Apart, apart_sees, apart_unlinked, chain_first}
use Rattle.sc_tree.proofs.CompleteExpressions.{complete_actuals, complete_chain, complete_expr, complete_nested, as_unlinked}
use Rattle.sc_tree.proofs.CompleteAssertions.{ClausesEnd, clauses_end_by, clause_begins, complete_nested_clauses}
use Rattle.sc_tree.proofs.SimpleInstructions.{Ends, and_false, assign_step, branches_end, call_step, chain_no_becomes, chain_no_text, create_by_step, create_step, end_ends, instr_begins, instr_long, instr_no_semicolon, instrs_apart, instrs_is, nested_instrs_comes, no_prints, other_ends, other_no_branch, print_text_step, until_ends}

-- ---- if

-- a condition, then what stands under it
branch_read_step : (n h hb : ℕ) (t : Expr) (b : Instrs) (ts r r' : List Kind) → Comes n (suc h) (t, h, TERMINAL terminal.Then ∷ r) (nested n top ts) → Comes n (suc hb) (b, hb, r') (nested_instrs n r) →
    Comes {A = Expr × Instrs} n (suc (max h hb)) ((t, b), max h hb, r') (branch n (nested_instrs n) ts)
unfolding branch
branch_read_step n h hb t b ts r r' d e =
    let w : max (suc h) (suc hb) ≡ suc (max h hb) = omega arith in
    along n _ _ ((t, b), max h hb, r') _ _ _ w refl refl
    (both n (suc h) (suc hb) (t, h, TERMINAL terminal.Then ∷ r) _ _ _ d λ p. surely n (suc hb) r _ _ _ (expect_self terminal.Then r) (lastly n (suc hb) (b, hb, r') _ _ _ e refl))

pub BranchesRead : Branches → List Kind → ℕ → Type 0
BranchesRead bs c h = (r : List Kind) → Ends r → sees terminal.Elseif r ≡ false → (n f : ℕ) (found : Branches) (high : ℕ) → length (c ++ r) ≤ f → high < n →
    Comes n (suc h) (branches_joined found bs, max high h, r) (branches n (nested_instrs n) f found high (c ++ r))

branches_stay : (n f : ℕ) (found : Branches) (high : ℕ) (r : List Kind) → sees terminal.Elseif r ≡ false → branches n (nested_instrs n) f found high r ≡ Ok (found, high, r)
unfolding branches
branches_stay n zero found high r e = refl
branches_stay n (suc f) found high r e = choose_false _ _ _ e

no_branch_step : (n f : ℕ) (found : Branches) (high : ℕ) (r : List Kind) → sees terminal.Elseif r ≡ false → high < n →
    Comes n 1 (branches_joined found no_branches, max high 0, r) (branches n (nested_instrs n) f found high r)
no_branch_step n f found high r e l =
    let w : high ≡ max high 0 = omega arith in
    fits (omega arith) (branches_stay n f found high r e ∙ ap (λ (s : Branches). Ok (s, high, r)) (sym (branches_joined-none found)) ∙ ap (λ (m : ℕ). Ok (branches_joined found no_branches, m, r)) w)

-- one `elseif`, and the rest of them
branch_step : (n f : ℕ) (found : Branches) (high g hs : ℕ) (t : Expr) (b : Instrs) (us : Branches) (ts r' r : List Kind) → high < n →
    Comes {A = Expr × Instrs} n (suc g) ((t, b), g, r') (branch n (nested_instrs n) ts) →
    (max high g < n → Comes n (suc hs) (branches_joined (branches_push found t b) us, max (max high g) hs, r) (branches n (nested_instrs n) f (branches_push found t b) (max high g) r')) →
    Comes n (suc (max g hs)) (branches_joined found (branch_then t b us), max high (max g hs), r) (branches n (nested_instrs n) (suc f) found high (TERMINAL terminal.Elseif ∷ ts))
unfolding branches
branch_step n f found high g hs t b us ts r' r l d more =
    let v : max (suc g) (suc hs) ≡ suc (max g hs) = omega arith in
    grown n high (suc g) g (suc hs) hs (suc (max g hs)) (t, b) _ _ r' r _ _ _ (choose_true _ _ _ (sees_self terminal.Elseif ts)) (branches_joined-push found t b us) v d (λ p. more (omega arith))

branch_respelled : (c cb cs r : List Kind) (s : Kind) → (c ++ s ∷ (cb ++ cs)) ++ r ≡ c ++ s ∷ (cb ++ (cs ++ r))
branch_respelled c cb cs r s = simp append_assoc

branch_at : (n h hb hs : ℕ) (t : Expr) (b : Instrs) (bs : Branches) (c cb cs r : List Kind) →
    Comes {A = Expr × Instrs} n (suc (max h hb)) ((t, b), max h hb, cs ++ r) (branch n (nested_instrs n) (c ++ TERMINAL terminal.Then ∷ (cb ++ (cs ++ r)))) →
    ((f : ℕ) (found : Branches) (high : ℕ) → length (cs ++ r) ≤ f → high < n → Comes n (suc hs) (branches_joined found bs, max high hs, r) (branches n (nested_instrs n) f found high (cs ++ r))) →
    (f : ℕ) (found : Branches) (high : ℕ) → length (TERMINAL terminal.Elseif ∷ (c ++ TERMINAL terminal.Then ∷ (cb ++ (cs ++ r)))) ≤ f → high < n →
    Comes n (suc (max (max h hb) hs)) (branches_joined found (branch_then t b bs), max high (max (max h hb) hs), r) (branches n (nested_instrs n) f found high (TERMINAL terminal.Elseif ∷ (c ++ TERMINAL terminal.Then ∷ (cb ++ (cs ++ r)))))
branch_at n h hb hs t b bs c cb cs r d more zero found high len l = absurd (omega arith)
branch_at n h hb hs t b bs c cb cs r d more (suc f) found high len l =
    branch_step n f found high (max h hb) hs t b bs _ (cs ++ r) r l d (λ m. more f (branches_push found t b) (max high (max h hb)) (shorter (length-append c (TERMINAL terminal.Then ∷ (cb ++ (cs ++ r)))) (length-append cb (cs ++ r)) len) m)
  where
    shorter : length (c ++ TERMINAL terminal.Then ∷ (cb ++ (cs ++ r))) ≡ length c + suc (length (cb ++ (cs ++ r))) → length (cb ++ (cs ++ r)) ≡ length cb + length (cs ++ r) →
        suc (length (c ++ TERMINAL terminal.Then ∷ (cb ++ (cs ++ r)))) ≤ suc f → length (cs ++ r) ≤ f
    shorter e k m = omega arith

no_else_step : (n : ℕ) (r : List Kind) → 0 < n → Comes n 1 (no_instrs, 0, TERMINAL terminal.End ∷ r) (other n (nested_instrs n) (TERMINAL terminal.End ∷ r))
unfolding other same_terminal
no_else_step n r l = fits (omega arith) refl

else_step : (n h : ℕ) (is : Instrs) (ts r : List Kind) → Comes n (suc h) (is, h, r) (nested_instrs n ts) → Comes n (suc h) (is, h, r) (other n (nested_instrs n) (TERMINAL terminal.Else ∷ ts))
unfolding other same_terminal
else_step n h is ts r d = d

conditional_step : (n g hs ho : ℕ) (t : Expr) (b o : Instrs) (bs : Branches) (ts r1 r2 r : List Kind) → Comes {A = Expr × Instrs} n (suc g) ((t, b), g, r1) (branch n (nested_instrs n) ts) →
    (0 < n → Comes n (suc hs) (bs, max 0 hs, r2) (branches n (nested_instrs n) (length r1) no_branches 0 r1)) →
    (0 < n → Comes n (suc ho) (o, ho, TERMINAL terminal.End ∷ r) (other n (nested_instrs n) r2)) →
    Comes n (suc (max g (max hs ho))) (If nowhere t b bs o, suc (max g (max hs ho)), r) (instr n (nested_instrs n) (TERMINAL terminal.If ∷ ts))
unfolding instr conditional same_terminal expect
conditional_step n g hs ho t b o bs ts r1 r2 r dg db de =
    let v : max (suc g) (max (suc hs) (suc ho)) ≡ suc (max g (max hs ho)) = omega arith in
    let w : suc (max g (max (max 0 hs) ho)) ≡ suc (max g (max hs ho)) = omega arith in
    needs n _ _ _ _ (If nowhere t b bs o) r _ v w
    (both n (suc g) (max (suc hs) (suc ho)) ((t, b), g, r1) _ _ _ dg λ p.
    both n (suc hs) (suc ho) (bs, max 0 hs, r2) _ _ _ (db (omega arith)) λ q. lastly n (suc ho) (o, ho, TERMINAL terminal.End ∷ r) _ _ _ (de (omega arith)) refl)

if_respelled : (c cb cs co r : List Kind) (s t : Kind) → (c ++ s ∷ (cb ++ (cs ++ (co ++ t ∷ [])))) ++ r ≡ c ++ s ∷ (cb ++ (cs ++ (co ++ t ∷ r)))
if_respelled c cb cs co r s t = simp append_assoc

-- ---- lists of instructions

pub InstrsRead : Instrs → List Kind → ℕ → Type 0
InstrsRead is c h = (r : List Kind) → Ends r → (n f : ℕ) (found : Instrs) (high : ℕ) → length (skip_semicolons (c ++ r)) ≤ f → high ≤ n →
    Comes n h (instrs_joined found is, max high h, r) (instrs_from n (nested_instrs n) f found high (skip_semicolons (c ++ r)))

instrs_stay : (n f : ℕ) (found : Instrs) (high : ℕ) (r : List Kind) → begins_instr r ≡ false → instrs_from n (nested_instrs n) f found high r ≡ Ok (found, high, r)
unfolding instrs_from
instrs_stay n zero found high r e = refl
instrs_stay n (suc f) found high r e = choose_false _ _ _ e

no_instr_step : InstrsRead no_instrs [] 0
unfolding InstrsRead
no_instr_step r e n f found high len l =
    let w : high ≡ max high 0 = omega arith in
    fits (omega arith) (ap (instrs_from n (nested_instrs n) f found high) (skip_none r e.semicolon) ∙ instrs_stay n f found high r e.begins ∙ ap (λ (s : Instrs). Ok (s, high, r)) (sym (instrs_joined-none found)) ∙ ap (λ (m : ℕ). Ok (instrs_joined found no_instrs, m, r)) w)

semicolon_step : (is : Instrs) (c : List Kind) (h : ℕ) → InstrsRead is c h → InstrsRead is (TERMINAL terminal.Semicolon ∷ c) h
unfolding InstrsRead
semicolon_step is c h all r e n f found high len l =
    rw (skip_one (c ++ r)) (all r e n f found high (subst (λ (ts : List Kind). length ts ≤ f) (skip_one (c ++ r)) len) l)

-- one instruction, and the rest of them
instr_step : (n f : ℕ) (found : Instrs) (high h hs : ℕ) (i : Instr) (is : Instrs) (ts r' r : List Kind) → begins_instr ts ≡ true → high ≤ n → Comes n h (i, h, r') (instr n (nested_instrs n) ts) →
    (max high h ≤ n → Comes n hs (instrs_joined (instrs_push found i) is, max (max high h) hs, r) (instrs_from n (nested_instrs n) f (instrs_push found i) (max high h) (skip_semicolons r'))) →
    Comes n (max h hs) (instrs_joined found (instr_then i is), max high (max h hs), r) (instrs_from n (nested_instrs n) (suc f) found high ts)
unfolding instrs_from
instr_step n f found high h hs i is ts r' r b l d more =
    grown n high h h hs hs (max h hs) i _ _ r' r _ _ _ (choose_true _ _ _ b) (instrs_joined-push found i is) refl d (λ p. more (omega arith))

instr_at : (n h hs : ℕ) (i : Instr) (is : Instrs) (c cs r : List Kind) → begins_instr (c ++ (cs ++ r)) ≡ true → 1 ≤ length c → Comes n h (i, h, cs ++ r) (instr n (nested_instrs n) (c ++ (cs ++ r))) →
    ((f : ℕ) (found : Instrs) (high : ℕ) → length (skip_semicolons (cs ++ r)) ≤ f → high ≤ n → Comes n hs (instrs_joined found is, max high hs, r) (instrs_from n (nested_instrs n) f found high (skip_semicolons (cs ++ r)))) →
    (f : ℕ) (found : Instrs) (high : ℕ) → length (c ++ (cs ++ r)) ≤ f → high ≤ n →
    Comes n (max h hs) (instrs_joined found (instr_then i is), max high (max h hs), r) (instrs_from n (nested_instrs n) f found high (c ++ (cs ++ r)))
instr_at n h hs i is c cs r b k d more zero found high len l = let e = length-append c (cs ++ r) in absurd (omega arith)
instr_at n h hs i is c cs r b k d more (suc f) found high len l =
    let e = length-append c (cs ++ r) in
    let s = skip_shorter (cs ++ r) in
    instr_step n f found high h hs i is _ (cs ++ r) r b l d (λ m. more f (instrs_push found i) (max high h) (omega arith) m)

some_step : (h hs : ℕ) (i : Instr) (is : Instrs) (c cs : List Kind) → IsInstr i c h → ((r : List Kind) → Apart r → (n : ℕ) → Comes n h (i, h, r) (instr n (nested_instrs n) (c ++ r))) → IsInstrs is cs hs → InstrsRead is cs hs →
    InstrsRead (instr_then i is) (c ++ cs) (max h hs)
unfolding InstrsRead
some_step h hs i is c cs d all ds more r e n f found high len l =
    rw (same) (instr_at n h hs i is c cs r (instr_begins d (cs ++ r)) (instr_long d) (all (cs ++ r) (instrs_apart ds r e.apart) n) (more r e n) f found high (subst (λ (ts : List Kind). length ts ≤ f) same len) l)
  where
    same : skip_semicolons ((c ++ cs) ++ r) ≡ c ++ (cs ++ r)
    same = ap skip_semicolons (append_assoc c cs r) ∙ skip_none (c ++ (cs ++ r)) (instr_no_semicolon d (cs ++ r))

-- the instructions alone, and one deeper
body_of : (is : Instrs) (c : List Kind) (h : ℕ) → InstrsRead is c h → (r : List Kind) → Ends r → (n : ℕ) → Comes n h (is, h, r) (body n (nested_instrs n) (c ++ r))
unfolding InstrsRead body
body_of is c h all r e n = let w : max 0 h ≡ h = omega arith in needs n h h (max 0 h) h is r _ refl w (all r e n (length (skip_semicolons (c ++ r))) no_instrs 0 (omega arith) (omega arith))

inside_of : (is : Instrs) (c : List Kind) (h : ℕ) → InstrsRead is c h → (r : List Kind) → Ends r → (n : ℕ) → Comes n (suc h) (is, h, r) (nested_instrs n (c ++ r))
inside_of is c h all r e n = nested_instrs_comes h (is, h, r) (c ++ r) (body_of is c h all r e) n

-- ---- loops

one_stands : (p q : Bool) → p ≡ true → (p || q) ≡ true
one_stands true q e = refl
one_stands false q e = cc

other_stands : (p q : Bool) → q ≡ true → (p || q) ≡ true
other_stands true q e = refl
other_stands false q e = e

loop_step : (n hi h hb : ℕ) (is b : Instrs) (t : Expr) (ts r1 r2 r : List Kind) → Comes n (suc hi) (is, hi, TERMINAL terminal.Until ∷ r1) (nested_instrs n ts) → Comes n (suc h) (t, h, TERMINAL terminal.Loop ∷ r2) (nested n top r1) →
    Comes n (suc hb) (b, hb, TERMINAL terminal.End ∷ r) (nested_instrs n r2) → Comes n (suc (max hi (max h hb))) (Loop nowhere is t b, suc (max hi (max h hb)), r) (instr n (nested_instrs n) (TERMINAL terminal.From ∷ ts))
unfolding instr iteration same_terminal expect
loop_step n hi h hb is b t ts r1 r2 r i d db =
    let w : max (suc hi) (max (suc h) (suc hb)) ≡ suc (max hi (max h hb)) = omega arith in
    needs n _ _ _ _ (Loop nowhere is t b) r _ w refl
    (both n (suc hi) (max (suc h) (suc hb)) (is, hi, TERMINAL terminal.Until ∷ r1) _ _ _ i λ p.
    both n (suc h) (suc hb) (t, h, TERMINAL terminal.Loop ∷ r2) _ _ _ d λ q. lastly n (suc hb) (b, hb, TERMINAL terminal.End ∷ r) _ _ _ db refl)

loop_respelled : (ci c cb r : List Kind) (s t u : Kind) → (ci ++ s ∷ (c ++ t ∷ (cb ++ u ∷ []))) ++ r ≡ ci ++ s ∷ (c ++ t ∷ (cb ++ u ∷ r))
loop_respelled ci c cb r s t u = simp append_assoc

-- ---- checks

clauses_end : (r : List Kind) → ClausesEnd (TERMINAL terminal.End ∷ r)
unfolding same_terminal
clauses_end r = clauses_end_by terminal.End r refl refl refl

checked_none : (n : ℕ) (r : List Kind) → Comes n 0 ([], 0, TERMINAL terminal.End ∷ r) (checked n (nested_instrs n) (TERMINAL terminal.End ∷ r))
unfolding checked same_terminal
checked_none n r = fits (omega arith) refl

checked_some : (n h : ℕ) (xs : List Clause) (ts r : List Kind) → (begins_expr ts || sees terminal.Semicolon ts) ≡ true → Comes n (suc h) (xs, h, r) (nested_clauses n ts) → Comes n (suc h) (xs, suc h, r) (checked n (nested_instrs n) ts)
unfolding checked
checked_some n h xs ts r b d = where_true _ _ _ _ _ _ b (lastly n (suc h) (xs, h, r) _ _ _ d refl)

around_long : (c : List Kind) (h : ℕ) → 1 ≤ length c → around c h ≡ suc h
around_long [] h l = absurd (omega arith)
around_long (k ∷ c) h l = refl

complete_checked : {xs : List Clause} {c : List Kind} {h : ℕ} → IsClauses xs c h → (r : List Kind) (n : ℕ) → Comes n (around c h) (xs, around c h, TERMINAL terminal.End ∷ r) (checked n (nested_instrs n) (c ++ TERMINAL terminal.End ∷ r))
complete_checked grammar.no_clause r n = checked_none n r
complete_checked (grammar.semicolon_clauses {xs} {c} {h} d) r n =
    checked_some n h xs _ (TERMINAL terminal.End ∷ r) (other_stands false _ (sees_self terminal.Semicolon (c ++ TERMINAL terminal.End ∷ r))) (complete_nested_clauses (grammar.semicolon_clauses d) (TERMINAL terminal.End ∷ r) (clauses_end r) n)
complete_checked (grammar.clause {x} {xs} {c} {cs} {h} {hs} d g ds) r n =
    let b : begins_expr ((c ++ cs) ++ TERMINAL terminal.End ∷ r) ≡ true = ap begins_expr (append_assoc c cs (TERMINAL terminal.End ∷ r)) ∙ clause_begins d (cs ++ TERMINAL terminal.End ∷ r) in
    let l : 1 ≤ length (c ++ cs) = some_tokens begins_expr (c ++ cs) refl (ap begins_expr (append_assoc c cs []) ∙ clause_begins d (cs ++ [])) in
    let w = sym (around_long (c ++ cs) (max h hs) l) in
    needs n _ _ _ _ (x ∷ xs) (TERMINAL terminal.End ∷ r) _ w w
    (checked_some n (max h hs) (x ∷ xs) _ (TERMINAL terminal.End ∷ r) (one_stands _ _ b) (complete_nested_clauses (grammar.clause d g ds) (TERMINAL terminal.End ∷ r) (clauses_end r) n))

check_step : (n g : ℕ) (xs : List Clause) (ts r : List Kind) → Comes n g (xs, g, TERMINAL terminal.End ∷ r) (checked n (nested_instrs n) ts) → Comes n g (Check nowhere xs, g, r) (instr n (nested_instrs n) (TERMINAL terminal.Check ∷ ts))
unfolding instr checking same_terminal expect
check_step n g xs ts r d = lastly n g (xs, g, TERMINAL terminal.End ∷ r) _ _ _ d refl

-- ---- separate blocks

complete_nested_chain : {t : Expr} {c : List Kind} {h : ℕ} → IsChain t c h → (r : List Kind) (n : ℕ) → Comes n (suc h) (t, h, TERMINAL terminal.As ∷ r) (nested_chain n (c ++ TERMINAL terminal.As ∷ r))
unfolding nested_chain
complete_nested_chain d r zero = deep (omega arith) refl
complete_nested_chain {t} {c} {h} d r (suc n) = go (complete_chain d (TERMINAL terminal.As ∷ r) (as_unlinked r) n)
  where
    go : Comes n h (t, h, TERMINAL terminal.As ∷ r) (chain (nested n) n (c ++ TERMINAL terminal.As ∷ r)) → Comes (suc n) (suc h) (t, h, TERMINAL terminal.As ∷ r) (chain (nested n) n (c ++ TERMINAL terminal.As ∷ r))
    go (fits p q) = fits (omega arith) q
    go (deep p q) = deep (omega arith) q

head_step : (n h : ℕ) (t : Expr) (x : List ℕ) (ts r : List Kind) → Comes n (suc h) (t, h, TERMINAL terminal.As ∷ NAME x ∷ r) (nested_chain n ts) → Comes n (suc h) (record { value = t; name = named x }, h, r) (head n (nested_instrs n) ts)
unfolding head same_terminal expect
head_step n h t x ts r d = lastly n (suc h) (t, h, TERMINAL terminal.As ∷ NAME x ∷ r) _ _ _ d refl

head_respelled : (c r : List Kind) (j k : Kind) → (c ++ j ∷ k ∷ []) ++ r ≡ c ++ j ∷ k ∷ r
head_respelled c r j k = simp append_assoc

complete_head : {x : Head} {c : List Kind} {h : ℕ} → IsHead x c h → (r : List Kind) (n : ℕ) → Comes n (suc h) (x, h, r) (head n (nested_instrs n) (c ++ r))
complete_head (grammar.head {t} {c} {h} d x) r n = rw (head_respelled c r (TERMINAL terminal.As) (NAME x)) (head_step n h t x _ r (complete_nested_chain d (NAME x ∷ r) n))

HeadsRead : List Head → List Kind → ℕ → Type 0
HeadsRead xs c h = (r : List Kind) → sees terminal.Comma r ≡ false → (n f : ℕ) (found : List Head) (high : ℕ) → length (c ++ r) ≤ f → high < n →
    Comes n (suc h) (found ++ xs, max high h, r) (more_heads n (nested_instrs n) (suc f) found high (TERMINAL terminal.Comma ∷ (c ++ r)))

heads_stay : (n f : ℕ) (found : List Head) (high : ℕ) (r : List Kind) → sees terminal.Comma r ≡ false → more_heads n (nested_instrs n) f found high r ≡ Ok (found, high, r)
unfolding more_heads
heads_stay n zero found high r e = refl
heads_stay n (suc f) found high r e = choose_false _ _ _ e

-- a head behind a comma
comma_read : (n f : ℕ) (found : List Head) (high : ℕ) (ts : List Kind) →
    more_heads n (nested_instrs n) (suc f) found high (TERMINAL terminal.Comma ∷ ts) ≡ (head n (nested_instrs n) ts >>= λ x. more_heads n (nested_instrs n) f (found ++ x.0 ∷ []) (max high x.1) x.2)
unfolding more_heads
comma_read n f found high ts = choose_true _ _ _ (sees_self terminal.Comma ts)

last_head_step : (n f h : ℕ) (found : List Head) (high : ℕ) (x : Head) (ts r : List Kind) → sees terminal.Comma r ≡ false → Comes n (suc h) (x, h, r) (head n (nested_instrs n) ts) →
    Comes n (suc h) (found ++ x ∷ [], max high h, r) (more_heads n (nested_instrs n) (suc f) found high (TERMINAL terminal.Comma ∷ ts))
last_head_step n f h found high x ts r e d =
    along n (suc h) (suc h) (found ++ x ∷ [], max high h, r) (found ++ x ∷ [], max high h, r) _ _ refl refl (comma_read n f found high ts)
    (lastly n (suc h) (x, h, r) _ _ _ d (heads_stay n f (found ++ x ∷ []) (max high h) r e))

more_head_at : (n h hs : ℕ) (x : Head) (xs : List Head) (c cs r : List Kind) → Comes n (suc h) (x, h, TERMINAL terminal.Comma ∷ (cs ++ r)) (head n (nested_instrs n) (c ++ TERMINAL terminal.Comma ∷ (cs ++ r))) →
    ((f : ℕ) (found : List Head) (high : ℕ) → length (cs ++ r) ≤ f → high < n → Comes n (suc hs) (found ++ xs, max high hs, r) (more_heads n (nested_instrs n) (suc f) found high (TERMINAL terminal.Comma ∷ (cs ++ r)))) →
    (f : ℕ) (found : List Head) (high : ℕ) → length (c ++ TERMINAL terminal.Comma ∷ (cs ++ r)) ≤ f → high < n →
    Comes n (suc (max h hs)) (found ++ x ∷ xs, max high (max h hs), r) (more_heads n (nested_instrs n) (suc f) found high (TERMINAL terminal.Comma ∷ (c ++ TERMINAL terminal.Comma ∷ (cs ++ r))))
more_head_at n h hs x xs c cs r d more zero found high len l = let e = length-append c (TERMINAL terminal.Comma ∷ (cs ++ r)) in absurd (omega arith)
more_head_at n h hs x xs c cs r d more (suc f) found high len l =
    let e = length-append c (TERMINAL terminal.Comma ∷ (cs ++ r)) in
    let v : max (suc h) (suc hs) ≡ suc (max h hs) = omega arith in
    grown n high (suc h) h (suc hs) hs (suc (max h hs)) x _ _ (TERMINAL terminal.Comma ∷ (cs ++ r)) r _ _ _ (comma_read n (suc f) found high (c ++ TERMINAL terminal.Comma ∷ (cs ++ r))) (append_assoc found (x ∷ []) xs) v d
    (λ p. more f (found ++ x ∷ []) (max high h) (omega arith) (omega arith))

behind_comma : {xs : List Head} {c : List Kind} {h : ℕ} → IsHeads xs c h → HeadsRead xs c h
unfolding HeadsRead
behind_comma (grammar.one_head {x} {c} {h} d) = λ r e n f found high len l. last_head_step n f h found high x (c ++ r) r e (complete_head d r n)
behind_comma (grammar.more_heads {x} {xs} {c} {cs} {h} {hs} d ds) = λ r e n f found high len l.
    rw (behind_word c cs r (TERMINAL terminal.Comma))
    (more_head_at n h hs x xs c cs r (complete_head d (TERMINAL terminal.Comma ∷ (cs ++ r)) n) (behind_comma ds r e n) f found high
    (subst (λ (ts : List Kind). length ts ≤ f) (behind_word c cs r (TERMINAL terminal.Comma)) len) l)

abbrev then_heads : ℕ → Head × ℕ × List Kind → Read (List Head)
then_heads n x = more_heads n (nested_instrs n) (length x.2) (x.0 ∷ []) x.1 x.2

complete_heads : {xs : List Head} {c : List Kind} {h : ℕ} → IsHeads xs c h → (r : List Kind) → sees terminal.Comma r ≡ false → (n : ℕ) → Comes n (suc h) (xs, h, r) (heads n (nested_instrs n) (c ++ r))
unfolding heads HeadsRead
complete_heads (grammar.one_head {x} {c} {h} d) r e n = lastly n (suc h) (x, h, r) _ _ (then_heads n) (complete_head d r n) (heads_stay n (length r) (x ∷ []) h r e)
complete_heads (grammar.more_heads {x} {xs} {c} {cs} {h} {hs} d ds) r e n =
    let v : max (suc h) (suc hs) ≡ suc (max h hs) = omega arith in
    rw (behind_word c cs r (TERMINAL terminal.Comma))
    (needs n _ _ _ _ (x ∷ xs) r _ v refl
    (both n (suc h) (suc hs) (x, h, TERMINAL terminal.Comma ∷ (cs ++ r)) (x ∷ xs, max h hs, r) _ (then_heads n) (complete_head d (TERMINAL terminal.Comma ∷ (cs ++ r)) n)
    (λ p. behind_comma ds r e n (length (cs ++ r)) (x ∷ []) h (omega arith) (omega arith))))

do_no_comma : (r : List Kind) → sees terminal.Comma (TERMINAL terminal.Do ∷ r) ≡ false
unfolding same_terminal
do_no_comma r = refl

block_step : (n h hb : ℕ) (xs : List Head) (b : Instrs) (ts r1 r : List Kind) → Comes n (suc h) (xs, h, TERMINAL terminal.Do ∷ r1) (heads n (nested_instrs n) ts) → Comes n (suc hb) (b, hb, TERMINAL terminal.End ∷ r) (nested_instrs n r1) →
    Comes n (suc (max h hb)) (Block nowhere xs b, suc (max h hb), r) (instr n (nested_instrs n) (TERMINAL terminal.Separate ∷ ts))
unfolding instr block same_terminal expect
block_step n h hb xs b ts r1 r d db =
    let v : max (suc h) (suc hb) ≡ suc (max h hb) = omega arith in
    needs n _ _ _ _ (Block nowhere xs b) r _ v refl (both n (suc h) (suc hb) (xs, h, TERMINAL terminal.Do ∷ r1) _ _ _ d λ p. lastly n (suc hb) (b, hb, TERMINAL terminal.End ∷ r) _ _ _ db refl)

block_respelled : (c cb r : List Kind) (s t : Kind) → (c ++ s ∷ (cb ++ t ∷ [])) ++ r ≡ c ++ s ∷ (cb ++ t ∷ r)
block_respelled c cb r s t = simp append_assoc

-- ---- the law

mutual
  unfolding BranchesRead

  pub complete_instr : {i : Instr} {c : List Kind} {h : ℕ} → IsInstr i c h → (r : List Kind) → Apart r → (n : ℕ) → Comes n h (i, h, r) (instr n (nested_instrs n) (c ++ r))
  complete_instr (grammar.assign {v} {t} {cv} {c} {h} dv d) r a n = rw (behind_word cv c r (TERMINAL terminal.Becomes)) (assign_step n h dv t (c ++ r) r (complete_expr d r a n))
  complete_instr (grammar.print_text s) r a n = print_text_step n s r
  complete_instr (grammar.call {s} {t} {x} {es} {c} {h} d) r a n =
      call_step n h s t x es (c ++ r) r (chain_first d r) (and_false (name_ahead (c ++ r) || sees terminal.Result (c ++ r)) _ (chain_no_becomes d r (apart_sees terminal.Becomes r refl a)))
      (no_prints (c ++ r) (chain_no_text d r (apart_sees terminal.OpenParenthesis r refl a))) (complete_chain d r (apart_unlinked r a) n)
  complete_instr (grammar.create dv) r a n = create_step n dv r (apart_sees terminal.Dot r refl a)
  complete_instr (grammar.create_by {v} {cv} dv x {es} {c} {h} d) r a n =
      rw (append_assoc cv (TERMINAL terminal.Dot ∷ NAME x ∷ c) r) (create_by_step n h dv x es (c ++ r) r (complete_actuals d r (apart_sees terminal.OpenParenthesis r refl a) n))
  complete_instr (grammar.loop {i} {ci} {c} {cb} {hi} {h} {hb} di d db) r a n =
      rw (loop_respelled ci c cb r (TERMINAL terminal.Until) (TERMINAL terminal.Loop) (TERMINAL terminal.End))
      (loop_step n hi h hb i.initial i.body i.until _ (c ++ TERMINAL terminal.Loop ∷ (cb ++ TERMINAL terminal.End ∷ r)) (cb ++ TERMINAL terminal.End ∷ r) r
      (inside_of i.initial ci hi (complete_instrs di) (TERMINAL terminal.Until ∷ (c ++ TERMINAL terminal.Loop ∷ (cb ++ TERMINAL terminal.End ∷ r))) (until_ends (c ++ TERMINAL terminal.Loop ∷ (cb ++ TERMINAL terminal.End ∷ r))) n) (complete_nested d (TERMINAL terminal.Loop ∷ (cb ++ TERMINAL terminal.End ∷ r)) refl n)
      (inside_of i.body cb hb (complete_instrs db) (TERMINAL terminal.End ∷ r) (end_ends r) n))
  complete_instr (grammar.check {xs} {c} {h} d) r a n = rw (append_assoc c (TERMINAL terminal.End ∷ []) r) (check_step n (around c h) xs (c ++ TERMINAL terminal.End ∷ r) r (complete_checked d r n))
  complete_instr (grammar.block {i} {c} {cb} {h} {hb} d db) r a n =
      rw (block_respelled c cb r (TERMINAL terminal.Do) (TERMINAL terminal.End))
      (block_step n h hb i.heads i.body _ (cb ++ TERMINAL terminal.End ∷ r) r (complete_heads d (TERMINAL terminal.Do ∷ (cb ++ TERMINAL terminal.End ∷ r)) (do_no_comma (cb ++ TERMINAL terminal.End ∷ r)) n)
      (inside_of i.body cb hb (complete_instrs db) (TERMINAL terminal.End ∷ r) (end_ends r) n))
  complete_instr (grammar.conditional {i} {c} {cb} {cs} {co} {h} {hb} {hs} {ho} d db dbs de) r a n =
      rw (if_respelled c cb cs co r (TERMINAL terminal.Then) (TERMINAL terminal.End))
      (conditional_step n (max h hb) hs ho i.condition i.body i.other i.branches _ (cs ++ (co ++ TERMINAL terminal.End ∷ r)) (co ++ TERMINAL terminal.End ∷ r) r
      (branch_read_step n h hb i.condition i.body _ (cb ++ (cs ++ (co ++ TERMINAL terminal.End ∷ r))) _ (complete_nested d (TERMINAL terminal.Then ∷ (cb ++ (cs ++ (co ++ TERMINAL terminal.End ∷ r)))) refl n)
      (inside_of i.body cb hb (complete_instrs db) (cs ++ (co ++ TERMINAL terminal.End ∷ r)) (branches_end dbs (co ++ TERMINAL terminal.End ∷ r) (other_ends de r)) n))
      (λ l. complete_branches dbs (co ++ TERMINAL terminal.End ∷ r) (other_ends de r) (other_no_branch de r) n (length (cs ++ (co ++ TERMINAL terminal.End ∷ r))) no_branches 0 (omega arith) l)
      (λ l. complete_other de r n l))

  complete_instrs : {is : Instrs} {c : List Kind} {h : ℕ} → IsInstrs is c h → InstrsRead is c h
  complete_instrs grammar.no_instr = no_instr_step
  complete_instrs (grammar.semicolon_instrs {is} {c} {h} d) = semicolon_step is c h (complete_instrs d)
  complete_instrs (grammar.instr {i} {is} {c} {cs} {h} {hs} d ds) = some_step h hs i is c cs d (complete_instr d) ds (complete_instrs ds)

  complete_branches : {bs : Branches} {c : List Kind} {h : ℕ} → IsBranches bs c h → BranchesRead bs c h
  complete_branches grammar.no_branch = λ r e s n f found high len l. no_branch_step n f found high r s l
  complete_branches (grammar.branch {t} {body = b} {bs} {c} {cb} {cs} {h} {hb} {hs} d db dbs) = λ r e s n f found high len l.
      rw (branch_respelled c cb cs r (TERMINAL terminal.Then))
      (branch_at n h hb hs t b bs c cb cs r
      (branch_read_step n h hb t b _ (cb ++ (cs ++ r)) _ (complete_nested d (TERMINAL terminal.Then ∷ (cb ++ (cs ++ r))) refl n) (inside_of b cb hb (complete_instrs db) (cs ++ r) (branches_end dbs r e) n))
      (complete_branches dbs r e s n) f found high
      (subst (λ (ts : List Kind). length (TERMINAL terminal.Elseif ∷ ts) ≤ f) (branch_respelled c cb cs r (TERMINAL terminal.Then)) len) l)

  complete_other : {is : Instrs} {c : List Kind} {h : ℕ} → IsElse is c h → (r : List Kind) (n : ℕ) → 0 < n → Comes n (suc h) (is, h, TERMINAL terminal.End ∷ r) (other n (nested_instrs n) (c ++ TERMINAL terminal.End ∷ r))
  complete_other grammar.no_else r n l = no_else_step n r l
  complete_other (grammar.otherwise {is} {c} {h} d) r n l = else_step n h is _ _ (inside_of is c h (complete_instrs d) (TERMINAL terminal.End ∷ r) (end_ends r) n)

pub complete_body : {is : Instrs} {c : List Kind} {h : ℕ} → IsInstrs is c h → (r : List Kind) → Ends r → (n : ℕ) → Comes n h (is, h, r) (instrs n (c ++ r))
complete_body {is} {c} {h} d r e n = rw (instrs_is n (c ++ r)) (body_of is c h (complete_instrs d) r e n)
