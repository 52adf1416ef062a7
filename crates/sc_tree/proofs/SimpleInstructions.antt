-- Reading gives each tree that tokens spell: assignments, calls, creations, and what may follow them.
use Rattle.std.proofs.Common.{◌≡◌, ℕ, zero, suc, ◌≤◌, max, Bool, true, false, List, [], ◌∷◌, ◌++◌, length, Some, None, Ok, Err, refl, ap, ◌∙◌, append_assoc, arith}
use Rattle.std.specs.Prelude.{◌&&◌, ◌==◌, if◌then◌else◌}
use Rattle.sc_text.specs.Kind.{Kind, NAME, INTEGER, STRING, TERMINAL}
use Rattle.sc_text.specs.declared.token.Span.{Span}
use Rattle.sc_text.specs.declared.token.Terminal.{Terminal}
use Rattle.sc_text.specs.declared.token.Terminal.TheVariants as terminal
use Rattle.sc_tree.specs.Plain.{Name, Expr, Call, Target, Exprs, Variable, Instr, Assign, PrintText, CallRoutine, Create, Instrs, Branches}
use Rattle.sc_tree.specs.Bare.{nowhere, named}
use Rattle.sc_tree.specs.Grammar as grammar
use Rattle.sc_tree.specs.Grammar.{top, print_name, IsChain, IsActuals, IsVariable, IsInstr, IsInstrs, IsBranches, IsElse}
use Rattle.sc_tree.specs.Internal.Reading.{Deep, Read, ◌>>=◌, past, same_terminal, sees, expect, name, sees_word, text_ahead, begins_instr, begins_instr_by, begins_expr, actuals, chain, expr, nested, variable, assigns, prints, assignment, printing, routine_call, creation, instr, body, instrs, nested_instrs}
use Rattle.sc_tree.proofs.ReadingSteps.{Comes, fits, deep, lastly, where_false, choose_false, not_both}
use Rattle.sc_tree.proofs.Looks.{sees_is}
use Rattle.sc_tree.proofs.Lists.{some_tokens}
use Rattle.sc_tree.proofs.Follows.{connects, Apart, ChainFirst, name_first, current_first, result_first, chain_first, exprs_begin}
use Rattle.sc_tree.proofs.CompleteExpressions.{dot_no_actuals}

-- ---- what may follow

-- No instruction begins here, and nothing goes on with one.
pub record Ends (r : List Kind) : Type 0 where
  pub begins : begins_instr r ≡ false
  pub semicolon : sees terminal.Semicolon r ≡ false
  pub apart : Apart r

pub ends_by : (m : Terminal) (r : List Kind) → begins_instr_by m ≡ false → same_terminal m terminal.Semicolon ≡ false → connects m ≡ false → Ends (TERMINAL m ∷ r)
ends_by m r i s c = record { begins = i; semicolon = s; apart = c }

pub end_ends : (r : List Kind) → Ends (TERMINAL terminal.End ∷ r)
unfolding same_terminal
end_ends r = ends_by terminal.End r refl refl refl

else_ends : (r : List Kind) → Ends (TERMINAL terminal.Else ∷ r)
unfolding same_terminal
else_ends r = ends_by terminal.Else r refl refl refl

elseif_ends : (r : List Kind) → Ends (TERMINAL terminal.Elseif ∷ r)
unfolding same_terminal
elseif_ends r = ends_by terminal.Elseif r refl refl refl

pub until_ends : (r : List Kind) → Ends (TERMINAL terminal.Until ∷ r)
unfolding same_terminal
until_ends r = ends_by terminal.Until r refl refl refl

pub other_ends : {is : Instrs} {c : List Kind} {h : ℕ} → IsElse is c h → (r : List Kind) → Ends (c ++ TERMINAL terminal.End ∷ r)
other_ends grammar.no_else r = end_ends r
other_ends (grammar.otherwise {is} {c} d) r = else_ends (c ++ TERMINAL terminal.End ∷ r)

pub other_no_branch : {is : Instrs} {c : List Kind} {h : ℕ} → IsElse is c h → (r : List Kind) → sees terminal.Elseif (c ++ TERMINAL terminal.End ∷ r) ≡ false
unfolding same_terminal
other_no_branch grammar.no_else r = refl
other_no_branch (grammar.otherwise d) r = refl

pub branches_end : {bs : Branches} {c : List Kind} {h : ℕ} → IsBranches bs c h → (r : List Kind) → Ends r → Ends (c ++ r)
branches_end grammar.no_branch r e = e
branches_end (grammar.branch {t} {body} {bs} {c} {cb} {cs} d db dbs) r e = elseif_ends ((c ++ TERMINAL terminal.Then ∷ (cb ++ cs)) ++ r)

-- ---- what stands first

begins_instr_apart : (m : Terminal) → begins_instr_by m ≡ true → connects m ≡ false
begins_instr_apart terminal.Result b = refl
begins_instr_apart terminal.Current b = refl
begins_instr_apart terminal.Create b = refl
begins_instr_apart terminal.If b = refl
begins_instr_apart terminal.From b = refl
begins_instr_apart terminal.Check b = refl
begins_instr_apart terminal.Separate b = refl
begins_instr_apart _ b = cc

-- where an instruction begins, no other token stands
no_instr_token : (m : Terminal) (ts : List Kind) → begins_instr ts ≡ true → begins_instr_by m ≡ false → sees m ts ≡ false
no_instr_token m ts b n = go (sees m ts) refl
  where
    go : (t : Bool) → sees m ts ≡ t → t ≡ false
    go true e = absurd (not_both b (ap begins_instr (sees_is m ts e) ∙ n))
    go false e = refl

begun_apart : (ts : List Kind) → begins_instr ts ≡ true → Apart ts
begun_apart [] b = cc
begun_apart (NAME x ∷ r) b = tt
begun_apart (INTEGER n ∷ r) b = cc
begun_apart (STRING s ∷ r) b = cc
begun_apart (TERMINAL m ∷ r) b = begins_instr_apart m b

chain_begins_instr : (ts : List Kind) → ChainFirst ts → begins_instr ts ≡ true
chain_begins_instr _ (name_first x r) = refl
chain_begins_instr _ (current_first r) = refl
chain_begins_instr _ (result_first r) = refl

pub instr_begins : {i : Instr} {c : List Kind} {h : ℕ} → IsInstr i c h → (r : List Kind) → begins_instr (c ++ r) ≡ true
instr_begins (grammar.assign (grammar.named_variable x) d) r = refl
instr_begins (grammar.assign grammar.result_variable d) r = refl
instr_begins (grammar.print_text s) r = refl
instr_begins (grammar.call {c} d) r = chain_begins_instr (c ++ r) (chain_first d r)
instr_begins (grammar.create dv) r = refl
instr_begins (grammar.create_by dv x d) r = refl
instr_begins (grammar.conditional d db dbs de) r = refl
instr_begins (grammar.loop di d db) r = refl
instr_begins (grammar.check d) r = refl
instr_begins (grammar.block d db) r = refl

pub instr_no_semicolon : {i : Instr} {c : List Kind} {h : ℕ} → IsInstr i c h → (r : List Kind) → sees terminal.Semicolon (c ++ r) ≡ false
instr_no_semicolon {i} {c} d r = no_instr_token terminal.Semicolon (c ++ r) (instr_begins d r) refl

instr_apart : {i : Instr} {c : List Kind} {h : ℕ} → IsInstr i c h → (r : List Kind) → Apart (c ++ r)
instr_apart {i} {c} d r = begun_apart (c ++ r) (instr_begins d r)

pub instr_long : {i : Instr} {c : List Kind} {h : ℕ} → IsInstr i c h → 1 ≤ length c
instr_long {i} {c} d = some_tokens begins_instr c refl (instr_begins d [])

pub instrs_apart : {is : Instrs} {c : List Kind} {h : ℕ} → IsInstrs is c h → (r : List Kind) → Apart r → Apart (c ++ r)
instrs_apart grammar.no_instr r a = a
instrs_apart (grammar.semicolon_instrs d) r a = refl
instrs_apart (grammar.instr {i} {is} {c} {cs} d ds) r a = rw (append_assoc c cs r) (instr_apart d (cs ++ r))

begins_no_text : (ts : List Kind) → begins_expr ts ≡ true → text_ahead ts ≡ false
begins_no_text [] b = refl
begins_no_text (NAME x ∷ r) b = refl
begins_no_text (INTEGER n ∷ r) b = refl
begins_no_text (STRING s ∷ r) b = cc
begins_no_text (TERMINAL m ∷ r) b = refl

-- ---- one deeper

pub instrs_is : (n : ℕ) (ts : List Kind) → instrs n ts ≡ body n (nested_instrs n) ts
unfolding instrs nested_instrs
instrs_is zero ts = refl
instrs_is (suc n) ts = refl

pub nested_instrs_comes : (need : ℕ) (x : Instrs × ℕ × List Kind) (ts : List Kind) → ((n : ℕ) → Comes n need x (body n (nested_instrs n) ts)) → (n : ℕ) → Comes n (suc need) x (nested_instrs n ts)
unfolding nested_instrs
nested_instrs_comes need x ts all zero = deep (omega arith) refl
nested_instrs_comes need x ts all (suc n) = go (all n)
  where
    go : Comes n need x (body n (nested_instrs n) ts) → Comes (suc n) (suc need) x (instrs n ts)
    go (fits h q) = fits (omega arith) (instrs_is n ts ∙ q)
    go (deep h q) = deep (omega arith) (instrs_is n ts ∙ q)

-- ---- simple instructions

pub assign_step : (n h : ℕ) {v : Variable} {cv : List Kind} → IsVariable v cv → (t : Expr) (c r : List Kind) → Comes n h (t, h, r) (expr n top c) →
    Comes n h (Assign nowhere v t, h, r) (instr n (nested_instrs n) (cv ++ TERMINAL terminal.Becomes ∷ c))
unfolding instr assignment variable same_terminal expect
assign_step n h (grammar.named_variable x) t c r d = lastly n h (t, h, r) _ _ _ d refl
assign_step n h grammar.result_variable t c r d = lastly n h (t, h, r) _ _ _ d refl

positive : (n : ℕ) → (suc n == 0) ≡ false
positive n = grind arith

pub print_text_step : (n : ℕ) (s : List ℕ) (r : List Kind) → Comes n 1 (PrintText nowhere s, 1, r) (instr n (nested_instrs n) (NAME print_name ∷ TERMINAL terminal.OpenParenthesis ∷ STRING s ∷ TERMINAL terminal.CloseParenthesis ∷ r))
unfolding instr printing same_terminal expect
print_text_step zero s r = deep (omega arith) refl
print_text_step (suc n) s r = fits (omega arith) (choose_false _ _ _ (positive n))

-- ---- calls

dot_no_becomes : (r : List Kind) → sees terminal.Becomes (TERMINAL terminal.Dot ∷ r) ≡ false
unfolding same_terminal
dot_no_becomes r = refl

actuals_no_becomes : {es : Exprs} {c : List Kind} {h : ℕ} → IsActuals es c h → (r : List Kind) → sees terminal.Becomes r ≡ false → sees terminal.Becomes (c ++ r) ≡ false
unfolding same_terminal
actuals_no_becomes grammar.no_actuals r e = e
actuals_no_becomes (grammar.actuals d) r e = refl

pub chain_no_becomes : {t : Expr} {c : List Kind} {h : ℕ} → IsChain t c h → (r : List Kind) → sees terminal.Becomes r ≡ false → sees terminal.Becomes (past (c ++ r)) ≡ false
chain_no_becomes grammar.current r e = e
chain_no_becomes grammar.result r e = e
chain_no_becomes (grammar.unqualified x d) r e = actuals_no_becomes d r e
chain_no_becomes (grammar.qualified {t} {ct} d x {es} {c} da) r e =
    rw (append_assoc ct (TERMINAL terminal.Dot ∷ NAME x ∷ c) r) (chain_no_becomes d ((TERMINAL terminal.Dot ∷ NAME x ∷ c) ++ r) (dot_no_becomes (NAME x ∷ (c ++ r))))

-- no string stands in parentheses behind the first token
pub data NoText (ts : List Kind) : Type 0 where
  not_open : sees terminal.OpenParenthesis (past ts) ≡ false → NoText ts
  not_text : text_ahead (past (past ts)) ≡ false → NoText ts

pub chain_no_text : {t : Expr} {c : List Kind} {h : ℕ} → IsChain t c h → (r : List Kind) → sees terminal.OpenParenthesis r ≡ false → NoText (c ++ r)
chain_no_text grammar.current r e = not_open e
chain_no_text grammar.result r e = not_open e
chain_no_text (grammar.unqualified x grammar.no_actuals) r e = not_open e
chain_no_text (grammar.unqualified x (grammar.actuals {es} {c} d)) r e =
    not_text (begins_no_text _ (rw (append_assoc c (TERMINAL terminal.CloseParenthesis ∷ []) r) (exprs_begin d ((TERMINAL terminal.CloseParenthesis ∷ []) ++ r))))
chain_no_text (grammar.qualified {t} {ct} d x {es} {c} da) r e =
    rw (append_assoc ct (TERMINAL terminal.Dot ∷ NAME x ∷ c) r) (chain_no_text d ((TERMINAL terminal.Dot ∷ NAME x ∷ c) ++ r) (dot_no_actuals (NAME x ∷ (c ++ r))))

pub and_false : (p q : Bool) → q ≡ false → (p && q) ≡ false
and_false true q e = e
and_false false q e = refl

pub no_prints : (ts : List Kind) → NoText ts → prints ts ≡ false
no_prints ts (not_open e) = ap (λ (b : Bool). b && text_ahead (past (past ts))) (and_false (sees_word print_name ts) _ e)
no_prints ts (not_text e) = and_false (sees_word print_name ts && sees terminal.OpenParenthesis (past ts)) _ e

pub call_step : (n h : ℕ) (s : Span) (t : Target) (x : Name) (es : Exprs) (ts r : List Kind) → ChainFirst ts → assigns ts ≡ false → prints ts ≡ false → Comes n h (Call s t x es, h, r) (chain (nested n) n ts) →
    Comes n h (CallRoutine s t x es, h, r) (instr n (nested_instrs n) ts)
unfolding instr routine_call same_terminal
call_step n h s t x es _ r (name_first y ts) a p d = where_false _ _ _ _ _ _ a (where_false _ _ _ _ _ _ p (lastly n h (Call s t x es, h, r) _ _ _ d refl))
call_step n h s t x es _ r (current_first ts) a p d = lastly n h (Call s t x es, h, r) _ _ _ d refl
call_step n h s t x es _ r (result_first ts) a p d = where_false _ _ _ _ _ _ a (lastly n h (Call s t x es, h, r) _ _ _ d refl)

-- ---- creations

pub create_step : (n : ℕ) {v : Variable} {cv : List Kind} → IsVariable v cv → (r : List Kind) → sees terminal.Dot r ≡ false → Comes n 0 (Create nowhere (record { variable = v; call = None }), 0, r) (instr n (nested_instrs n) (TERMINAL terminal.Create ∷ (cv ++ r)))
unfolding instr creation variable same_terminal
create_step n (grammar.named_variable x) r e = fits (omega arith) (choose_false _ _ _ e)
create_step n grammar.result_variable r e = fits (omega arith) (choose_false _ _ _ e)

-- what follows a creation's dot, where there is room for it
abbrev creation_by : ℕ → Variable → List Kind → Read Instr
creation_by n v ts =
    if n == 0 then Err Deep
    else (name ts >>= λ x. actuals (nested n) x.1 >>= λ es. Ok (Create nowhere (record { variable = v; call = Some (record { name = x.0; actuals = es.0 }) }), max 1 es.1, es.2))

creation_by_step : (n h : ℕ) (v : Variable) (x : List ℕ) (es : Exprs) (ts r : List Kind) → Comes n h (es, h, r) (actuals (nested n) ts) →
    Comes n (max 1 h) (Create nowhere (record { variable = v; call = Some (record { name = named x; actuals = es }) }), max 1 h, r) (creation_by n v (NAME x ∷ ts))
creation_by_step zero h v x es ts r d = deep (omega arith) refl
creation_by_step (suc n) h v x es ts r d = where_false _ _ _ _ _ _ (positive n) (with_room (lastly (suc n) h (es, h, r) _ _ _ d refl))
  where
    with_room : {y : Instr × ℕ × List Kind} {a : Read Instr} → Comes (suc n) h y a → Comes (suc n) (max 1 h) y a
    with_room (fits p e) = fits (omega arith) e
    with_room (deep p e) = deep (omega arith) e

pub create_by_step : (n h : ℕ) {v : Variable} {cv : List Kind} → IsVariable v cv → (x : List ℕ) (es : Exprs) (ts r : List Kind) → Comes n h (es, h, r) (actuals (nested n) ts) →
    Comes n (max 1 h) (Create nowhere (record { variable = v; call = Some (record { name = named x; actuals = es }) }), max 1 h, r) (instr n (nested_instrs n) (TERMINAL terminal.Create ∷ (cv ++ TERMINAL terminal.Dot ∷ NAME x ∷ ts)))
unfolding instr creation variable same_terminal
create_by_step n h (grammar.named_variable y) x es ts r d = creation_by_step n h _ x es ts r d
create_by_step n h grammar.result_variable x es ts r d = creation_by_step n h _ x es ts r d
