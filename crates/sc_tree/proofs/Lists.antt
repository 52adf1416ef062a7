-- Lists that grow at their end, and semicolons that are skipped.
use Rattle.std.proofs.Common.{◌≡◌, ℕ, suc, ◌≤◌, max, Bool, true, false, List, [], ◌∷◌, ◌++◌, length, refl, ap, sym, ◌∙◌, subst, arith}
use Rattle.std.specs.Prelude.{if◌then◌else◌}
use Rattle.sc_text.specs.Kind.{Kind, TERMINAL}
use Rattle.sc_text.specs.declared.token.Terminal.{Terminal}
use Rattle.sc_text.specs.declared.token.Terminal.TheVariants as terminal
use Rattle.sc_tree.specs.Plain.{Expr, Exprs, no_exprs, expr_then, Instr, Instrs, no_instrs, instr_then, Branches, no_branches, branch_then}
use Rattle.sc_tree.specs.Grammar.{IsOptional, absent, present, IsSemicolons, no_semicolon, one_more}
use Rattle.sc_tree.specs.Internal.Reading.{past, is_terminal, sees, skip, skip_semicolons, exprs_push, instrs_push, branches_push}
use Rattle.sc_tree.proofs.ReadingSteps.{not_both, Spelled, Added}
use Rattle.sc_tree.proofs.Looks.{sees_is, sees_self}

abbrev pub exprs_joined : Exprs → Exprs → Exprs
exprs_joined no_exprs us = us
exprs_joined (expr_then t es) us = expr_then t (exprs_joined es us)

pub exprs_joined-push : (es : Exprs) (t : Expr) (us : Exprs) → exprs_joined (exprs_push es t) us ≡ exprs_joined es (expr_then t us)
exprs_joined-push no_exprs t us = refl
exprs_joined-push (expr_then u es) t us = ap (expr_then u) (exprs_joined-push es t us)

pub exprs_joined-none : (es : Exprs) → exprs_joined es no_exprs ≡ es
exprs_joined-none no_exprs = refl
exprs_joined-none (expr_then u es) = ap (expr_then u) (exprs_joined-none es)

abbrev pub instrs_joined : Instrs → Instrs → Instrs
instrs_joined no_instrs js = js
instrs_joined (instr_then i is) js = instr_then i (instrs_joined is js)

pub instrs_joined-push : (is : Instrs) (i : Instr) (js : Instrs) → instrs_joined (instrs_push is i) js ≡ instrs_joined is (instr_then i js)
instrs_joined-push no_instrs i js = refl
instrs_joined-push (instr_then j is) i js = ap (instr_then j) (instrs_joined-push is i js)

pub instrs_joined-none : (is : Instrs) → instrs_joined is no_instrs ≡ is
instrs_joined-none no_instrs = refl
instrs_joined-none (instr_then i is) = ap (instr_then i) (instrs_joined-none is)

abbrev pub branches_joined : Branches → Branches → Branches
branches_joined no_branches cs = cs
branches_joined (branch_then t body bs) cs = branch_then t body (branches_joined bs cs)

pub branches_joined-push : (bs : Branches) (t : Expr) (body : Instrs) (cs : Branches) → branches_joined (branches_push bs t body) cs ≡ branches_joined bs (branch_then t body cs)
branches_joined-push no_branches t body cs = refl
branches_joined-push (branch_then u b bs) t body cs = ap (branch_then u b) (branches_joined-push bs t body cs)

pub branches_joined-none : (bs : Branches) → branches_joined bs no_branches ≡ bs
branches_joined-none no_branches = refl
branches_joined-none (branch_then u b bs) = ap (branch_then u b) (branches_joined-none bs)

-- where the tokens pass a test that no tokens fail, there are some
pub some_tokens : (test : List Kind → Bool) (c : List Kind) → test [] ≡ false → test (c ++ []) ≡ true → 1 ≤ length c
some_tokens test [] e t = absurd (not_both t e)
some_tokens test (k ∷ c) e t = omega arith

-- a derivation, told of equal trees and numbers
pub told : {A : Type 0} (Is : A → List Kind → ℕ → Type 0) (x y : A) (c : List Kind) (g h : ℕ) → x ≡ y → g ≡ h → Is x c g → Is y c h
told {A} Is x y c g h e w d = subst (λ (h : ℕ). Is y c h) w (subst (λ (x : A). Is x c g) e d)

-- Where nothing had been found, what was added is what was read.
pub all_added : {A : Type 0} (join : A → A → A) (Is : A → List Kind → ℕ → Type 0) (none : A) → ((x : A) → join none x ≡ x) → (ts : List Kind) (x : A × ℕ × List Kind) → Added join Is none 0 ts x → Spelled Is ts x
all_added join Is none unit ts x a =
    record { tokens = a.tokens; same = a.same; is = told Is a.more x.0 a.tokens a.nesting x.1 (sym (a.joined ∙ unit a.more)) (zero_max a.nesting x.1 a.highest) a.is }
  where
    zero_max : (g h : ℕ) → h ≡ max 0 g → g ≡ h
    zero_max g h e = omega (arith, e)

-- ---- semicolons

-- the tokens are of the kind, with what had been skipped
pub record Unskipped (Is : List Kind → Type 0) (ts r : List Kind) : Type 0 where
  pub tokens : List Kind
  pub same : ts ≡ tokens ++ r
  pub is : Is tokens

pub unskipped : (Is : List Kind → Type 0) → ((c : List Kind) → Is c → Is (TERMINAL terminal.Semicolon ∷ c)) → (ts c r : List Kind) → skip_semicolons ts ≡ c ++ r → Is c → Unskipped Is ts r
unskipped Is more [] c r e d = record { tokens = c; same = e; is = d }
unskipped Is more (t ∷ ts) c r e d = go (is_terminal terminal.Semicolon t) refl e (λ e. unskipped Is more ts c r e d)
  where
    go : (b : Bool) → is_terminal terminal.Semicolon t ≡ b → (if b then skip_semicolons ts else t ∷ ts) ≡ c ++ r → (skip_semicolons ts ≡ c ++ r → Unskipped Is ts r) → Unskipped Is (t ∷ ts) r
    go true q e inside = let u = inside e in
        record { tokens = TERMINAL terminal.Semicolon ∷ u.tokens; same = sees_is terminal.Semicolon (t ∷ ts) q ∙ ap (λ (ts : List Kind). TERMINAL terminal.Semicolon ∷ ts) u.same; is = more u.tokens u.is }
    go false q e inside = record { tokens = c; same = e; is = d }

-- one token, if it stands there
pub one_token : (Is : List Kind → Type 0) (m : Terminal) (ts : List Kind) → sees m ts ≡ true → Is (TERMINAL m ∷ []) → Unskipped Is ts (past ts)
one_token Is m ts e d = record { tokens = TERMINAL m ∷ []; same = sees_is m ts e; is = d }

pub no_tokens : (Is : List Kind → Type 0) (ts : List Kind) → Is [] → Unskipped Is ts ts
no_tokens Is ts d = record { tokens = []; same = refl; is = d }

pub skipped_one : (m : Terminal) (ts : List Kind) → Unskipped (IsOptional m) ts (skip m ts)
skipped_one m ts = go (sees m ts) refl
  where
    go : (b : Bool) → sees m ts ≡ b → Unskipped (IsOptional m) ts (if b then past ts else ts)
    go true e = one_token (IsOptional m) m ts e present
    go false e = no_tokens (IsOptional m) ts absent

-- the semicolons that are skipped
pub skipped : (ts : List Kind) → Unskipped IsSemicolons ts (skip_semicolons ts)
skipped ts = unskipped IsSemicolons (λ c d. one_more d) ts [] (skip_semicolons ts) refl no_semicolon

pub skip_one : (r : List Kind) → skip_semicolons (TERMINAL terminal.Semicolon ∷ r) ≡ skip_semicolons r
skip_one r = ap (λ (b : Bool). if b then skip_semicolons r else TERMINAL terminal.Semicolon ∷ r) (sees_self terminal.Semicolon r)

pub skip_none : (ts : List Kind) → sees terminal.Semicolon ts ≡ false → skip_semicolons ts ≡ ts
skip_none [] e = refl
skip_none (t ∷ ts) e = ap (λ (b : Bool). if b then skip_semicolons ts else t ∷ ts) e

pub skip_all : {c : List Kind} → IsSemicolons c → (r : List Kind) → skip_semicolons (c ++ r) ≡ skip_semicolons r
skip_all no_semicolon r = refl
skip_all (one_more {c} d) r = skip_one (c ++ r) ∙ skip_all d r

pub skip_shorter : (ts : List Kind) → length (skip_semicolons ts) ≤ length ts
skip_shorter [] = omega arith
skip_shorter (t ∷ ts) = go (is_terminal terminal.Semicolon t) (skip_shorter ts)
  where
    go : (b : Bool) → length (skip_semicolons ts) ≤ length ts → length (if b then skip_semicolons ts else t ∷ ts) ≤ suc (length ts)
    go true l = omega arith
    go false l = omega arith
