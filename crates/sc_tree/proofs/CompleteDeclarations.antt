-- Reading gives each tree that tokens spell, where what follows doesn't go on with it: formals, locals and results.
use Rattle.std.proofs.Common.{◌≡◌, ℕ, zero, suc, ◌≤◌, Bool, true, false, List, [], ◌∷◌, ◌++◌, length, Option, Some, Ok, refl, ap, sym, ◌∙◌, subst, append_assoc, append-nil, length-append, arith}
use Rattle.std.specs.Prelude.{◌||◌, map}
use Rattle.sc_text.specs.Kind.{Kind, TERMINAL}
use Rattle.sc_text.specs.declared.token.Terminal.{Terminal}
use Rattle.sc_text.specs.declared.token.Terminal.TheVariants as terminal
use Rattle.sc_tree.specs.Plain.{Name, DeclaredType, Declaration}
use Rattle.sc_tree.specs.Grammar as grammar
use Rattle.sc_tree.specs.Grammar.{IsInstrs, declared_as, attribute_of, routine_of, class_of, heads_class, ends_class, exported_to, none_name, IsNames, IsOptional, IsType, IsDeclaration, IsDeclarations, IsFormals, IsLocalList, IsLocals, IsResultType, IsFeature, IsSemicolons, IsFeatures, IsExports, IsSections, IsFree, IsNote, IsMark, IsParent, IsParentList, IsParents, IsCreators, IsAssertion, IsClass, IsClasses}
use Rattle.sc_tree.specs.Internal.Reading.{Taken, ◌>>=◌, same_terminal, sees, expect, skip, name_ahead, names, declared_type, declaration, more_declarations, formals, locals_from, locals, result_type}
use Rattle.sc_tree.proofs.ReadingSteps.{between, bind_ok, choose_true, choose_false}
use Rattle.sc_tree.proofs.Looks.{expect_self, sees_self}
use Rattle.sc_tree.proofs.Lists.{some_tokens}
use Rattle.sc_tree.proofs.CompleteTypes.{complete_names, complete_type}
use Rattle.sc_tree.proofs.Order.{named_unseen}

-- ---- tokens that may stand or not

pub skip_optional : {m : Terminal} {s : List Kind} → IsOptional m s → (r : List Kind) → sees m r ≡ false → skip m (s ++ r) ≡ r
skip_optional grammar.absent r e = choose_false _ _ _ e
skip_optional {m} grammar.present r e = choose_true _ _ _ (sees_self m r)

pub optional_unseen : {m : Terminal} {s : List Kind} → IsOptional m s → (k : Terminal) (r : List Kind) → same_terminal m k ≡ false → sees k r ≡ false → sees k (s ++ r) ≡ false
optional_unseen grammar.absent k r d e = e
optional_unseen grammar.present k r d e = d

pub optional_shorter : {m : Terminal} {s : List Kind} → IsOptional m s → (r : List Kind) → length r ≤ length (s ++ r)
optional_shorter grammar.absent r = omega arith
optional_shorter grammar.present r = omega arith

-- ---- formals and locals

pub names_named : {xs : List Name} {c : List Kind} → IsNames xs c → (r : List Kind) → name_ahead (c ++ r) ≡ true
names_named (grammar.one_name x) r = refl
names_named (grammar.more_names x d) r = refl

pub colon_no_comma : (r : List Kind) → sees terminal.Comma (TERMINAL terminal.Colon ∷ r) ≡ false
unfolding same_terminal
colon_no_comma r = refl

declaration_named : {ds : List Declaration} {c : List Kind} → IsDeclaration ds c → (r : List Kind) → name_ahead (c ++ r) ≡ true
declaration_named (grammar.declaration {xs} {t} {c} {ct} dn dt) r = rw (append_assoc c (TERMINAL terminal.Colon ∷ ct) r) (names_named dn ((TERMINAL terminal.Colon ∷ ct) ++ r))

declaration_long : {ds : List Declaration} {c : List Kind} → IsDeclaration ds c → 1 ≤ length c
declaration_long {ds} {c} d = some_tokens name_ahead c refl (declaration_named d [])

-- names, and the type that they are declared with
declaration_step : (xs : List Name) (t : DeclaredType) (ts r' r : List Kind) → names ts ≡ Ok (xs, TERMINAL terminal.Colon ∷ r') → declared_type r' ≡ Ok (t, r) → declaration ts ≡ Ok (map (declared_as t) xs, r)
unfolding declaration
declaration_step xs t ts r' r e d =
    bind_ok (names ts) (xs, TERMINAL terminal.Colon ∷ r') (λ ns. expect terminal.Colon ns.1 >>= λ r. declared_type r >>= λ t. Ok (map (declared_as t.0) ns.0, t.1)) e
    ∙ bind_ok (expect terminal.Colon (TERMINAL terminal.Colon ∷ r')) r' (λ r. declared_type r >>= λ t. Ok (map (declared_as t.0) xs, t.1)) (expect_self terminal.Colon r')
    ∙ bind_ok (declared_type r') (t, r) (λ t. Ok (map (declared_as t.0) xs, t.1)) d

complete_declaration : {ds : List Declaration} {c : List Kind} → IsDeclaration ds c → (r : List Kind) → declaration (c ++ r) ≡ Ok (ds, r)
complete_declaration (grammar.declaration {xs} {t} {c} {ct} dn dt) r =
    ap declaration (append_assoc c (TERMINAL terminal.Colon ∷ ct) r)
    ∙ declaration_step xs t (c ++ TERMINAL terminal.Colon ∷ (ct ++ r)) (ct ++ r) r (complete_names dn (TERMINAL terminal.Colon ∷ (ct ++ r)) (colon_no_comma (ct ++ r))) (complete_type dt r)

declarations_stay : (f : ℕ) (found : List Declaration) (r : List Kind) → sees terminal.Semicolon r ≡ false → name_ahead r ≡ false → more_declarations f found r ≡ Ok (found, r)
unfolding more_declarations
declarations_stay zero found r e d = refl
declarations_stay (suc f) found r e d = choose_false _ _ _ (neither _ _ e d)
  where
    neither : (p q : Bool) → p ≡ false → q ≡ false → (p || q) ≡ false
    neither true q e d = cc
    neither false q e d = d

more_declarations_go : (f : ℕ) (found ds : List Declaration) (ts r : List Kind) → (sees terminal.Semicolon ts || name_ahead ts) ≡ true → declaration (skip terminal.Semicolon ts) ≡ Ok (ds, r) →
    more_declarations (suc f) found ts ≡ more_declarations f (found ++ ds) r
unfolding more_declarations
more_declarations_go f found ds ts r b e = choose_true _ _ _ b ∙ bind_ok (declaration (skip terminal.Semicolon ts)) (ds, r) (λ d. more_declarations f (found ++ d.0) d.1) e

-- a declaration stands here, with a semicolon before it or not
optional_declaration : {s : List Kind} → IsOptional terminal.Semicolon s → (ts : List Kind) → name_ahead ts ≡ true → (sees terminal.Semicolon (s ++ ts) || name_ahead (s ++ ts)) ≡ true
optional_declaration grammar.absent ts e = either_way (sees terminal.Semicolon ts) _ e
  where
    either_way : (p q : Bool) → q ≡ true → (p || q) ≡ true
    either_way true q e = refl
    either_way false q e = e
optional_declaration grammar.present ts e = ap (λ (b : Bool). b || false) (sees_self terminal.Semicolon ts)

declaration_go : (f : ℕ) (found ds : List Declaration) (s c r : List Kind) → IsOptional terminal.Semicolon s → IsDeclaration ds c → more_declarations (suc f) found (s ++ (c ++ r)) ≡ more_declarations f (found ++ ds) r
declaration_go f found ds s c r o d =
    more_declarations_go f found ds (s ++ (c ++ r)) r (optional_declaration o (c ++ r) (declaration_named d r))
    (ap declaration (skip_optional o (c ++ r) (named_unseen terminal.Semicolon (c ++ r) (declaration_named d r))) ∙ complete_declaration d r)

-- declarations behind another
declarations_read : {ds : List Declaration} {c : List Kind} → IsDeclarations ds c → (f : ℕ) (found : List Declaration) (s r : List Kind) → IsOptional terminal.Semicolon s → length (s ++ (c ++ r)) ≤ f →
    sees terminal.Semicolon r ≡ false → name_ahead r ≡ false →
    more_declarations f found (s ++ (c ++ r)) ≡ Ok (found ++ ds, r)
declarations_read (grammar.one_declaration {ds} {c} d) zero found s r o len e k =
    let l = declaration_long d in let w = length-append c r in let v = optional_shorter o (c ++ r) in absurd (omega arith)
declarations_read (grammar.one_declaration {ds} {c} d) (suc f) found s r o len e k = declaration_go f found ds s c r o d ∙ declarations_stay f (found ++ ds) r e k
declarations_read (grammar.more_declarations {ds} {es} {c} {s = s'} {cs} d o' more) zero found s r o len e k =
    let l = declaration_long d in let w = length-append (c ++ (s' ++ cs)) r in let v = length-append c (s' ++ cs) in let u = optional_shorter o ((c ++ (s' ++ cs)) ++ r) in absurd (omega arith)
declarations_read (grammar.more_declarations {ds} {es} {c} {s = s'} {cs} d o' more) (suc f) found s r o len e k =
    let q = between c s' cs r in
    let l = declaration_long d in
    let w = length-append c (s' ++ (cs ++ r)) in
    let u = optional_shorter o (c ++ (s' ++ (cs ++ r))) in
    let len' : length (s ++ (c ++ (s' ++ (cs ++ r)))) ≤ suc f = subst (λ (ts : List Kind). length (s ++ ts) ≤ suc f) q len in
    ap (λ (ts : List Kind). more_declarations (suc f) found (s ++ ts)) q ∙ declaration_go f found ds s c (s' ++ (cs ++ r)) o d
    ∙ declarations_read more f (found ++ ds) s' r o' (omega (arith, l, w, u, len')) e k ∙ ap (λ (xs : List Declaration). Ok (xs, r)) (append_assoc found ds es)

close_no_semicolon : (r : List Kind) → sees terminal.Semicolon (TERMINAL terminal.CloseParenthesis ∷ r) ≡ false
unfolding same_terminal
close_no_semicolon r = refl

abbrev closed_formals : List Declaration × List Kind → Taken (List Declaration)
closed_formals ds = expect terminal.CloseParenthesis ds.1 >>= λ rest. Ok (ds.0, rest)

-- formals, where the first of them is known
formals_go : (ds es : List Declaration) (ts r' r : List Kind) → declaration ts ≡ Ok (ds, r') → more_declarations (length r') ds r' ≡ Ok (es, TERMINAL terminal.CloseParenthesis ∷ r) → formals (TERMINAL terminal.OpenParenthesis ∷ ts) ≡ Ok (es, r)
unfolding formals
formals_go ds es ts r' r e d =
    choose_true _ _ _ (sees_self terminal.OpenParenthesis ts) ∙ bind_ok (declaration ts) (ds, r') (λ d. more_declarations (length d.1) d.0 d.1 >>= closed_formals) e
    ∙ bind_ok (more_declarations (length r') ds r') (es, TERMINAL terminal.CloseParenthesis ∷ r) closed_formals d ∙ bind_ok (expect terminal.CloseParenthesis (TERMINAL terminal.CloseParenthesis ∷ r)) r (λ rest. Ok (es, rest)) (expect_self terminal.CloseParenthesis r)

formals_read : {ds : List Declaration} {c : List Kind} → IsDeclarations ds c → (r : List Kind) → formals (TERMINAL terminal.OpenParenthesis ∷ (c ++ TERMINAL terminal.CloseParenthesis ∷ r)) ≡ Ok (ds, r)
formals_read (grammar.one_declaration {ds} {c} d) r =
    formals_go ds ds (c ++ TERMINAL terminal.CloseParenthesis ∷ r) (TERMINAL terminal.CloseParenthesis ∷ r) r (complete_declaration d (TERMINAL terminal.CloseParenthesis ∷ r))
    (declarations_stay (suc (length r)) ds (TERMINAL terminal.CloseParenthesis ∷ r) (close_no_semicolon r) refl)
formals_read (grammar.more_declarations {ds} {es} {c} {s} {cs} d o more) r =
    ap (λ (ts : List Kind). formals (TERMINAL terminal.OpenParenthesis ∷ ts)) (between c s cs (TERMINAL terminal.CloseParenthesis ∷ r))
    ∙ formals_go ds (ds ++ es) (c ++ (s ++ (cs ++ TERMINAL terminal.CloseParenthesis ∷ r))) (s ++ (cs ++ TERMINAL terminal.CloseParenthesis ∷ r)) r (complete_declaration d (s ++ (cs ++ TERMINAL terminal.CloseParenthesis ∷ r)))
    (declarations_read more (length (s ++ (cs ++ TERMINAL terminal.CloseParenthesis ∷ r))) ds s (TERMINAL terminal.CloseParenthesis ∷ r) o (omega arith) (close_no_semicolon r) refl)

pub no_formals_read : (r : List Kind) → sees terminal.OpenParenthesis r ≡ false → formals r ≡ Ok ([], r)
unfolding formals
no_formals_read r e = choose_false _ _ _ e

pub complete_formals : {ds : List Declaration} {c : List Kind} → IsFormals ds c → (r : List Kind) → sees terminal.OpenParenthesis r ≡ false → formals (c ++ r) ≡ Ok (ds, r)
complete_formals grammar.no_formals r e = no_formals_read r e
complete_formals (grammar.formals {ds} {c} d) r e = ap (λ (ts : List Kind). formals (TERMINAL terminal.OpenParenthesis ∷ ts)) (append_assoc c (TERMINAL terminal.CloseParenthesis ∷ []) r) ∙ formals_read d r

locals_stay : (f : ℕ) (found : List Declaration) (r : List Kind) → name_ahead r ≡ false → locals_from f found r ≡ Ok (found, r)
unfolding locals_from
locals_stay zero found r e = refl
locals_stay (suc f) found r e = choose_false _ _ _ e

local_go : (f : ℕ) (found ds : List Declaration) (ts r' r : List Kind) → name_ahead ts ≡ true → declaration ts ≡ Ok (ds, r') → skip terminal.Semicolon r' ≡ r → locals_from (suc f) found ts ≡ locals_from f (found ++ ds) r
unfolding locals_from
local_go f found ds ts r' r b e k = choose_true _ _ _ b ∙ bind_ok (declaration ts) (ds, r') (λ d. locals_from f (found ++ d.0) (skip terminal.Semicolon d.1)) e ∙ ap (locals_from f (found ++ ds)) k

local_list_no_semicolon : {ds : List Declaration} {c : List Kind} → IsLocalList ds c → (r : List Kind) → sees terminal.Semicolon r ≡ false → sees terminal.Semicolon (c ++ r) ≡ false
local_list_no_semicolon grammar.no_local r e = e
local_list_no_semicolon (grammar.another_local {ds} {es} {c} {s} {cs} d o more) r e = named_unseen terminal.Semicolon _ (rw (append_assoc c (s ++ cs) r) (declaration_named d ((s ++ cs) ++ r)))

local_list_read : {ds : List Declaration} {c : List Kind} → IsLocalList ds c → (f : ℕ) (found : List Declaration) (r : List Kind) → length (c ++ r) ≤ f → sees terminal.Semicolon r ≡ false → name_ahead r ≡ false →
    locals_from f found (c ++ r) ≡ Ok (found ++ ds, r)
local_list_read grammar.no_local f found r len e k = locals_stay f found r k ∙ ap (λ (xs : List Declaration). Ok (xs, r)) (sym (append-nil found))
local_list_read (grammar.another_local {ds} {es} {c} {s} {cs} d o more) zero found r len e k =
    let l = declaration_long d in let w = length-append (c ++ (s ++ cs)) r in let v = length-append c (s ++ cs) in absurd (omega arith)
local_list_read (grammar.another_local {ds} {es} {c} {s} {cs} d o more) (suc f) found r len e k =
    let q = between c s cs r in
    let l = declaration_long d in
    let w = length-append c (s ++ (cs ++ r)) in
    let u = optional_shorter o (cs ++ r) in
    let len' : length (c ++ (s ++ (cs ++ r))) ≤ suc f = subst (λ (ts : List Kind). length ts ≤ suc f) q len in
    ap (locals_from (suc f) found) q
    ∙ local_go f found ds (c ++ (s ++ (cs ++ r))) (s ++ (cs ++ r)) (cs ++ r) (declaration_named d (s ++ (cs ++ r))) (complete_declaration d (s ++ (cs ++ r))) (skip_optional o (cs ++ r) (local_list_no_semicolon more r e))
    ∙ local_list_read more f (found ++ ds) r (omega (arith, l, w, u, len')) e k ∙ ap (λ (xs : List Declaration). Ok (xs, r)) (append_assoc found ds es)

pub complete_locals : {ds : List Declaration} {c : List Kind} → IsLocals ds c → (r : List Kind) → sees terminal.Local r ≡ false → sees terminal.Semicolon r ≡ false → name_ahead r ≡ false → locals (c ++ r) ≡ Ok (ds, r)
unfolding locals
complete_locals grammar.no_locals r e s k = choose_false _ _ _ e
complete_locals (grammar.locals {ds} {c} d) r e s k = choose_true _ _ _ (sees_self terminal.Local (c ++ r)) ∙ local_list_read d (length (c ++ r)) [] r (omega arith) s k

pub complete_result_type : {o : Option DeclaredType} {c : List Kind} → IsResultType o c → (r : List Kind) → sees terminal.Colon r ≡ false → result_type (c ++ r) ≡ Ok (o, r)
unfolding result_type
complete_result_type grammar.no_result r e = choose_false _ _ _ e
complete_result_type (grammar.result_type {t} {c} d) r e =
    choose_true _ _ _ (sees_self terminal.Colon (c ++ r)) ∙ bind_ok (declared_type (c ++ r)) (t, r) (λ t. Ok (Some t.0, t.1)) (complete_type d r)
