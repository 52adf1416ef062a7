-- Reading gives each tree that tokens spell, where what follows doesn't go on with it: features.
use Rattle.std.proofs.Common.{◌≡◌, ℕ, zero, suc, ◌+◌, ◌≤◌, max, true, false, List, [], ◌∷◌, ◌++◌, length, Option, Some, None, Ok, refl, ap, sym, ◌∙◌, subst, append_assoc, append-nil, length-append, arith}
use Rattle.std.specs.Prelude.{map}
use Rattle.sc_text.specs.Kind.{Kind, NAME, INTEGER, STRING, TERMINAL}
use Rattle.sc_text.specs.declared.token.Terminal.TheVariants as terminal
use Rattle.sc_tree.specs.Plain.{Name, RoutineDeclaration, DeclaredType, Declaration, Feature, Clause}
use Rattle.sc_tree.specs.Bare.{named}
use Rattle.sc_tree.specs.Grammar as grammar
use Rattle.sc_tree.specs.Grammar.{IsInstrs, declared_as, attribute_of, routine_of, class_of, heads_class, ends_class, exported_to, none_name, IsNames, IsOptional, IsType, IsDeclaration, IsDeclarations, IsFormals, IsLocalList, IsLocals, IsResultType, IsFeature, IsSemicolons, IsFeatures, IsExports, IsSections, IsFree, IsNote, IsMark, IsParent, IsParentList, IsParents, IsCreators, IsAssertion, IsClass, IsClasses}
use Rattle.sc_tree.specs.Internal.Reading.{◌>>=◌, past, same_terminal, sees, expect, skip, skip_semicolons, name_ahead, names, declared_type, instrs, assertion, formals, locals, result_type, begins_routine, export_list, exports, routine, attribute_or_routine, attributes, feature, features_from, sections_from, sections}
use Rattle.sc_tree.proofs.ReadingSteps.{between, Comes, fits, both, surely, lastly, along, needs, same_reads, nested_max, grown, where_true, where_false, bind_ok, choose_true, choose_false}
use Rattle.sc_tree.proofs.Looks.{expect_self, sees_self}
use Rattle.sc_tree.proofs.Lists.{some_tokens, skip_none, skip_all}
use Rattle.sc_tree.proofs.CompleteTypes.{NamesRead, names_read, names_are_read, complete_names, complete_type}
use Rattle.sc_tree.proofs.CompleteAssertions.{ClausesEnd, complete_assertion}
use Rattle.sc_tree.proofs.SimpleInstructions.{Ends, ends_by, end_ends}
use Rattle.sc_tree.proofs.CompleteInstructions.{complete_body}
use Rattle.sc_tree.proofs.Order.{Behind, behind, later, named_unseen, routine_ends_clauses, routine_rank, unseen}
use Rattle.sc_tree.proofs.CompleteDeclarations.{colon_no_comma, complete_formals, complete_locals, complete_result_type, names_named, no_formals_read, skip_optional}

-- ---- features

-- What a routine has behind its result type.
routine_begins : {pre : List Clause} {ls : List Declaration} {ci cr cl : List Kind} {hr : ℕ} → IsOptional terminal.Is ci → IsAssertion terminal.Require pre cr hr → IsLocals ls cl → (r : List Kind) →
    begins_routine (ci ++ (cr ++ (cl ++ TERMINAL terminal.Do ∷ r))) ≡ true
unfolding same_terminal
routine_begins grammar.present dr dl r = refl
routine_begins grammar.absent (grammar.assertion d) dl r = refl
routine_begins grammar.absent grammar.no_assertion (grammar.locals d) r = refl
routine_begins grammar.absent grammar.no_assertion grammar.no_locals r = refl

do_behind : (r : List Kind) → Behind routine_rank 5 (TERMINAL terminal.Do ∷ r)
do_behind r = behind terminal.Do r (omega arith)

locals_behind : {ls : List Declaration} {c : List Kind} → IsLocals ls c → (r : List Kind) → Behind routine_rank 5 r → Behind routine_rank 4 (c ++ r)
locals_behind grammar.no_locals r b = later 4 (omega arith) b
locals_behind (grammar.locals {ds} {c} d) r b = behind terminal.Local (c ++ r) (omega arith)

require_behind : {xs : List Clause} {c : List Kind} {h : ℕ} → IsAssertion terminal.Require xs c h → (r : List Kind) → Behind routine_rank 4 r → Behind routine_rank 3 (c ++ r)
require_behind grammar.no_assertion r b = later 3 (omega arith) b
require_behind (grammar.assertion {xs} {c} d) r b = behind terminal.Require (c ++ r) (omega arith)

is_behind : {c : List Kind} → IsOptional terminal.Is c → (r : List Kind) → Behind routine_rank 3 r → Behind routine_rank 2 (c ++ r)
is_behind grammar.absent r b = later 2 (omega arith) b
is_behind grammar.present r b = behind terminal.Is r (omega arith)

result_behind : {o : Option DeclaredType} {c : List Kind} → IsResultType o c → (r : List Kind) → Behind routine_rank 2 r → Behind routine_rank 1 (c ++ r)
result_behind grammar.no_result r b = later 1 (omega arith) b
result_behind (grammar.result_type {t} {c} d) r b = behind terminal.Colon (c ++ r) (omega arith)

formals_behind : {ds : List Declaration} {c : List Kind} → IsFormals ds c → (r : List Kind) → Behind routine_rank 1 r → Behind routine_rank 0 (c ++ r)
formals_behind grammar.no_formals r b = later 0 (omega arith) b
formals_behind (grammar.formals {ds} {c} d) r b = behind terminal.OpenParenthesis ((c ++ TERMINAL terminal.CloseParenthesis ∷ []) ++ r) (omega arith)

clauses_end_behind : {ts : List Kind} → Behind routine_rank 4 ts → ClausesEnd ts
clauses_end_behind (behind m r h) = routine_ends_clauses m r h

ensure_ends : {xs : List Clause} {c : List Kind} {h : ℕ} → IsAssertion terminal.Ensure xs c h → (r : List Kind) → Ends (c ++ TERMINAL terminal.End ∷ r)
unfolding same_terminal
ensure_ends grammar.no_assertion r = end_ends r
ensure_ends (grammar.assertion {xs} {c} d) r = ends_by terminal.Ensure (c ++ TERMINAL terminal.End ∷ r) refl refl refl

end_no_ensure : (r : List Kind) → sees terminal.Ensure (TERMINAL terminal.End ∷ r) ≡ false
unfolding same_terminal
end_no_ensure r = refl

do_no_semicolon : (r : List Kind) → sees terminal.Semicolon (TERMINAL terminal.Do ∷ r) ≡ false
unfolding same_terminal
do_no_semicolon r = refl

-- the parts of a routine, each read
routine_step : (n hr hb he : ℕ) (es : List Name) (x : List ℕ) (d : RoutineDeclaration) (ts ts' r1 r2 r3 r : List Kind) →
    skip terminal.Is ts ≡ ts' → Comes n hr (d.precondition, hr, r1) (assertion n terminal.Require ts') → locals r1 ≡ Ok (d.locals, TERMINAL terminal.Do ∷ r2) →
    Comes n hb (d.body, hb, r3) (instrs n r2) → Comes n he (d.postcondition, he, TERMINAL terminal.End ∷ r) (assertion n terminal.Ensure r3) →
    Comes n (max hr (max hb he)) (routine_of es (named x) d ∷ [], max hr (max hb he), r) (routine n es (named x) d.formals d.result_type ts)
unfolding routine same_terminal expect
routine_step n hr hb he es x d ts ts' r1 r2 r3 r k dr dl db de =
    rw k
    (both n hr (max hb he) (d.precondition, hr, r1) _ _ _ dr λ p. surely n (max hb he) (d.locals, TERMINAL terminal.Do ∷ r2) _ _ _ dl
    (both n hb he (d.body, hb, r3) _ _ _ db λ q. lastly n he (d.postcondition, he, TERMINAL terminal.End ∷ r) _ _ _ de refl))

-- a routine, behind its result type
complete_routine : (d : RoutineDeclaration) {ci cr cl cb ce : List Kind} {hr hb he : ℕ} →
    IsOptional terminal.Is ci → IsAssertion terminal.Require d.precondition cr hr → IsLocals d.locals cl → IsInstrs d.body cb hb →
    IsAssertion terminal.Ensure d.postcondition ce he → (n : ℕ) (es : List Name) (x : List ℕ) (r : List Kind) →
    Comes n (max hr (max hb he)) (routine_of es (named x) d ∷ [], max hr (max hb he), r)
    (routine n es (named x) d.formals d.result_type (ci ++ (cr ++ (cl ++ TERMINAL terminal.Do ∷ (cb ++ (ce ++ TERMINAL terminal.End ∷ r))))))
complete_routine d {ci} {cr} {cl} {cb} {ce} {hr} {hb} {he} di dr dl db de n es x r =
    let r3 : List Kind = ce ++ TERMINAL terminal.End ∷ r in
    let r2 : List Kind = cb ++ r3 in
    let bl = locals_behind dl (TERMINAL terminal.Do ∷ r2) (do_behind r2) in
    let br = require_behind dr (cl ++ TERMINAL terminal.Do ∷ r2) bl in
    routine_step n hr hb he es x d _ (cr ++ (cl ++ TERMINAL terminal.Do ∷ r2)) (cl ++ TERMINAL terminal.Do ∷ r2) r2 r3 r (skip_optional di (cr ++ (cl ++ TERMINAL terminal.Do ∷ r2)) (unseen br terminal.Is (omega arith)))
    (complete_assertion dr (cl ++ TERMINAL terminal.Do ∷ r2) (clauses_end_behind bl) (unseen bl terminal.Require (omega arith)) n)
    (complete_locals dl (TERMINAL terminal.Do ∷ r2) (unseen (do_behind r2) terminal.Local (omega arith)) (do_no_semicolon r2) refl) (complete_body db r3 (ensure_ends de r) n)
    (complete_assertion de (TERMINAL terminal.End ∷ r) (routine_ends_clauses terminal.End r (omega arith)) (end_no_ensure r) n)

-- where a routine goes on, no attribute stands
is_routine : (n : ℕ) (es : List Name) (x : List ℕ) (fs : List Declaration) (o : Option DeclaredType) (ts : List Kind) → begins_routine ts ≡ true → attribute_or_routine n es (named x) fs o ts ≡ routine n es (named x) fs o ts
is_routine n es x fs None ts b = refl
is_routine n es x [] (Some t) ts b = choose_true _ _ _ b
is_routine n es x (f ∷ fs) (Some t) ts b = refl

-- one name, and what follows it
single_step : (n h : ℕ) (es : List Name) (x : List ℕ) (fs : List Declaration) (o : Option DeclaredType) (ts r1 r2 : List Kind) (y : List Feature × ℕ × List Kind) →
    sees terminal.Comma ts ≡ false → formals ts ≡ Ok (fs, r1) → result_type r1 ≡ Ok (o, r2) → Comes n h y (attribute_or_routine n es (named x) fs o r2) → Comes n h y (feature n es (NAME x ∷ ts))
unfolding feature
single_step n h es x fs o ts r1 r2 y e df dt d = where_false _ _ _ _ _ _ e (surely n h (fs, r1) _ _ _ df (surely n h (o, r2) _ _ _ dt d))

colon_no_formals : (r : List Kind) → sees terminal.OpenParenthesis (TERMINAL terminal.Colon ∷ r) ≡ false
unfolding same_terminal
colon_no_formals r = refl

lone_step : (n : ℕ) (es : List Name) (x : List ℕ) (t : DeclaredType) (ts r : List Kind) → result_type (TERMINAL terminal.Colon ∷ ts) ≡ Ok (Some t, r) → begins_routine r ≡ false →
    Comes n 0 (attribute_of es t (named x) ∷ [], 0, r) (feature n es (NAME x ∷ TERMINAL terminal.Colon ∷ ts))
lone_step n es x t ts r d b =
    single_step n 0 es x [] (Some t) (TERMINAL terminal.Colon ∷ ts) (TERMINAL terminal.Colon ∷ ts) r _ (colon_no_comma ts) (no_formals_read (TERMINAL terminal.Colon ∷ ts) (colon_no_formals ts)) d (fits (omega arith) (choose_false _ _ _ b))

type_read : (t : DeclaredType) (ts r : List Kind) → declared_type ts ≡ Ok (t, r) → result_type (TERMINAL terminal.Colon ∷ ts) ≡ Ok (Some t, r)
unfolding result_type
type_read t ts r d = choose_true _ _ _ (sees_self terminal.Colon ts) ∙ bind_ok (declared_type ts) (t, r) (λ t. Ok (Some t.0, t.1)) d

attributes_step : (n : ℕ) (es : List Name) (xs : List Name) (t : DeclaredType) (c ct r : List Kind) → NamesRead xs c → sees terminal.Comma (past (c ++ TERMINAL terminal.Colon ∷ (ct ++ r))) ≡ true → declared_type (ct ++ r) ≡ Ok (t, r) →
    Comes n 0 (map (attribute_of es t) xs, 0, r) (feature n es (c ++ TERMINAL terminal.Colon ∷ (ct ++ r)))
unfolding feature attributes
attributes_step n es _ t _ ct r (names_read x more c all) k d =
    where_true _ _ _ _ _ _ k
    (surely n 0 (named x ∷ more, TERMINAL terminal.Colon ∷ (ct ++ r)) _ _ _ (all (length (c ++ TERMINAL terminal.Colon ∷ (ct ++ r))) (named x ∷ []) (TERMINAL terminal.Colon ∷ (ct ++ r)) (shorter (length-append c (TERMINAL terminal.Colon ∷ (ct ++ r)))) (colon_no_comma (ct ++ r)))
    (surely n 0 (ct ++ r) _ _ _ (expect_self terminal.Colon (ct ++ r)) (surely n 0 (t, r) _ _ _ d (fits (omega arith) refl))))
  where
    shorter : length (c ++ TERMINAL terminal.Colon ∷ (ct ++ r)) ≡ length c + suc (length (ct ++ r)) → length c ≤ length (c ++ TERMINAL terminal.Colon ∷ (ct ++ r))
    shorter e = omega arith

routine_respelled : (cf ct ci cr cl cb ce r : List Kind) (s t : Kind) →
    (cf ++ (ct ++ (ci ++ (cr ++ (cl ++ s ∷ (cb ++ (ce ++ t ∷ []))))))) ++ r ≡ cf ++ (ct ++ (ci ++ (cr ++ (cl ++ s ∷ (cb ++ (ce ++ t ∷ r))))))
routine_respelled cf ct ci cr cl cb ce r s t = simp append_assoc

complete_feature : {es : List Name} {fs : List Feature} {c : List Kind} {h : ℕ} → IsFeature es fs c h → (r : List Kind) → begins_routine r ≡ false → (n : ℕ) → Comes n h (fs, h, r) (feature n es (c ++ r))
complete_feature {es} (grammar.attributes {t} {ct} (grammar.one_name x) dt) r b n = lone_step n es x t (ct ++ r) r (type_read t (ct ++ r) r (complete_type dt r)) b
complete_feature {es} (grammar.attributes {t} {ct} (grammar.more_names x {xs} {c} d) dt) r b n =
    rw (append_assoc c (TERMINAL terminal.Colon ∷ ct) r)
    (attributes_step n es (named x ∷ xs) t (NAME x ∷ TERMINAL terminal.Comma ∷ c) ct r (names_are_read (grammar.more_names x d)) (sees_self terminal.Comma (c ++ TERMINAL terminal.Colon ∷ (ct ++ r))) (complete_type dt r))
complete_feature {es} (grammar.routine x {r = d} {cf} {ct} {ci} {cr} {cl} {cb} {ce} {hr} {hb} {he} df dt di dr dl db de) r b n =
    let r2 : List Kind = cb ++ (ce ++ TERMINAL terminal.End ∷ r) in
    let bl = locals_behind dl (TERMINAL terminal.Do ∷ r2) (do_behind r2) in
    let br = require_behind dr (cl ++ TERMINAL terminal.Do ∷ r2) bl in
    let bi = is_behind di (cr ++ (cl ++ TERMINAL terminal.Do ∷ r2)) br in
    let bt = result_behind dt (ci ++ (cr ++ (cl ++ TERMINAL terminal.Do ∷ r2))) bi in
    let bf = formals_behind df (ct ++ (ci ++ (cr ++ (cl ++ TERMINAL terminal.Do ∷ r2)))) bt in
    rw (routine_respelled cf ct ci cr cl cb ce r (TERMINAL terminal.Do) (TERMINAL terminal.End))
    (single_step n _ es x d.formals d.result_type _ (ct ++ (ci ++ (cr ++ (cl ++ TERMINAL terminal.Do ∷ r2)))) (ci ++ (cr ++ (cl ++ TERMINAL terminal.Do ∷ r2))) _ (unseen bf terminal.Comma (omega arith))
    (complete_formals df (ct ++ (ci ++ (cr ++ (cl ++ TERMINAL terminal.Do ∷ r2)))) (unseen bt terminal.OpenParenthesis (omega arith))) (complete_result_type dt (ci ++ (cr ++ (cl ++ TERMINAL terminal.Do ∷ r2))) (unseen bi terminal.Colon (omega arith)))
    (along n _ _ _ _ _ _ refl refl (is_routine n es x d.formals d.result_type (ci ++ (cr ++ (cl ++ TERMINAL terminal.Do ∷ r2))) (routine_begins di dr dl r2)) (complete_routine d di dr dl db de n es x r)))

feature_named : {es : List Name} {fs : List Feature} {c : List Kind} {h : ℕ} → IsFeature es fs c h → (r : List Kind) → name_ahead (c ++ r) ≡ true
feature_named (grammar.attributes (grammar.one_name x) dt) r = refl
feature_named (grammar.attributes (grammar.more_names x d) dt) r = refl
feature_named (grammar.routine x df dt di dr dl db de) r = refl

feature_long : {es : List Name} {fs : List Feature} {c : List Kind} {h : ℕ} → IsFeature es fs c h → 1 ≤ length c
feature_long {es} {fs} {c} d = some_tokens name_ahead c refl (feature_named d [])

features_no_semicolon : {es : List Name} {fs : List Feature} {c : List Kind} {h : ℕ} → IsFeatures es fs c h → (r : List Kind) → sees terminal.Semicolon r ≡ false → sees terminal.Semicolon (c ++ r) ≡ false
features_no_semicolon grammar.no_feature r e = e
features_no_semicolon (grammar.feature {fs} {gs} {c} {s} {cs} d ds dg) r e = named_unseen terminal.Semicolon _ (rw (append_assoc c (s ++ cs) r) (feature_named d ((s ++ cs) ++ r)))

named_no_routine : (ts : List Kind) → name_ahead ts ≡ true → begins_routine ts ≡ false
named_no_routine [] e = refl
named_no_routine (NAME x ∷ r) e = refl
named_no_routine (INTEGER n ∷ r) e = refl
named_no_routine (STRING s ∷ r) e = refl
named_no_routine (TERMINAL m ∷ r) e = cc

features_no_routine : {es : List Name} {fs : List Feature} {c : List Kind} {h : ℕ} → IsFeatures es fs c h → (r : List Kind) → begins_routine r ≡ false → begins_routine (c ++ r) ≡ false
features_no_routine grammar.no_feature r e = e
features_no_routine (grammar.feature {fs} {gs} {c} {s} {cs} d ds dg) r e = named_no_routine _ (rw (append_assoc c (s ++ cs) r) (feature_named d ((s ++ cs) ++ r)))

semicolons_no_routine : {s : List Kind} → IsSemicolons s → (r : List Kind) → begins_routine r ≡ false → begins_routine (s ++ r) ≡ false
unfolding same_terminal
semicolons_no_routine grammar.no_semicolon r e = e
semicolons_no_routine (grammar.one_more d) r e = refl

-- No feature begins here, and no routine goes on.
pub record FeaturesEnd (r : List Kind) : Type 0 where
  pub name : name_ahead r ≡ false
  pub semicolon : sees terminal.Semicolon r ≡ false
  pub routine : begins_routine r ≡ false

FeaturesRead : List Name → List Feature → List Kind → ℕ → Type 0
FeaturesRead es fs c h = (r : List Kind) → FeaturesEnd r → (n f : ℕ) (found : List Feature) (high : ℕ) → length (c ++ r) ≤ f → high ≤ n → Comes n h (found ++ fs, max high h, r) (features_from n es f found high (c ++ r))

features_stay : (n : ℕ) (es : List Name) (f : ℕ) (found : List Feature) (high : ℕ) (r : List Kind) → name_ahead r ≡ false → features_from n es f found high r ≡ Ok (found, high, r)
unfolding features_from
features_stay n es zero found high r e = refl
features_stay n es (suc f) found high r e = choose_false _ _ _ e

no_feature_step : (es : List Name) → FeaturesRead es [] [] 0
unfolding FeaturesRead
no_feature_step es r e n f found high len l =
    let w : high ≡ max high 0 = omega arith in
    fits (omega arith) (features_stay n es f found high r e.name ∙ ap (λ (s : List Feature). Ok (s, high, r)) (sym (append-nil found)) ∙ ap (λ (m : ℕ). Ok (found ++ [], m, r)) w)

-- one feature, or the attributes of one type, and the rest of them
feature_step : (n : ℕ) (es : List Name) (f : ℕ) (found : List Feature) (high h hs : ℕ) (fs gs : List Feature) (ts r' r'' r : List Kind) → name_ahead ts ≡ true → skip_semicolons r' ≡ r'' → high ≤ n → Comes n h (fs, h, r') (feature n es ts) →
    (max high h ≤ n → Comes n hs ((found ++ fs) ++ gs, max (max high h) hs, r) (features_from n es f (found ++ fs) (max high h) r'')) →
    Comes n (max h hs) (found ++ (fs ++ gs), max high (max h hs), r) (features_from n es (suc f) found high ts)
unfolding features_from
feature_step n es f found high h hs fs gs ts r' r'' r b k l d more =
    grown n high h h hs hs (max h hs) fs _ _ r' r _ _ _ (choose_true _ _ _ b) (append_assoc found fs gs) refl d (λ p. rw k (more (omega arith)))

feature_at : (n h hs : ℕ) (es : List Name) (fs gs : List Feature) (c s cs r : List Kind) → IsFeature es fs c h → IsSemicolons s → sees terminal.Semicolon (cs ++ r) ≡ false → begins_routine (cs ++ r) ≡ false →
    ((f : ℕ) (found : List Feature) (high : ℕ) → length (cs ++ r) ≤ f → high ≤ n → Comes n hs (found ++ gs, max high hs, r) (features_from n es f found high (cs ++ r))) →
    (f : ℕ) (found : List Feature) (high : ℕ) → length (c ++ (s ++ (cs ++ r))) ≤ f → high ≤ n → Comes n (max h hs) (found ++ (fs ++ gs), max high (max h hs), r) (features_from n es f found high (c ++ (s ++ (cs ++ r))))
feature_at n h hs es fs gs c s cs r d ds k b more zero found high len l = let e = length-append c (s ++ (cs ++ r)) in let m = feature_long d in absurd (omega arith)
feature_at n h hs es fs gs c s cs r d ds k b more (suc f) found high len l =
    let e = length-append c (s ++ (cs ++ r)) in
    let e' = length-append s (cs ++ r) in
    let m = feature_long d in
    feature_step n es f found high h hs fs gs _ (s ++ (cs ++ r)) (cs ++ r) r (feature_named d (s ++ (cs ++ r))) (skip_all ds (cs ++ r) ∙ skip_none (cs ++ r) k) l (complete_feature d (s ++ (cs ++ r)) (semicolons_no_routine ds (cs ++ r) b) n)
    (λ p. more f (found ++ fs) (max high h) (omega arith) p)

some_feature_step : (h hs : ℕ) (es : List Name) (fs gs : List Feature) (c s cs : List Kind) → IsFeature es fs c h → IsSemicolons s → IsFeatures es gs cs hs → FeaturesRead es gs cs hs → FeaturesRead es (fs ++ gs) (c ++ (s ++ cs)) (max h hs)
unfolding FeaturesRead
some_feature_step h hs es fs gs c s cs d ds dg more r e n f found high len l =
    rw (between c s cs r) (feature_at n h hs es fs gs c s cs r d ds (features_no_semicolon dg r e.semicolon) (features_no_routine dg r e.routine) (more r e n) f found high (subst (λ (ts : List Kind). length ts ≤ f) (between c s cs r) len) l)

complete_features : {es : List Name} {fs : List Feature} {c : List Kind} {h : ℕ} → IsFeatures es fs c h → FeaturesRead es fs c h
complete_features {es} grammar.no_feature = no_feature_step es
complete_features {es} (grammar.feature {fs} {gs} {c} {s} {cs} {h} {hs} d ds dg) = some_feature_step h hs es fs gs c s cs d ds dg (complete_features dg)

-- ---- export lists

closed_names : (xs : List Name) (ts r : List Kind) → name_ahead ts ≡ true → names ts ≡ Ok (xs, TERMINAL terminal.CloseBrace ∷ r) → exports (TERMINAL terminal.OpenBrace ∷ ts) ≡ Ok (exported_to xs, r)
unfolding exports export_list
closed_names xs ts r k e =
    choose_true _ _ _ (sees_self terminal.OpenBrace ts) ∙ choose_false _ _ _ (named_unseen terminal.CloseBrace ts k)
    ∙ bind_ok (names ts) (xs, TERMINAL terminal.CloseBrace ∷ r) (λ ns. expect terminal.CloseBrace ns.1 >>= λ rest. Ok (exported_to ns.0, rest)) e
    ∙ bind_ok (expect terminal.CloseBrace (TERMINAL terminal.CloseBrace ∷ r)) r (λ rest. Ok (exported_to xs, rest)) (expect_self terminal.CloseBrace r)

brace_no_comma : (r : List Kind) → sees terminal.Comma (TERMINAL terminal.CloseBrace ∷ r) ≡ false
unfolding same_terminal
brace_no_comma r = refl

complete_exports : {es : List Name} {c : List Kind} → IsExports es c → (r : List Kind) → sees terminal.OpenBrace r ≡ false → exports (c ++ r) ≡ Ok (es, r)
unfolding exports export_list same_terminal
complete_exports grammar.no_exports r e = choose_false _ _ _ e
complete_exports grammar.empty_exports r e = refl
complete_exports (grammar.exports {xs} {c} d) r e =
    ap (λ (ts : List Kind). exports (TERMINAL terminal.OpenBrace ∷ ts)) (append_assoc c (TERMINAL terminal.CloseBrace ∷ []) r)
    ∙ closed_names xs (c ++ TERMINAL terminal.CloseBrace ∷ r) r (names_named d (TERMINAL terminal.CloseBrace ∷ r)) (complete_names d (TERMINAL terminal.CloseBrace ∷ r) (brace_no_comma r))

-- ---- `feature` and what stands under it

-- No feature begins here, nor does `feature` stand here.
pub record SectionsEnd (r : List Kind) : Type 0 where
  pub features : FeaturesEnd r
  pub section : sees terminal.Feature r ≡ false
  pub brace : sees terminal.OpenBrace r ≡ false

SectionsRead : List Feature → List Kind → ℕ → Type 0
SectionsRead fs c h = (r : List Kind) → SectionsEnd r → (n f : ℕ) (found : List Feature) (high : ℕ) → length (c ++ r) ≤ f → high ≤ n → Comes n h (found ++ fs, max high h, r) (sections_from n f found high (c ++ r))

sections_stay : (n f : ℕ) (found : List Feature) (high : ℕ) (r : List Kind) → sees terminal.Feature r ≡ false → sections_from n f found high r ≡ Ok (found, high, r)
unfolding sections_from
sections_stay n zero found high r e = refl
sections_stay n (suc f) found high r e = choose_false _ _ _ e

no_section_step : SectionsRead [] [] 0
unfolding SectionsRead
no_section_step r e n f found high len l =
    let w : high ≡ max high 0 = omega arith in
    fits (omega arith) (sections_stay n f found high r e.section ∙ ap (λ (s : List Feature). Ok (s, high, r)) (sym (append-nil found)) ∙ ap (λ (m : ℕ). Ok (found ++ [], m, r)) w)

sections_end : {fs : List Feature} {c : List Kind} {h : ℕ} → IsSections fs c h → (r : List Kind) → SectionsEnd r → FeaturesEnd (c ++ r)
unfolding same_terminal
sections_end grammar.no_section r e = e.features
sections_end (grammar.section de d ds) r e = record { name = refl; semicolon = refl; routine = refl }

section_step : (n f : ℕ) (found : List Feature) (high h hs : ℕ) (es : List Name) (fs gs : List Feature) (ts ts' r' r : List Kind) → high ≤ n → exports ts ≡ Ok (es, ts') →
    Comes n h (found ++ fs, max high h, r') (features_from n es (length ts') found high ts') →
    (max high h ≤ n → Comes n hs ((found ++ fs) ++ gs, max (max high h) hs, r) (sections_from n f (found ++ fs) (max high h) r')) →
    Comes n (max h hs) (found ++ (fs ++ gs), max high (max h hs), r) (sections_from n (suc f) found high (TERMINAL terminal.Feature ∷ ts))
unfolding sections_from same_terminal
section_step n f found high h hs es fs gs ts ts' r' r l e d more =
    along n (max h hs) (max h hs) ((found ++ fs) ++ gs, max (max high h) hs, r) (found ++ (fs ++ gs), max high (max h hs), r) _ _ refl
    (same_reads ((found ++ fs) ++ gs) (found ++ (fs ++ gs)) (max (max high h) hs) (max high (max h hs)) r (append_assoc found fs gs) (nested_max high h hs)) refl
    (surely n (max h hs) (es, ts') _ _ _ e (both n h hs (found ++ fs, max high h, r') ((found ++ fs) ++ gs, max (max high h) hs, r) _ _ d (λ p. more (omega arith))))

section_at : (n h hs : ℕ) (es : List Name) (fs gs : List Feature) (ce c cs r : List Kind) → exports (ce ++ (c ++ (cs ++ r))) ≡ Ok (es, c ++ (cs ++ r)) →
    ((f : ℕ) (found : List Feature) (high : ℕ) → length (c ++ (cs ++ r)) ≤ f → high ≤ n → Comes n h (found ++ fs, max high h, cs ++ r) (features_from n es f found high (c ++ (cs ++ r)))) →
    ((f : ℕ) (found : List Feature) (high : ℕ) → length (cs ++ r) ≤ f → high ≤ n → Comes n hs (found ++ gs, max high hs, r) (sections_from n f found high (cs ++ r))) →
    (f : ℕ) (found : List Feature) (high : ℕ) → suc (length (ce ++ (c ++ (cs ++ r)))) ≤ f → high ≤ n →
    Comes n (max h hs) (found ++ (fs ++ gs), max high (max h hs), r) (sections_from n f found high (TERMINAL terminal.Feature ∷ (ce ++ (c ++ (cs ++ r)))))
section_at n h hs es fs gs ce c cs r x d more zero found high len l = absurd (omega arith)
section_at n h hs es fs gs ce c cs r x d more (suc f) found high len l =
    let e = length-append ce (c ++ (cs ++ r)) in
    let e' = length-append c (cs ++ r) in
    section_step n f found high h hs es fs gs _ (c ++ (cs ++ r)) (cs ++ r) r l x (d (length (c ++ (cs ++ r))) found high (omega arith) l) (λ p. more f (found ++ fs) (max high h) (omega arith) p)

sections_no_brace : {fs : List Feature} {c : List Kind} {h : ℕ} → IsSections fs c h → (r : List Kind) → sees terminal.OpenBrace r ≡ false → sees terminal.OpenBrace (c ++ r) ≡ false
unfolding same_terminal
sections_no_brace grammar.no_section r e = e
sections_no_brace (grammar.section de d ds) r e = refl

features_no_brace : {es : List Name} {fs : List Feature} {c : List Kind} {h : ℕ} → IsFeatures es fs c h → (r : List Kind) → sees terminal.OpenBrace r ≡ false → sees terminal.OpenBrace (c ++ r) ≡ false
features_no_brace grammar.no_feature r e = e
features_no_brace (grammar.feature {fs} {gs} {c} {s} {cs} d ds dg) r e = named_unseen terminal.OpenBrace _ (rw (append_assoc c (s ++ cs) r) (feature_named d ((s ++ cs) ++ r)))

some_section_step : (h hs : ℕ) (es : List Name) (fs gs : List Feature) (ce c cs : List Kind) → IsExports es ce → IsFeatures es fs c h → IsSections gs cs hs → SectionsRead gs cs hs →
    SectionsRead (fs ++ gs) (TERMINAL terminal.Feature ∷ (ce ++ (c ++ cs))) (max h hs)
unfolding FeaturesRead SectionsRead
some_section_step h hs es fs gs ce c cs de df ds more r e n f found high len l =
    rw (between ce c cs r)
    (section_at n h hs es fs gs ce c cs r (complete_exports de (c ++ (cs ++ r)) (features_no_brace df (cs ++ r) (sections_no_brace ds r e.brace))) (complete_features df (cs ++ r) (sections_end ds r e) n) (more r e n) f found high
    (subst (λ (ts : List Kind). suc (length ts) ≤ f) (between ce c cs r) len) l)

complete_sections_from : {fs : List Feature} {c : List Kind} {h : ℕ} → IsSections fs c h → SectionsRead fs c h
complete_sections_from grammar.no_section = no_section_step
complete_sections_from (grammar.section {es} {fs} {gs} {ce} {c} {cs} {h} {hs} de d ds) = some_section_step h hs es fs gs ce c cs de d ds (complete_sections_from ds)

pub complete_sections : {fs : List Feature} {c : List Kind} {h : ℕ} → IsSections fs c h → (r : List Kind) → SectionsEnd r → (n : ℕ) → Comes n h (fs, h, r) (sections n (c ++ r))
unfolding sections SectionsRead
complete_sections {fs} {c} {h} d r e n =
    let w : max 0 h ≡ h = omega arith in
    needs n h h (max 0 h) h fs r _ refl w (complete_sections_from d r e n (length (c ++ r)) [] 0 (omega arith) (omega arith))
