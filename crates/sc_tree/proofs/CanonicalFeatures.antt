-- The canonical tokens of declarations and features spell them.
use Rattle.std.proofs.Common.{◌≡◌, ℕ, ◌≤◌, max, ◌&&◌, Bool, true, false, List, [], ◌∷◌, ◌++◌, map, Option, refl, ap, sym, ◌∙◌, subst, arith, append-nil, append_assoc}
use Rattle.std.specs.Prelude.{if◌then◌else◌}
use Rattle.std.specs.Str.{bytes_eq}
use Rattle.std.proofs.lemmas.Slice.Eq.{bytes_eq-Decides}
use Rattle.sc_text.specs.Kind.{Kind, NAME, TERMINAL}
use Rattle.sc_text.specs.declared.token.Terminal.TheVariants as terminal
use Rattle.sc_tree.specs.Plain.{Name, RoutineDeclaration, DeclaredType, Declaration, Feature}
use Rattle.sc_tree.specs.Bare.{named, bare_name}
use Rattle.sc_tree.specs.Grammar.{IsNames, one_name, more_names, absent, present, IsType, declared_as, IsDeclaration, declaration, IsDeclarations, one_declaration, more_declarations, IsFormals, no_formals, formals, IsLocalList, no_local, another_local, IsLocals, no_locals, locals, IsResultType, no_result, result_type, attribute_of, routine_of, IsFeature, attributes, routine, no_semicolon, IsFeatures, no_feature, feature, any_name, none_name, IsExports, no_exports, empty_exports, exports, IsSections, no_section, section, IsAssertion, IsInstrs}
use Rattle.sc_tree.specs.Canonical.Layout.{word, separated, tokens_of_parts, tokens_of_lines}
use Rattle.sc_tree.specs.Canonical.Expressions.{class_names_parts, type_parts}
use Rattle.sc_tree.specs.Canonical.Instructions.{instrs_lines, assertion_lines}
use Rattle.sc_tree.specs.Canonical.Classes.{declaration_parts, formals_parts, result_type_parts, local_line, locals_lines, feature_lines, same_names, exports_parts, section_line, further_features_lines, sections_lines}
use Rattle.sc_tree.proofs.CanonicalTokens.{Keeps, same, each, added, added_none, dropped, both, twice, nothing, through, before, behind, Remains, Again, remains_along, again_along, kept_along, tokens-append, lines-append}
use Rattle.sc_tree.proofs.CanonicalExpressions.{class_names_again, type_again}
use Rattle.sc_tree.proofs.CanonicalInstructions.{assertion_again, instrs_again}

-- ---- declarations

-- each of these declarations by itself, from tokens that spelled them together
data Declared (c : List Kind) : List Declaration → Type 0 where
  none_declared : Declared c []
  declared : {d : Declaration} {ds : List Declaration} → Remains (IsDeclaration (d ∷ [])) c (tokens_of_parts (declaration_parts d)) → Declared c ds →
      Declared c (d ∷ ds)

wider : {c e : List Kind} {ds : List Declaration} → ((x : List Kind) → Keeps c x → Keeps e x) → Declared c ds → Declared e ds
wider k none_declared = none_declared
wider k (declared r ds) = declared (record { spelled = r.spelled; kept = k _ r.kept }) (wider k ds)

joined : {c : List Kind} {ds es : List Declaration} → Declared c ds → Declared c es → Declared c (ds ++ es)
joined none_declared es = es
joined (declared r ds) es = declared r (joined ds es)

named_declared : {t : DeclaredType} {ct : List Kind} → IsType t ct → {xs : List Name} {c : List Kind} → IsNames xs c →
    Declared (c ++ TERMINAL terminal.Colon ∷ ct) (map (declared_as t) xs)
unfolding declaration_parts
named_declared d (one_name x) = let r = type_again d in declared
    (record {
      spelled = declaration (one_name x) r.spelled;
      kept = each _ (each _ r.kept);
    }) none_declared
named_declared d (more_names x {c = c} ds) =
    let r = type_again d in
    declared (record { spelled = declaration (one_name x) r.spelled; kept = each _ (dropped _ (behind c (each _ r.kept))) })
    (wider (λ y k. dropped _ (dropped _ k)) (named_declared d ds))

declaration_declared : {ds : List Declaration} {c : List Kind} → IsDeclaration ds c → Declared c ds
declaration_declared (declaration d t) = named_declared t d

declarations_declared : {ds : List Declaration} {c : List Kind} → IsDeclarations ds c → Declared c ds
declarations_declared (one_declaration d) = declaration_declared d
declarations_declared (more_declarations {c = c} {s = s} {cs = cs} d o ds) =
    joined (wider (λ x k. before (s ++ cs) k) (declaration_declared d)) (wider (λ x k. behind c (behind s k)) (declarations_declared ds))

locals_declared : {ds : List Declaration} {c : List Kind} → IsLocalList ds c → Declared c ds
locals_declared no_local = none_declared
locals_declared (another_local {c = c} {s = s} {cs = cs} d o ds) =
    joined (wider (λ x k. before (s ++ cs) k) (declaration_declared d)) (wider (λ x k. behind c (behind s k)) (locals_declared ds))

declarations_again : {c : List Kind} (d : Declaration) (ds : List Declaration) → Declared c (d ∷ ds) →
    Remains (IsDeclarations (d ∷ ds)) c (tokens_of_parts (separated (word terminal.Semicolon) declaration_parts (d ∷ ds)))
declarations_again d [] (declared r rs) = remains_along (ap tokens_of_parts (append-nil (declaration_parts d)))
    (record {
      spelled = one_declaration r.spelled;
      kept = r.kept;
    })
declarations_again d (e ∷ es) (declared r rs) =
    let q = declarations_again e es rs in
    remains_along (tokens-append (declaration_parts d) _)
    (record {
      spelled = more_declarations r.spelled present q.spelled;
      kept = twice r.kept (added _ q.kept);
    })

some_formals_again : (ds : List Declaration) {c : List Kind} → Declared c ds → Remains (IsFormals ds) c (tokens_of_parts (formals_parts ds))
some_formals_again [] r = record { spelled = no_formals; kept = nothing _ }
some_formals_again (d ∷ ds) {c = c} r =
    let q = declarations_again d ds r in
    remains_along (ap (λ x. TERMINAL terminal.OpenParenthesis ∷ x) (tokens-append (separated (word terminal.Semicolon) declaration_parts (d ∷ ds)) _))
    (record { spelled = formals q.spelled; kept = added _ (twice q.kept (added _ (nothing c))) })

formals_again : {ds : List Declaration} {c : List Kind} → IsFormals ds c → Remains (IsFormals ds) c (tokens_of_parts (formals_parts ds))
formals_again no_formals = record { spelled = no_formals; kept = same _ }
formals_again (formals {ds} {c} d) = let r = some_formals_again ds (declarations_declared d) in
    record {
      spelled = r.spelled;
      kept = dropped _ (before _ r.kept);
    }

local_list_again : (ds : List Declaration) {c : List Kind} → Declared c ds → Remains (IsLocalList ds) c (tokens_of_lines (map local_line ds))
local_list_again [] r = record { spelled = no_local; kept = nothing _ }
local_list_again (d ∷ ds) (declared r rs) = let q = local_list_again ds rs in
    record {
      spelled = another_local r.spelled absent q.spelled;
      kept = twice r.kept q.kept;
    }

some_locals_again : (ds : List Declaration) {c : List Kind} → Declared c ds →
    Remains (IsLocals ds) (TERMINAL terminal.Local ∷ c) (tokens_of_lines (locals_lines ds))
some_locals_again [] r = record { spelled = no_locals; kept = nothing _ }
some_locals_again (d ∷ ds) r = let q = local_list_again (d ∷ ds) r in record { spelled = locals q.spelled; kept = each _ q.kept }

locals_again : {ds : List Declaration} {c : List Kind} → IsLocals ds c → Remains (IsLocals ds) c (tokens_of_lines (locals_lines ds))
locals_again no_locals = record { spelled = no_locals; kept = same _ }
locals_again (locals {ds} d) = some_locals_again ds (locals_declared d)

result_type_again : {t : Option DeclaredType} {c : List Kind} → IsResultType t c → Remains (IsResultType t) c (tokens_of_parts (result_type_parts t))
result_type_again no_result = record { spelled = no_result; kept = same _ }
result_type_again (result_type d) = let r = type_again d in record { spelled = result_type r.spelled; kept = each _ r.kept }

-- ---- export lists

names_bare : {xs : List Name} {c : List Kind} → IsNames xs c → xs ≡ map bare_name xs
names_bare (one_name x) = refl
names_bare (more_names x d) = ap (λ ys. named x ∷ ys) (names_bare d)

exports_bare : {es : List Name} {c : List Kind} → IsExports es c → es ≡ map bare_name es
exports_bare no_exports = refl
exports_bare empty_exports = refl
exports_bare (exports (one_name x)) = go (bytes_eq x any_name)
  where
    go : (b : Bool) → (if b then [] else named x ∷ []) ≡ map bare_name (if b then [] else named x ∷ [])
    go true = refl
    go false = refl
exports_bare (exports (more_names x (one_name y))) = refl
exports_bare (exports (more_names x (more_names y d))) = names_bare (more_names x (more_names y d))

same_names_true : (xs ys : List Name) → same_names xs ys ≡ true → map bare_name xs ≡ map bare_name ys
same_names_true [] [] e = refl
same_names_true [] (y ∷ ys) e = cc
same_names_true (x ∷ xs) [] e = cc
same_names_true (x ∷ xs) (y ∷ ys) e =
    let p = and_true (bytes_eq x.text y.text) (same_names xs ys) e in
    ap (λ t. named t ∷ map bare_name xs) ((bytes_eq-Decides x.text y.text).0 p.0) ∙ ap (λ zs. named y.text ∷ zs) (same_names_true xs ys p.1)
  where
    and_true : (a b : Bool) → (a && b) ≡ true → (a ≡ true) × (b ≡ true)
    and_true true true e = (refl, refl)
    and_true true false e = cc
    and_true false b e = cc

exports_again : {es : List Name} {c : List Kind} → IsExports es c → Remains (IsExports es) c (tokens_of_parts (exports_parts es))
exports_again no_exports = record { spelled = no_exports; kept = same _ }
exports_again empty_exports = record { spelled = exports (one_name none_name); kept = each _ (added_none (same _)) }
exports_again (exports (one_name x)) = go (bytes_eq x any_name) refl
  where
    go : (b : Bool) → bytes_eq x any_name ≡ b →
        Remains (IsExports (if b then [] else named x ∷ [])) (TERMINAL terminal.OpenBrace ∷ NAME x ∷ TERMINAL terminal.CloseBrace ∷ []) (tokens_of_parts (exports_parts (if b then [] else named x ∷ [])))
    go true e = record { spelled = no_exports; kept = nothing _ }
    go false e =
        record {
          spelled = subst (λ b. IsExports (if b then [] else named x ∷ []) (TERMINAL terminal.OpenBrace ∷ NAME x ∷ TERMINAL terminal.CloseBrace ∷ [])) e (exports (one_name x));
          kept = same _;
        }
exports_again (exports (more_names x (one_name y))) = record { spelled = exports (more_names x (one_name y)); kept = same _ }
exports_again (exports (more_names x (more_names y {xs = xs} d))) =
    let r = class_names_again (more_names x (more_names y d)) in
    remains_along (ap (λ c. TERMINAL terminal.OpenBrace ∷ c) (tokens-append (class_names_parts (named x ∷ named y ∷ xs)) _))
    (record { spelled = exports r.spelled; kept = each _ (both r.kept (same _)) })

-- ---- features

routine_tokens : (es : List Name) (x : Name) (d : RoutineDeclaration) →
    tokens_of_lines (feature_lines (routine_of es x d)) ≡
    NAME x.text ∷ (tokens_of_parts (formals_parts d.formals) ++ (tokens_of_parts (result_type_parts d.result_type)
    ++ ([] ++ (tokens_of_lines (assertion_lines 2 terminal.Require d.precondition) ++ (tokens_of_lines (locals_lines d.locals)
    ++ TERMINAL terminal.Do ∷ (tokens_of_lines (instrs_lines 3 d.body)
    ++ (tokens_of_lines (assertion_lines 2 terminal.Ensure d.postcondition) ++ TERMINAL terminal.End ∷ [])))))))
unfolding feature_lines
routine_tokens es x d = simp (tokens-append, lines-append, append_assoc)

-- a feature by itself, with its export list, from tokens that spelled them
record Alone (c : List Kind) (h : ℕ) (f : Feature) : Type 0 where
  exported : Remains (IsExports f.exports) c (tokens_of_parts (exports_parts f.exports))
  itself : Again (IsFeature f.exports (f ∷ [])) c h (tokens_of_lines (feature_lines f))

data Features (c : List Kind) (h : ℕ) : List Feature → Type 0 where
  none_alone : Features c h []
  alone : {f : Feature} {fs : List Feature} → Alone c h f → Features c h fs → Features c h (f ∷ fs)

wider_features : {c d : List Kind} {h g : ℕ} {fs : List Feature} → ((x : List Kind) → Keeps c x → Keeps d x) → h ≤ g → Features c h fs → Features d g fs
wider_features k l none_alone = none_alone
wider_features k l (alone r rs) =
    let i = r.itself in
    let l2 = i.low in
    alone (record {
      exported = record { spelled = r.exported.spelled; kept = k _ r.exported.kept };
      itself = record { nesting = i.nesting; low = omega (arith, l, l2); spelled = i.spelled; kept = k _ i.kept };
    }) (wider_features k l rs)

joined_features : {c : List Kind} {h : ℕ} {fs gs : List Feature} → Features c h fs → Features c h gs → Features c h (fs ++ gs)
joined_features none_alone gs = gs
joined_features (alone r rs) gs = alone r (joined_features rs gs)

named_attributes : {es : List Name} {ce : List Kind} → Remains (IsExports es) ce (tokens_of_parts (exports_parts es)) →
    {t : DeclaredType} {ct : List Kind} → IsType t ct →
    {xs : List Name} {c : List Kind} → IsNames xs c → Features (ce ++ (c ++ TERMINAL terminal.Colon ∷ ct)) 0 (map (attribute_of es t) xs)
unfolding feature_lines
named_attributes {es = es} {ce = ce} r {t = t} d (one_name x) =
    let p = type_again d in
    alone (record {
      exported = record { spelled = r.spelled; kept = before _ r.kept };
      itself = again_along (append-nil (NAME x ∷ TERMINAL terminal.Colon ∷ tokens_of_parts (type_parts t)))
          (record {
            nesting = 0;
            low = omega arith;
            spelled = attributes (one_name x) p.spelled;
            kept = behind ce (each _ (each _ p.kept));
          });
    }) none_alone
named_attributes {es = es} {ce = ce} r {t = t} {ct = ct} d (more_names x {c = c} ds) =
    let p = type_again d in
    alone (record {
      exported = record { spelled = r.spelled; kept = before _ r.kept };
      itself = again_along (append-nil (NAME x ∷ TERMINAL terminal.Colon ∷ tokens_of_parts (type_parts t)))
          (record {
            nesting = 0;
            low = omega arith;
            spelled = attributes (one_name x) p.spelled;
            kept = behind ce (each _ (dropped _ (behind c (each _ p.kept))));
          });
    }) (wider_features (λ y k. through (both (same ce) (dropped _ (dropped _ (same _)))) k) (omega arith) (named_attributes r d ds))

routine_alone : {es : List Name} {ce : List Kind} → Remains (IsExports es) ce (tokens_of_parts (exports_parts es)) →
    (x : List ℕ) (d : RoutineDeclaration) {cf ct : List Kind} (ci : List Kind) {cr cl cb co : List Kind} {hr hb ho : ℕ} →
    IsFormals d.formals cf → IsResultType d.result_type ct → IsAssertion terminal.Require d.precondition cr hr → IsLocals d.locals cl → IsInstrs d.body cb hb →
    IsAssertion terminal.Ensure d.postcondition co ho →
    Features (ce ++ (NAME x ∷ (cf ++ (ct ++ (ci ++ (cr ++ (cl ++ TERMINAL terminal.Do ∷ (cb ++ (co ++ TERMINAL terminal.End ∷ [])))))))))
    (max hr (max hb ho)) (routine_of es (named x) d ∷ [])
routine_alone {es = es} {ce = ce} r x d ci f t p l b q =
    let rf = formals_again f in
    let rt = result_type_again t in
    let rp = assertion_again 2 p in
    let rl = locals_again l in
    let rb = instrs_again 3 b in
    let rq = assertion_again 2 q in
    alone (record {
      exported = record { spelled = r.spelled; kept = before _ r.kept };
      itself =
          again_along (routine_tokens es (named x) d)
          (record {
            nesting = max rp.nesting (max rb.nesting rq.nesting);
            low = omega (arith, rp.low, rb.low, rq.low);
            spelled = routine x rf.spelled rt.spelled absent rp.spelled rl.spelled rb.spelled rq.spelled;
            kept = behind ce (each _ (both rf.kept (both rt.kept (both (nothing ci) (both rp.kept (both rl.kept (each _ (both rb.kept (both rq.kept (same _))))))))));
          });
    }) none_alone

feature_alone : {es : List Name} {ce : List Kind} → Remains (IsExports es) ce (tokens_of_parts (exports_parts es)) →
    {fs : List Feature} {c : List Kind} {h : ℕ} → IsFeature es fs c h → Features (ce ++ c) h fs
feature_alone r (attributes d t) = named_attributes r t d
feature_alone r (routine x {r = d} {ci = ci} f t i p l b q) = routine_alone r x d ci f t p l b q

features_alone : {es : List Name} {ce : List Kind} → Remains (IsExports es) ce (tokens_of_parts (exports_parts es)) →
    {fs : List Feature} {c : List Kind} {h : ℕ} → IsFeatures es fs c h → Features (ce ++ c) h fs
features_alone r no_feature = none_alone
features_alone {ce = ce} r (feature {c = c} {s = s} {cs = cs} {h = h} {hs = hs} d o ds) =
    joined_features (wider_features (λ x k. through (both (same ce) (before (s ++ cs) (same c))) k) (omega arith) (feature_alone r d))
    (wider_features (λ x k. through (both (same ce) (behind c (behind s (same cs)))) k) (omega arith) (features_alone r ds))

sections_alone : {fs : List Feature} {c : List Kind} {h : ℕ} → IsSections fs c h → Features c h fs
sections_alone no_section = none_alone
sections_alone (section {ce = ce} {c = c} {cs = cs} {h = h} {hs = hs} e d ds) =
    joined_features (wider_features (λ x k. dropped _ (through (both (same ce) (before cs (same c))) k)) (omega arith) (features_alone (exports_again e) d))
    (wider_features (λ x k. dropped _ (behind ce (behind c k))) (omega arith) (sections_alone ds))

-- ---- features under their export lists

-- the features behind one that is exported to these classes: those that go on with its list, and the sections after them
record Further (c : List Kind) (h : ℕ) (es : List Name) (fs : List Feature) : Type 0 where
  run : List Feature
  rest : List Feature
  run_tokens : List Kind
  rest_tokens : List Kind
  run_nesting : ℕ
  rest_nesting : ℕ
  splits : run ++ rest ≡ fs
  features : IsFeatures es run run_tokens run_nesting
  sections : IsSections rest rest_tokens rest_nesting
  tokens : tokens_of_lines (further_features_lines es fs) ≡ run_tokens ++ rest_tokens
  run_low : run_nesting ≤ h
  rest_low : rest_nesting ≤ h
  kept : Keeps c (run_tokens ++ rest_tokens)

lines_of_feature : (es : List Name) (f : Feature) (fs : List Feature) → same_names es f.exports ≡ true →
    tokens_of_lines (further_features_lines es (f ∷ fs)) ≡ tokens_of_lines (feature_lines f) ++ tokens_of_lines (further_features_lines f.exports fs)
lines_of_feature es f fs e =
    ap (λ b. tokens_of_lines ((if b then feature_lines f else section_line f.exports ∷ feature_lines f) ++ further_features_lines f.exports fs)) e
    ∙ lines-append (feature_lines f) (further_features_lines f.exports fs)

lines_of_section : (es : List Name) (f : Feature) (fs : List Feature) → same_names es f.exports ≡ false →
    tokens_of_lines (further_features_lines es (f ∷ fs)) ≡
    TERMINAL terminal.Feature ∷ (tokens_of_parts (exports_parts f.exports) ++ (tokens_of_lines (feature_lines f) ++ tokens_of_lines (further_features_lines f.exports fs)))
unfolding section_line
lines_of_section es f fs e =
    ap (λ b. tokens_of_lines ((if b then feature_lines f else section_line f.exports ∷ feature_lines f) ++ further_features_lines f.exports fs)) e
    ∙ ap (λ c. TERMINAL terminal.Feature ∷ (tokens_of_parts (exports_parts f.exports) ++ c)) (lines-append (feature_lines f) (further_features_lines f.exports fs))

-- a feature that goes on with the list
goes_on_with : {c : List Kind} {h : ℕ} {es : List Name} {f : Feature} {fs : List Feature} → same_names es f.exports ≡ true → f.exports ≡ es →
    Alone c h f → Further c h f.exports fs → Further c h es (f ∷ fs)
goes_on_with {es = es} {f = f} {fs = fs} e same_list a r =
    let i = a.itself in
    let t = tokens_of_lines (feature_lines f) in
    record {
      run = f ∷ r.run;
      rest = r.rest;
      run_tokens = t ++ r.run_tokens;
      rest_tokens = r.rest_tokens;
      run_nesting = max i.nesting r.run_nesting;
      rest_nesting = r.rest_nesting;
      splits = ap (λ gs. f ∷ gs) r.splits;
      features = subst (λ xs. IsFeatures xs (f ∷ r.run) (t ++ r.run_tokens) (max i.nesting r.run_nesting)) same_list (feature i.spelled no_semicolon r.features);
      sections = r.sections;
      tokens = lines_of_feature es f fs e ∙ ap (λ c. t ++ c) r.tokens ∙ sym (append_assoc t r.run_tokens r.rest_tokens);
      run_low = omega (arith, i.low, r.run_low);
      rest_low = r.rest_low;
      kept = kept_along (append_assoc t r.run_tokens r.rest_tokens) (twice i.kept r.kept);
    }

-- a feature that begins a section
begins_section : {c : List Kind} {h : ℕ} {f : Feature} {fs : List Feature} → Alone c h f → Further c h f.exports fs →
    Again (IsSections (f ∷ fs)) c h (TERMINAL terminal.Feature ∷ (tokens_of_parts (exports_parts f.exports) ++ (tokens_of_lines (feature_lines f) ++ tokens_of_lines (further_features_lines f.exports fs))))
begins_section {f = f} {fs = fs} a r =
    let i = a.itself in
    let t = tokens_of_lines (feature_lines f) in
    let ce = tokens_of_parts (exports_parts f.exports) in
    let nesting = max (max i.nesting r.run_nesting) r.rest_nesting in
    again_along (ap (λ c. TERMINAL terminal.Feature ∷ (ce ++ c)) (ap (λ c. t ++ c) r.tokens ∙ sym (append_assoc t r.run_tokens r.rest_tokens)))
    (record {
      nesting = nesting;
      low = omega (arith, i.low, r.run_low, r.rest_low);
      spelled =
          subst (λ gs. IsSections (f ∷ gs) (TERMINAL terminal.Feature ∷ (ce ++ ((t ++ r.run_tokens) ++ r.rest_tokens))) nesting) r.splits
          (section a.exported.spelled (feature i.spelled no_semicolon r.features) r.sections);
      kept = added _ (twice a.exported.kept (kept_along (append_assoc t r.run_tokens r.rest_tokens) (twice i.kept r.kept)));
    })

further_feature : {c : List Kind} {h : ℕ} (es : List Name) → es ≡ map bare_name es → {f : Feature} → f.exports ≡ map bare_name f.exports →
    {fs : List Feature} → Alone c h f → Further c h f.exports fs →
    (b : Bool) → same_names es f.exports ≡ b → Further c h es (f ∷ fs)
further_feature es bare {f = f} bare_too a r true e = goes_on_with e (bare_too ∙ sym (same_names_true es f.exports e) ∙ sym bare) a r
further_feature es bare {f = f} bare_too {fs = fs} a r false e =
    let s = begins_section a r in
    record {
      run = [];
      rest = f ∷ fs;
      run_tokens = [];
      rest_tokens = _;
      run_nesting = 0;
      rest_nesting = s.nesting;
      splits = refl;
      features = no_feature;
      sections = s.spelled;
      tokens = lines_of_section es f fs e;
      run_low = omega arith;
      rest_low = s.low;
      kept = s.kept;
    }

further_again : {c : List Kind} {h : ℕ} (es : List Name) → es ≡ map bare_name es → {fs : List Feature} → Features c h fs → Further c h es fs
further_again {c = c} es bare none_alone =
    record {
      run = [];
      rest = [];
      run_tokens = [];
      rest_tokens = [];
      run_nesting = 0;
      rest_nesting = 0;
      splits = refl;
      features = no_feature;
      sections = no_section;
      tokens = refl;
      run_low = omega arith;
      rest_low = omega arith;
      kept = nothing c;
    }
further_again es bare (alone {f} a rs) =
    let bare_too = exports_bare a.exported.spelled in
    further_feature es bare bare_too a (further_again f.exports bare_too rs) (same_names es f.exports) refl

sectioned : {fs : List Feature} {c : List Kind} {h : ℕ} → Features c h fs → Again (IsSections fs) c h (tokens_of_lines (sections_lines fs))
unfolding section_line
sectioned none_alone = record { nesting = 0; low = omega arith; spelled = no_section; kept = nothing _ }
sectioned (alone {f} {fs} a rs) =
    again_along (ap (λ x. TERMINAL terminal.Feature ∷ (tokens_of_parts (exports_parts f.exports) ++ x)) (lines-append (feature_lines f) (further_features_lines f.exports fs)))
    (begins_section a (further_again f.exports (exports_bare a.exported.spelled) rs))

pub sections_again : {fs : List Feature} {c : List Kind} {h : ℕ} → IsSections fs c h → Again (IsSections fs) c h (tokens_of_lines (sections_lines fs))
sections_again d = sectioned (sections_alone d)
