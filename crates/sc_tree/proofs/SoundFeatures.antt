-- What reading gives, the tokens spell: formals, locals and features.
use Rattle.std.proofs.Common.{length-append, ◌≡◌, ℕ, zero, suc, ◌≤◌, max, List, [], ◌∷◌, ◌++◌, length, Option, Some, None, refl, ap, sym, ◌∙◌, subst, append_assoc, append-nil, length-append, arith}
use Rattle.std.specs.Prelude.{if◌then◌else◌, ◌||◌, map}
use Rattle.std.proofs.lemmas.List.{length-map}
use Rattle.sc_text.specs.Kind.{Kind, NAME, TERMINAL}
use Rattle.sc_text.specs.declared.token.Terminal.TheVariants as terminal
use Rattle.sc_tree.specs.Plain.{Name, DeclaredType, Declaration, Feature}
use Rattle.sc_tree.specs.Bare.{named}
use Rattle.sc_tree.specs.Grammar as grammar
use Rattle.sc_tree.specs.Grammar.{declared_as, attribute_of, IsNames, IsType, IsDeclaration, IsDeclarations, IsFormals, IsLocalList, IsLocals, IsResultType, IsFeature, IsFeatures, IsExports, IsSections}
use Rattle.sc_tree.specs.Internal.Reading.{◌>>=◌, past, sees, skip, skip_semicolons, name_ahead, declaration, more_declarations, formals, locals_from, locals, result_type, begins_routine, export_list, exports, routine, attribute_or_routine, attributes, feature, features_from, sections_from, sections}
use Rattle.sc_tree.proofs.ReadingSteps.{Holds, holds, holds_then, holds_if, holds_also, Spelled, Begins, Added, through}
use Rattle.sc_tree.proofs.Looks.{sees_is, expect_holds, NameFirst, name_first, name_holds}
use Rattle.sc_tree.proofs.Lists.{all_added, skipped, skipped_one}
use Rattle.sc_tree.proofs.SoundTypes.{sound_more_names, sound_names, sound_type}
use Rattle.sc_tree.proofs.SoundExpressions.{Sound}
use Rattle.sc_tree.proofs.SoundAssertions.{sound_assertion}
use Rattle.sc_tree.proofs.SoundInstructions.{sound_instrs}

-- ---- formals and locals

sound_declaration : (ts : List Kind) → Holds (Begins IsDeclaration ts) (declaration ts)
unfolding declaration
sound_declaration ts =
    holds_then _ (sound_names ts) λ ns sn. holds_then _ (expect_holds terminal.Colon ns.1) λ r q. holds_then _ (sound_type r) λ t st.
    holds (record {
      tokens = sn.tokens ++ TERMINAL terminal.Colon ∷ st.tokens;
      same = through ts sn.tokens ns.1 (TERMINAL terminal.Colon ∷ st.tokens) t.1 sn.same (through ns.1 (TERMINAL terminal.Colon ∷ []) r st.tokens t.1 q st.same);
      is = grammar.declaration sn.is st.is;
    })

-- declarations behind a first one
record DeclarationsAfter (found : List Declaration) (ts : List Kind) (x : List Declaration × List Kind) : Type 0 where
  pub more : List Declaration
  pub tokens : List Kind
  pub same : ts ≡ tokens ++ x.1
  pub is : (ds : List Declaration) (c : List Kind) → IsDeclaration ds c → IsDeclarations (ds ++ more) (c ++ tokens)
  pub joined : x.0 ≡ found ++ more

one_alone : (ds : List Declaration) (c : List Kind) → IsDeclaration ds c → IsDeclarations (ds ++ []) (c ++ [])
one_alone ds c d =
    subst (λ (ds : List Declaration). IsDeclarations ds (c ++ [])) (sym (append-nil ds)) (subst (λ (c : List Kind). IsDeclarations ds c) (sym (append-nil c)) (grammar.one_declaration d))

none_after : (found : List Declaration) (ts : List Kind) → DeclarationsAfter found ts (found, ts)
none_after found ts = record { more = []; tokens = []; same = refl; is = one_alone; joined = sym (append-nil found) }

sound_more_declarations : (f : ℕ) (found : List Declaration) (ts : List Kind) → Holds (DeclarationsAfter found ts) (more_declarations f found ts)
unfolding more_declarations
sound_more_declarations zero found ts = holds (none_after found ts)
sound_more_declarations (suc f) found ts =
    holds_if (sees terminal.Semicolon ts || name_ahead ts) _ _
    (λ b. holds_then _ (sound_declaration (skip terminal.Semicolon ts)) λ d s. holds_also (sound_more_declarations f (found ++ d.0) d.1) λ y a.
    let o = skipped_one terminal.Semicolon ts in
    record {
      more = d.0 ++ a.more;
      tokens = o.tokens ++ (s.tokens ++ a.tokens);
      same = through ts o.tokens (skip terminal.Semicolon ts) (s.tokens ++ a.tokens) y.1 o.same (through (skip terminal.Semicolon ts) s.tokens d.1 a.tokens y.1 s.same a.same);
      is = λ ds c e. grammar.more_declarations e o.is (a.is d.0 s.tokens s.is);
      joined = a.joined ∙ append_assoc found d.0 a.more;
    })
    (λ _. holds (none_after found ts))

sound_formals : (ts : List Kind) → Holds (Begins IsFormals ts) (formals ts)
unfolding formals
sound_formals ts =
    holds_if (sees terminal.OpenParenthesis ts) _ _
    (λ b. holds_then _ (sound_declaration (past ts)) λ d s. holds_then _ (sound_more_declarations (length d.1) d.0 d.1) λ ds a. holds_then _ (expect_holds terminal.CloseParenthesis ds.1) λ rest q.
    holds (record {
      tokens = TERMINAL terminal.OpenParenthesis ∷ ((s.tokens ++ a.tokens) ++ TERMINAL terminal.CloseParenthesis ∷ []);
      same = through ts (TERMINAL terminal.OpenParenthesis ∷ []) (past ts) ((s.tokens ++ a.tokens) ++ TERMINAL terminal.CloseParenthesis ∷ []) rest (sees_is terminal.OpenParenthesis ts b)
          (through (past ts) (s.tokens ++ a.tokens) ds.1 (TERMINAL terminal.CloseParenthesis ∷ []) rest (through (past ts) s.tokens d.1 a.tokens ds.1 s.same a.same) q);
      is = grammar.formals (subst (λ (ds : List Declaration). IsDeclarations ds (s.tokens ++ a.tokens)) (sym a.joined) (a.is d.0 s.tokens s.is));
    }))
    (λ _. holds (record { tokens = []; same = refl; is = grammar.no_formals }))

-- what was added to what had been found, where nothing is nested
record Found {A : Type 0} (Is : List A → List Kind → Type 0) (found : List A) (ts : List Kind) (x : List A × List Kind) : Type 0 where
  pub more : List A
  pub tokens : List Kind
  pub same : ts ≡ tokens ++ x.1
  pub is : Is more tokens
  pub joined : x.0 ≡ found ++ more

no_local_found : (found : List Declaration) (ts : List Kind) → Found IsLocalList found ts (found, ts)
no_local_found found ts = record { more = []; tokens = []; same = refl; is = grammar.no_local; joined = sym (append-nil found) }

sound_locals_from : (f : ℕ) (found : List Declaration) (ts : List Kind) → Holds (Found IsLocalList found ts) (locals_from f found ts)
unfolding locals_from
sound_locals_from zero found ts = holds (no_local_found found ts)
sound_locals_from (suc f) found ts =
    holds_if (name_ahead ts) _ _
    (λ b. holds_then _ (sound_declaration ts) λ d s. holds_also (sound_locals_from f (found ++ d.0) (skip terminal.Semicolon d.1)) λ y a.
    let o = skipped_one terminal.Semicolon d.1 in
    record {
      more = d.0 ++ a.more;
      tokens = s.tokens ++ (o.tokens ++ a.tokens);
      same = through ts s.tokens d.1 (o.tokens ++ a.tokens) y.1 s.same (through d.1 o.tokens (skip terminal.Semicolon d.1) a.tokens y.1 o.same a.same);
      is = grammar.another_local s.is o.is a.is;
      joined = a.joined ∙ append_assoc found d.0 a.more;
    })
    (λ _. holds (no_local_found found ts))

sound_locals : (ts : List Kind) → Holds (Begins IsLocals ts) (locals ts)
unfolding locals
sound_locals ts =
    holds_if (sees terminal.Local ts) _ _
    (λ b. holds_also (sound_locals_from (length (past ts)) [] (past ts)) λ y a.
    record {
      tokens = TERMINAL terminal.Local ∷ a.tokens;
      same = through ts (TERMINAL terminal.Local ∷ []) (past ts) a.tokens y.1 (sees_is terminal.Local ts b) a.same;
      is = grammar.locals (subst (λ (ds : List Declaration). IsLocalList ds a.tokens) (sym a.joined) a.is);
    })
    (λ _. holds (record { tokens = []; same = refl; is = grammar.no_locals }))

sound_result_type : (ts : List Kind) → Holds (Begins IsResultType ts) (result_type ts)
unfolding result_type
sound_result_type ts =
    holds_if (sees terminal.Colon ts) _ _
    (λ b. holds_then _ (sound_type (past ts)) λ t s.
    holds (record { tokens = TERMINAL terminal.Colon ∷ s.tokens; same = through ts (TERMINAL terminal.Colon ∷ []) (past ts) s.tokens t.1 (sees_is terminal.Colon ts b) s.same; is = grammar.result_type s.is }))
    (λ _. holds (record { tokens = []; same = refl; is = grammar.no_result }))

names_some : {xs : List Name} {c : List Kind} → IsNames xs c → 1 ≤ length xs
names_some (grammar.one_name x) = omega arith
names_some (grammar.more_names x d) = omega arith

declaration_some : {ds : List Declaration} {c : List Kind} → IsDeclaration ds c → 1 ≤ length ds
declaration_some (grammar.declaration {xs} {t} dn dt) = let e = length-map xs (declared_as t) in let l = names_some dn in omega (arith, e, l)

declarations_some : {ds : List Declaration} {c : List Kind} → IsDeclarations ds c → 1 ≤ length ds
declarations_some (grammar.one_declaration d) = declaration_some d
declarations_some (grammar.more_declarations {ds} {es} d o more) = let e = length-append ds es in let l = declaration_some d in omega (arith, e, l)

-- A list of formals that stands there has one.
formals_none : {ds : List Declaration} {c : List Kind} → IsFormals ds c → ds ≡ [] → c ≡ []
formals_none grammar.no_formals e = refl
formals_none (grammar.formals d) e = let l = declarations_some d in let w = ap length e in absurd (omega (arith, l, w))

-- ---- features

sound_routine : (room : ℕ) (es : List Name) (x : List ℕ) (fs : List Declaration) (o : Option DeclaredType) (cf ct ts0 ts : List Kind) → IsFormals fs cf → IsResultType o ct → ts0 ≡ NAME x ∷ (cf ++ (ct ++ ts)) →
    Sound (IsFeature es) ts0 (routine room es (named x) fs o ts)
unfolding routine
sound_routine room es x fs o cf ct ts0 ts df dt e =
    let i = skipped_one terminal.Is ts in
    holds_then _ (sound_assertion room terminal.Require (skip terminal.Is ts)) λ pre sr. holds_then _ (sound_locals pre.2) λ ls sl. holds_then _ (expect_holds terminal.Do ls.1) λ r q.
    holds_then _ (sound_instrs room r) λ b sb. holds_then _ (sound_assertion room terminal.Ensure b.2) λ post se. holds_then _ (expect_holds terminal.End post.2) λ rest p.
    let rest_same = through ts i.tokens (skip terminal.Is ts) (sr.tokens ++ (sl.tokens ++ TERMINAL terminal.Do ∷ (sb.tokens ++ (se.tokens ++ TERMINAL terminal.End ∷ [])))) rest i.same
    (through (skip terminal.Is ts) sr.tokens pre.2 (sl.tokens ++ TERMINAL terminal.Do ∷ (sb.tokens ++ (se.tokens ++ TERMINAL terminal.End ∷ []))) rest sr.same
    (through pre.2 sl.tokens ls.1 (TERMINAL terminal.Do ∷ (sb.tokens ++ (se.tokens ++ TERMINAL terminal.End ∷ []))) rest sl.same
    (through ls.1 (TERMINAL terminal.Do ∷ []) r (sb.tokens ++ (se.tokens ++ TERMINAL terminal.End ∷ [])) rest q
    (through r sb.tokens b.2 (se.tokens ++ TERMINAL terminal.End ∷ []) rest sb.same (through b.2 se.tokens post.2 (TERMINAL terminal.End ∷ []) rest se.same p))))) in
    holds (record {
      tokens = NAME x ∷ (cf ++ (ct ++ (i.tokens ++ (sr.tokens ++ (sl.tokens ++ TERMINAL terminal.Do ∷ (sb.tokens ++ (se.tokens ++ TERMINAL terminal.End ∷ [])))))));
      same = through ts0 (NAME x ∷ []) (cf ++ (ct ++ ts)) (cf ++ (ct ++ (i.tokens ++ (sr.tokens ++ (sl.tokens ++ TERMINAL terminal.Do ∷ (sb.tokens ++ (se.tokens ++ TERMINAL terminal.End ∷ []))))))) rest e
          (through (cf ++ (ct ++ ts)) cf (ct ++ ts) (ct ++ (i.tokens ++ (sr.tokens ++ (sl.tokens ++ TERMINAL terminal.Do ∷ (sb.tokens ++ (se.tokens ++ TERMINAL terminal.End ∷ [])))))) rest refl
          (through (ct ++ ts) ct ts (i.tokens ++ (sr.tokens ++ (sl.tokens ++ TERMINAL terminal.Do ∷ (sb.tokens ++ (se.tokens ++ TERMINAL terminal.End ∷ []))))) rest refl rest_same));
      is = grammar.routine x df dt i.is sr.is sl.is sb.is se.is;
    })

-- an attribute alone in its declaration
lone_attribute : (es : List Name) (x : List ℕ) (t : DeclaredType) (cf c ts0 ts : List Kind) → cf ≡ [] → IsType t c → ts0 ≡ NAME x ∷ (cf ++ (TERMINAL terminal.Colon ∷ (c ++ ts))) → Spelled (IsFeature es) ts0 (attribute_of es t (named x) ∷ [], 0, ts)
lone_attribute es x t cf c ts0 ts n d e =
    record { tokens = NAME x ∷ TERMINAL terminal.Colon ∷ c; same = e ∙ ap (λ (cf : List Kind). NAME x ∷ (cf ++ (TERMINAL terminal.Colon ∷ (c ++ ts)))) n; is = grammar.attributes (grammar.one_name x) d }

sound_attribute_or_routine : (room : ℕ) (es : List Name) (x : List ℕ) (fs : List Declaration) (o : Option DeclaredType) (cf ct ts0 ts : List Kind) → IsFormals fs cf → IsResultType o ct → ts0 ≡ NAME x ∷ (cf ++ (ct ++ ts)) →
    Sound (IsFeature es) ts0 (attribute_or_routine room es (named x) fs o ts)
sound_attribute_or_routine room es x fs None cf ct ts0 ts df dt e = sound_routine room es x fs None cf ct ts0 ts df dt e
sound_attribute_or_routine room es x [] (Some t) cf ct ts0 ts df dt e =
    holds_if (begins_routine ts) _ _ (λ _. sound_routine room es x [] (Some t) cf ct ts0 ts df dt e) (λ _. holds (of_type dt e))
  where
    some_same : (t u : DeclaredType) → Some t ≡ Some u → t ≡ u
    some_same t u e = cc

    at : {o : Option DeclaredType} {ct : List Kind} → IsResultType o ct → o ≡ Some t → ts0 ≡ NAME x ∷ (cf ++ (ct ++ ts)) → Spelled (IsFeature es) ts0 (attribute_of es t (named x) ∷ [], 0, ts)
    at grammar.no_result q e = cc
    at (grammar.result_type {t = u} {c} d) q e = lone_attribute es x t cf c ts0 ts (formals_none df refl) (subst (λ (t : DeclaredType). IsType t c) (some_same u t q) d) e

    of_type : IsResultType (Some t) ct → ts0 ≡ NAME x ∷ (cf ++ (ct ++ ts)) → Spelled (IsFeature es) ts0 (attribute_of es t (named x) ∷ [], 0, ts)
    of_type d e = at d refl e
sound_attribute_or_routine room es x (f ∷ fs) (Some t) cf ct ts0 ts df dt e = sound_routine room es x (f ∷ fs) (Some t) cf ct ts0 ts df dt e

sound_attributes : (room : ℕ) (es : List Name) (x : List ℕ) (ts r : List Kind) → ts ≡ NAME x ∷ r → Sound (IsFeature es) ts (attributes room es (named x) r)
unfolding attributes
sound_attributes room es x ts r e =
    holds_then _ (sound_more_names (length r) (named x ∷ []) r) λ ns a. holds_then _ (expect_holds terminal.Colon ns.1) λ s q. holds_then _ (sound_type s) λ t d.
    holds (record {
      tokens = NAME x ∷ (a.tokens ++ TERMINAL terminal.Colon ∷ d.tokens);
      same = through ts (NAME x ∷ []) r (a.tokens ++ TERMINAL terminal.Colon ∷ d.tokens) t.1 e (through r a.tokens ns.1 (TERMINAL terminal.Colon ∷ d.tokens) t.1 a.same (through ns.1 (TERMINAL terminal.Colon ∷ []) s d.tokens t.1 q d.same));
      is = subst (λ (xs : List Name). IsFeature es (map (attribute_of es t.0) xs) (NAME x ∷ (a.tokens ++ TERMINAL terminal.Colon ∷ d.tokens)) 0) (sym a.joined) (grammar.attributes (a.is x) d.is);
    })

sound_feature : (room : ℕ) (es : List Name) (ts : List Kind) → Sound (IsFeature es) ts (feature room es ts)
unfolding feature
sound_feature room es ts = holds_then _ (name_holds ts) λ x n. by_name x n
  where
    by_name : (x : Name × List Kind) → NameFirst ts x →
        Sound (IsFeature es) ts (if sees terminal.Comma x.1 then attributes room es x.0 x.1 else (formals x.1 >>= λ fs. result_type fs.1 >>= λ t. attribute_or_routine room es x.0 fs.0 t.0 t.1))
    by_name _ (name_first x r q) =
        holds_if (sees terminal.Comma r) _ _ (λ b. sound_attributes room es x ts r q) λ _.
        holds_then _ (sound_formals r) λ fs sf. holds_then _ (sound_result_type fs.1) λ t st.
        sound_attribute_or_routine room es x fs.0 t.0 sf.tokens st.tokens ts t.1 sf.is st.is (q ∙ ap (λ (r : List Kind). NAME x ∷ r) (sf.same ∙ ap (λ (r : List Kind). sf.tokens ++ r) st.same))

no_feature_added : (es : List Name) (found : List Feature) (high : ℕ) (ts : List Kind) → Added ◌++◌ (IsFeatures es) found high ts (found, high, ts)
no_feature_added es found high ts = record { more = []; tokens = []; nesting = 0; same = refl; is = grammar.no_feature; joined = sym (append-nil found); highest = omega arith }

sound_features_from : (room : ℕ) (es : List Name) (f : ℕ) (found : List Feature) (high : ℕ) (ts : List Kind) → Holds (Added ◌++◌ (IsFeatures es) found high ts) (features_from room es f found high ts)
unfolding features_from
sound_features_from room es zero found high ts = holds (no_feature_added es found high ts)
sound_features_from room es (suc f) found high ts =
    holds_if (name_ahead ts) _ _
    (λ b. holds_then _ (sound_feature room es ts) λ x s. holds_also (sound_features_from room es f (found ++ x.0) (max high x.1) (skip_semicolons x.2)) λ y a.
    let u = skipped x.2 in
    record {
      more = x.0 ++ a.more;
      tokens = s.tokens ++ (u.tokens ++ a.tokens);
      nesting = max x.1 a.nesting;
      same = through ts s.tokens x.2 (u.tokens ++ a.tokens) y.2 s.same (through x.2 u.tokens (skip_semicolons x.2) a.tokens y.2 u.same a.same);
      is = grammar.feature s.is u.is a.is;
      joined = a.joined ∙ append_assoc found x.0 a.more;
      highest = omega (arith, a.highest);
    })
    (λ _. holds (no_feature_added es found high ts))

sound_export_list : (ts r : List Kind) → ts ≡ TERMINAL terminal.OpenBrace ∷ r → Holds (Begins IsExports ts) (export_list r)
unfolding export_list
sound_export_list ts r e =
    holds_if (sees terminal.CloseBrace r) _ _
    (λ b. holds (record { tokens = TERMINAL terminal.OpenBrace ∷ TERMINAL terminal.CloseBrace ∷ []; same = e ∙ ap (λ (r : List Kind). TERMINAL terminal.OpenBrace ∷ r) (sees_is terminal.CloseBrace r b); is = grammar.empty_exports })) λ _.
    holds_then _ (sound_names r) λ ns s. holds_then _ (expect_holds terminal.CloseBrace ns.1) λ rest q.
    holds (record {
      tokens = TERMINAL terminal.OpenBrace ∷ (s.tokens ++ TERMINAL terminal.CloseBrace ∷ []);
      same = through ts (TERMINAL terminal.OpenBrace ∷ []) r (s.tokens ++ TERMINAL terminal.CloseBrace ∷ []) rest e (through r s.tokens ns.1 (TERMINAL terminal.CloseBrace ∷ []) rest s.same q);
      is = grammar.exports s.is;
    })

sound_exports : (ts : List Kind) → Holds (Begins IsExports ts) (exports ts)
unfolding exports
sound_exports ts = holds_if (sees terminal.OpenBrace ts) _ _ (λ b. sound_export_list ts (past ts) (sees_is terminal.OpenBrace ts b)) (λ _. holds (record { tokens = []; same = refl; is = grammar.no_exports }))

no_section_added : (found : List Feature) (high : ℕ) (ts : List Kind) → Added ◌++◌ IsSections found high ts (found, high, ts)
no_section_added found high ts = record { more = []; tokens = []; nesting = 0; same = refl; is = grammar.no_section; joined = sym (append-nil found); highest = omega arith }

sound_sections_from : (room f : ℕ) (found : List Feature) (high : ℕ) (ts : List Kind) → Holds (Added ◌++◌ IsSections found high ts) (sections_from room f found high ts)
unfolding sections_from
sound_sections_from room zero found high ts = holds (no_section_added found high ts)
sound_sections_from room (suc f) found high ts =
    holds_if (sees terminal.Feature ts) _ _
    (λ b. holds_then _ (sound_exports (past ts)) λ es e. holds_then _ (sound_features_from room es.0 (length es.1) found high es.1) λ x s. holds_also (sound_sections_from room f x.0 x.1 x.2) λ y a.
    record {
      more = s.more ++ a.more;
      tokens = TERMINAL terminal.Feature ∷ (e.tokens ++ (s.tokens ++ a.tokens));
      nesting = max s.nesting a.nesting;
      same = through ts (TERMINAL terminal.Feature ∷ []) (past ts) (e.tokens ++ (s.tokens ++ a.tokens)) y.2 (sees_is terminal.Feature ts b)
          (through (past ts) e.tokens es.1 (s.tokens ++ a.tokens) y.2 e.same (through es.1 s.tokens x.2 a.tokens y.2 s.same a.same));
      is = grammar.section e.is s.is a.is;
      joined = a.joined ∙ ap (λ (found : List Feature). found ++ a.more) s.joined ∙ append_assoc found s.more a.more;
      highest = omega (arith, a.highest, s.highest);
    })
    (λ _. holds (no_section_added found high ts))

pub sound_sections : (room : ℕ) (ts : List Kind) → Sound IsSections ts (sections room ts)
unfolding sections
sound_sections room ts = holds_also (sound_sections_from room (length ts) [] 0 ts) λ x a. all_added ◌++◌ IsSections [] (λ xs. refl) ts x a
