-- Each token has its depth, and the greatest of them is the grammar's nesting.
use Rattle.std.proofs.Common.{◌≡◌, ℕ, suc, ◌≤◌, max, List, [], ◌∷◌, ◌++◌, length, refl, ap, sym, ◌∙◌, length-append, arith}
use Rattle.sc_text.specs.Kind.{Kind}
use Rattle.sc_text.specs.declared.token.Terminal.{Terminal}
use Rattle.sc_tree.specs.Plain.{Name, Variable, Clause, Head, Instr, Instrs, Branches, Feature, Class}
use Rattle.sc_tree.specs.Grammar as grammar
use Rattle.sc_tree.specs.Grammar.{around, IsClause, IsClauses, IsAssertion, IsVariable, IsHead, IsHeads, IsInstr, IsInstrs, IsBranches, IsElse, IsFeature, IsFeatures, IsSections, IsClass, IsClasses}
use Rattle.sc_tree.specs.Nesting.{inside, outside, greatest, chain_depths, actuals_depths, expr_depths, clause_depths, clauses_depths, assertion_depths, head_depths, heads_depths, instr_depths, instrs_depths, branches_depths, other_depths, feature_depths, features_depths, sections_depths, class_depths, classes_depths}
use Rattle.sc_tree.proofs.ExpressionDepths.{Sized, actuals_greatest, actuals_sized, apart, beside, chain_greatest, chain_sized, closed_depths, expr_greatest, expr_sized, greatest-append, greatest-inside, greatest-inside_some, greatest-outside, held, listed_depths, named_depths, outside_first, own_first, own_last, side_by_side, within}

-- ---- assertions

clause_sized : {x : Clause} {c : List Kind} {h : ℕ} (d : IsClause x c h) → Sized (clause_depths d) c
unfolding clause_depths
clause_sized (grammar.untagged d) = expr_sized d
clause_sized (grammar.tagged x d) = ap suc (ap suc (expr_sized d))

clause_greatest : {x : Clause} {c : List Kind} {h : ℕ} (d : IsClause x c h) → h ≡ greatest (clause_depths d)
unfolding clause_depths
clause_greatest (grammar.untagged d) = expr_greatest d
clause_greatest (grammar.tagged x {t} {c} {h} d) = own_first (0 ∷ expr_depths d) h (own_first (expr_depths d) h (expr_greatest d))

clauses_sized : {xs : List Clause} {c : List Kind} {h : ℕ} (d : IsClauses xs c h) → Sized (clauses_depths d) c
unfolding clauses_depths
clauses_sized grammar.no_clause = refl
clauses_sized (grammar.semicolon_clauses d) = ap suc (clauses_sized d)
clauses_sized (grammar.clause {x} {xs} {c} {cs} d g ds) = beside _ _ c cs (clause_sized d) (clauses_sized ds)

clauses_greatest : {xs : List Clause} {c : List Kind} {h : ℕ} (d : IsClauses xs c h) → h ≡ greatest (clauses_depths d)
unfolding clauses_depths
clauses_greatest grammar.no_clause = refl
clauses_greatest (grammar.semicolon_clauses {xs} {c} {h} d) = own_first (clauses_depths d) h (clauses_greatest d)
clauses_greatest (grammar.clause {h} {hs} d g ds) = side_by_side (clause_depths d) (clauses_depths ds) h hs (clause_greatest d) (clauses_greatest ds)

assertion_sized : {m : Terminal} {xs : List Clause} {c : List Kind} {h : ℕ} (d : IsAssertion m xs c h) → Sized (assertion_depths d) c
unfolding assertion_depths
assertion_sized grammar.no_assertion = refl
assertion_sized (grammar.assertion d) = ap suc (clauses_sized d)

assertion_greatest : {m : Terminal} {xs : List Clause} {c : List Kind} {h : ℕ} (d : IsAssertion m xs c h) → h ≡ greatest (assertion_depths d)
unfolding assertion_depths
assertion_greatest grammar.no_assertion = refl
assertion_greatest (grammar.assertion {xs} {c} {h} d) = own_first (clauses_depths d) h (clauses_greatest d)

-- ---- instructions

head_sized : {x : Head} {c : List Kind} {h : ℕ} (d : IsHead x c h) → Sized (head_depths d) c
unfolding head_depths
head_sized (grammar.head {c} d x) = beside _ (0 ∷ 0 ∷ []) c (_ ∷ _ ∷ []) (chain_sized d) refl

heads_sized : {xs : List Head} {c : List Kind} {h : ℕ} (d : IsHeads xs c h) → Sized (heads_depths d) c
unfolding heads_depths
heads_sized (grammar.one_head d) = head_sized d
heads_sized (grammar.more_heads {c} d ds) = beside _ _ c _ (head_sized d) (ap suc (heads_sized ds))

head_greatest : {x : Head} {c : List Kind} {h : ℕ} (d : IsHead x c h) → h ≡ greatest (head_depths d)
unfolding head_depths
head_greatest (grammar.head {h} d x) = named_depths (chain_depths d) h (chain_greatest d)

heads_greatest : {xs : List Head} {c : List Kind} {h : ℕ} (d : IsHeads xs c h) → h ≡ greatest (heads_depths d)
unfolding heads_depths
heads_greatest (grammar.one_head d) = head_greatest d
heads_greatest (grammar.more_heads {h} {hs} d ds) = listed_depths (head_depths d) (heads_depths ds) h hs (head_greatest d) (heads_greatest ds)

heads_long : {xs : List Head} {c : List Kind} {h : ℕ} (d : IsHeads xs c h) → 1 ≤ length (heads_depths d)
unfolding heads_depths head_depths
heads_long (grammar.one_head (grammar.head d x)) = let e = length-append (chain_depths d) (0 ∷ 0 ∷ []) in omega (arith, e)
heads_long (grammar.more_heads d ds) = let e = length-append (head_depths d) (0 ∷ heads_depths ds) in omega (arith, e)

mutual
  unfolding instr_depths

  instr_sized : {i : Instr} {c : List Kind} {h : ℕ} (d : IsInstr i c h) → Sized (instr_depths d) c
  instr_sized (grammar.assign {cv} dv d) = beside (outside cv) _ cv _ (apart cv) (ap suc (expr_sized d))
  instr_sized (grammar.print_text s) = refl
  instr_sized (grammar.call d) = chain_sized d
  instr_sized (grammar.create {cv} dv) = ap suc (apart cv)
  instr_sized (grammar.create_by {cv} dv x d) = ap suc (beside _ _ cv _ (within (outside cv) cv (apart cv)) (ap suc (ap suc (actuals_sized d))))
  instr_sized (grammar.conditional {c} {cb} {cs} {co} d body bs other) =
      ap suc (beside _ _ c _ (within _ c (expr_sized d)) (ap suc (beside _ _ cb _ (within _ cb (instrs_sized body)) (beside _ _ cs _ (branches_sized bs) (beside _ (0 ∷ []) co (_ ∷ []) (other_sized other) refl)))))
  instr_sized (grammar.loop {ci} {c} {cb} di d db) =
      ap suc (beside _ _ ci _ (within _ ci (instrs_sized di)) (ap suc (beside _ _ c _ (within _ c (expr_sized d)) (ap suc (beside _ (0 ∷ []) cb (_ ∷ []) (within _ cb (instrs_sized db)) refl)))))
  instr_sized (grammar.check {xs} {c} d) = ap suc (beside _ (0 ∷ []) c (_ ∷ []) (within _ c (clauses_sized d)) refl)
  instr_sized (grammar.block {c} {cb} d db) = ap suc (beside _ _ c _ (within _ c (heads_sized d)) (ap suc (beside _ (0 ∷ []) cb (_ ∷ []) (within _ cb (instrs_sized db)) refl)))

  instrs_sized : {is : Instrs} {c : List Kind} {h : ℕ} (d : IsInstrs is c h) → Sized (instrs_depths d) c
  instrs_sized grammar.no_instr = refl
  instrs_sized (grammar.semicolon_instrs d) = ap suc (instrs_sized d)
  instrs_sized (grammar.instr {i} {is} {c} {cs} d ds) = beside _ _ c cs (instr_sized d) (instrs_sized ds)

  branches_sized : {bs : Branches} {c : List Kind} {h : ℕ} (d : IsBranches bs c h) → Sized (branches_depths d) c
  branches_sized grammar.no_branch = refl
  branches_sized (grammar.branch {c} {cb} {cs} d body bs) = ap suc (beside _ _ c _ (within _ c (expr_sized d)) (ap suc (beside _ _ cb cs (within _ cb (instrs_sized body)) (branches_sized bs))))

  other_sized : {is : Instrs} {c : List Kind} {h : ℕ} (d : IsElse is c h) → Sized (other_depths d) c
  other_sized grammar.no_else = refl
  other_sized (grammar.otherwise {is} {c} d) = ap suc (within _ c (instrs_sized d))

-- `if c then body cs co end`
chosen_depths : (cs body branches other : List ℕ) (h hb hs ho : ℕ) → greatest cs ≡ suc h → max (suc h) (greatest body) ≡ suc (max h hb) → ((n : ℕ) → max (suc n) (greatest branches) ≡ suc (max n hs)) →
    ((n : ℕ) → max (suc n) (greatest other) ≡ suc (max n ho)) → suc (max (max h hb) (max hs ho)) ≡ greatest (0 ∷ (cs ++ 0 ∷ (body ++ (branches ++ (other ++ 0 ∷ [])))))
chosen_depths cs body branches other h hb hs ho e f s o =
    let p = greatest-append cs (0 ∷ (body ++ (branches ++ (other ++ 0 ∷ [])))) in
    let q = greatest-append body (branches ++ (other ++ 0 ∷ [])) in
    let r = greatest-append branches (other ++ 0 ∷ []) in
    let t = greatest-append other (0 ∷ []) in
    let s' = s h in
    let o' = o h in
    omega (arith, p, q, r, t, e, f, s', o')

-- `elseif c then body cs`
branch_depths : (n : ℕ) (cs body more : List ℕ) (h hb hs : ℕ) → greatest cs ≡ suc h → max (suc n) (greatest body) ≡ suc (max n hb) → max (suc n) (greatest more) ≡ suc (max n hs) →
    max (suc n) (greatest (0 ∷ (cs ++ 0 ∷ (body ++ more)))) ≡ suc (max n (max (max h hb) hs))
branch_depths n cs body more h hb hs e f s =
    let p = greatest-append cs (0 ∷ (body ++ more)) in
    let q = greatest-append body more in
    omega (arith, p, q, e, f, s)

held_instrs : (n : ℕ) (ns : List ℕ) (h : ℕ) → h ≡ greatest ns → max (suc n) (greatest (inside ns)) ≡ suc (max n h)
held_instrs n ns h e = let p = greatest-inside n ns in omega (arith, p, e)

-- `create v.x ..`
created_depths : {v : Variable} {cv : List Kind} → IsVariable v cv → (ns : List ℕ) (h : ℕ) → h ≡ greatest ns → max 1 h ≡ greatest (0 ∷ (inside (outside cv) ++ 0 ∷ 0 ∷ ns))
created_depths (grammar.named_variable x) ns h e = omega (arith, e)
created_depths grammar.result_variable ns h e = omega (arith, e)

-- `from is until c loop body end`
looped_depths : (is cs body : List ℕ) (hi h hb : ℕ) → greatest cs ≡ suc h → max (suc h) (greatest is) ≡ suc (max h hi) → max (suc h) (greatest body) ≡ suc (max h hb) →
    suc (max hi (max h hb)) ≡ greatest (0 ∷ (is ++ 0 ∷ (cs ++ 0 ∷ (body ++ 0 ∷ []))))
looped_depths is cs body hi h hb e f g =
    let p = greatest-append is (0 ∷ (cs ++ 0 ∷ (body ++ 0 ∷ []))) in
    let q = greatest-append cs (0 ∷ (body ++ 0 ∷ [])) in
    let r = greatest-append body (0 ∷ []) in
    omega (arith, p, q, r, e, f, g)

-- `check .. end`
checked_depths : (ns : List ℕ) (c : List Kind) (h : ℕ) → Sized ns c → h ≡ greatest ns → around c h ≡ greatest (0 ∷ (inside ns ++ 0 ∷ []))
checked_depths [] [] h s e = refl
checked_depths [] (k ∷ c) h s e = absurd (omega (arith, s))
checked_depths (n ∷ ns) [] h s e = absurd (omega (arith, s))
checked_depths (n ∷ ns) (k ∷ c) h s e = closed_depths (inside (n ∷ ns)) h (greatest-inside_some (n ∷ ns) (omega arith) ∙ ap suc (sym e))

-- `separate heads do body end`
block_depths : (hs body : List ℕ) (h hb : ℕ) → greatest hs ≡ suc h → max (suc h) (greatest body) ≡ suc (max h hb) → suc (max h hb) ≡ greatest (0 ∷ (hs ++ 0 ∷ (body ++ 0 ∷ [])))
block_depths hs body h hb e f =
    let p = greatest-append hs (0 ∷ (body ++ 0 ∷ [])) in
    let q = greatest-append body (0 ∷ []) in
    omega (arith, p, q, e, f)

mutual
  unfolding instr_depths

  instr_greatest : {i : Instr} {c : List Kind} {h : ℕ} (d : IsInstr i c h) → h ≡ greatest (instr_depths d)
  instr_greatest (grammar.assign {cv} {h} dv d) = outside_first cv (0 ∷ expr_depths d) h (own_first (expr_depths d) h (expr_greatest d))
  instr_greatest (grammar.print_text s) = refl
  instr_greatest (grammar.call d) = chain_greatest d
  instr_greatest (grammar.create {cv} dv) = own_first (outside cv) 0 (sym (greatest-outside cv))
  instr_greatest (grammar.create_by dv x {h} d) = created_depths dv (actuals_depths d) h (actuals_greatest d)
  instr_greatest (grammar.conditional {h} {hb} {hs} {ho} d body bs other) =
      chosen_depths _ _ _ _ h hb hs ho (held d (expr_greatest d)) (held_instrs h _ hb (instrs_greatest body)) (branches_greatest bs) (other_greatest other)
  instr_greatest (grammar.loop {hi} {h} {hb} di d db) = looped_depths _ _ _ hi h hb (held d (expr_greatest d)) (held_instrs h _ hi (instrs_greatest di)) (held_instrs h _ hb (instrs_greatest db))
  instr_greatest (grammar.check {xs} {c} {h} d) = checked_depths (clauses_depths d) c h (clauses_sized d) (clauses_greatest d)
  instr_greatest (grammar.block {h} {hb} d db) = block_depths _ _ h hb (greatest-inside_some (heads_depths d) (heads_long d) ∙ ap suc (sym (heads_greatest d))) (held_instrs h _ hb (instrs_greatest db))

  instrs_greatest : {is : Instrs} {c : List Kind} {h : ℕ} (d : IsInstrs is c h) → h ≡ greatest (instrs_depths d)
  instrs_greatest grammar.no_instr = refl
  instrs_greatest (grammar.semicolon_instrs {is} {c} {h} d) = own_first _ h (instrs_greatest d)
  instrs_greatest (grammar.instr {h} {hs} d ds) = side_by_side _ _ h hs (instr_greatest d) (instrs_greatest ds)

  -- beside something else that the `if` holds
  branches_greatest : {bs : Branches} {c : List Kind} {h : ℕ} (d : IsBranches bs c h) → (n : ℕ) → max (suc n) (greatest (branches_depths d)) ≡ suc (max n h)
  branches_greatest grammar.no_branch n = omega arith
  branches_greatest (grammar.branch {h} {hb} {hs} d body bs) n = branch_depths n _ _ _ h hb hs (held d (expr_greatest d)) (held_instrs n _ hb (instrs_greatest body)) (branches_greatest bs n)

  other_greatest : {is : Instrs} {c : List Kind} {h : ℕ} (d : IsElse is c h) → (n : ℕ) → max (suc n) (greatest (other_depths d)) ≡ suc (max n h)
  other_greatest grammar.no_else n = omega arith
  other_greatest (grammar.otherwise {is} {c} {h} d) n = let e = held_instrs n _ h (instrs_greatest d) in omega (arith, e)

-- ---- classes

feature_sized : {es : List Name} {fs : List Feature} {c : List Kind} {h : ℕ} (d : IsFeature es fs c h) → Sized (feature_depths d) c
unfolding feature_depths
feature_sized (grammar.attributes {c} {ct} d dt) = beside (outside c) (0 ∷ outside ct) c (_ ∷ ct) (apart c) (ap suc (apart ct))
feature_sized (grammar.routine x {cf} {ct} {ci} {cr} {cl} {cb} {ce} df dt di dr dl db de) =
    ap suc (beside (outside cf) _ cf _ (apart cf) (beside (outside ct) _ ct _ (apart ct) (beside (outside ci) _ ci _ (apart ci) (beside _ _ cr _ (assertion_sized dr)
    (beside (outside cl) _ cl _ (apart cl) (ap suc (beside _ _ cb _ (instrs_sized db) (beside _ (0 ∷ []) ce (_ ∷ []) (assertion_sized de) refl))))))))

feature_greatest : {es : List Name} {fs : List Feature} {c : List Kind} {h : ℕ} (d : IsFeature es fs c h) → h ≡ greatest (feature_depths d)
unfolding feature_depths
feature_greatest (grammar.attributes {c} {ct} d dt) = outside_first c (0 ∷ outside ct) 0 (own_first (outside ct) 0 (sym (greatest-outside ct)))
feature_greatest (grammar.routine x {cf} {ct} {ci} {cr} {cl} {cb} {ce} {hr} {hb} {he} df dt di dr dl db de) =
    let ensured = assertion_depths de ++ 0 ∷ [] in
    let bodied = instrs_depths db ++ ensured in
    let required = assertion_depths dr ++ (outside cl ++ 0 ∷ bodied) in
    let h = max hr (max hb he) in
    own_first (outside cf ++ (outside ct ++ (outside ci ++ required))) h (outside_first cf (outside ct ++ (outside ci ++ required)) h (outside_first ct (outside ci ++ required) h (outside_first ci required h
    (side_by_side (assertion_depths dr) (outside cl ++ 0 ∷ bodied) hr (max hb he) (assertion_greatest dr)
    (outside_first cl (0 ∷ bodied) (max hb he) (own_first bodied (max hb he) (side_by_side (instrs_depths db) ensured hb he (instrs_greatest db) (own_last (assertion_depths de) he (assertion_greatest de)))))))))

features_sized : {es : List Name} {fs : List Feature} {c : List Kind} {h : ℕ} (d : IsFeatures es fs c h) → Sized (features_depths d) c
unfolding features_depths
features_sized grammar.no_feature = refl
features_sized (grammar.feature {c} {s} {cs} d semicolons ds) = beside _ _ c (s ++ cs) (feature_sized d) (beside (outside s) _ s cs (apart s) (features_sized ds))

features_greatest : {es : List Name} {fs : List Feature} {c : List Kind} {h : ℕ} (d : IsFeatures es fs c h) → h ≡ greatest (features_depths d)
unfolding features_depths
features_greatest grammar.no_feature = refl
features_greatest (grammar.feature {s} {h} {hs} d semicolons ds) =
    side_by_side (feature_depths d) (outside s ++ features_depths ds) h hs (feature_greatest d) (outside_first s (features_depths ds) hs (features_greatest ds))

sections_sized : {fs : List Feature} {c : List Kind} {h : ℕ} (d : IsSections fs c h) → Sized (sections_depths d) c
unfolding sections_depths
sections_sized grammar.no_section = refl
sections_sized (grammar.section {ce} {c} {cs} de d ds) = ap suc (beside (outside ce) _ ce _ (apart ce) (beside _ _ c cs (features_sized d) (sections_sized ds)))

sections_greatest : {fs : List Feature} {c : List Kind} {h : ℕ} (d : IsSections fs c h) → h ≡ greatest (sections_depths d)
unfolding sections_depths
sections_greatest grammar.no_section = refl
sections_greatest (grammar.section {ce} {h} {hs} de d ds) =
    own_first (outside ce ++ (features_depths d ++ sections_depths ds)) (max h hs) (outside_first ce (features_depths d ++ sections_depths ds) (max h hs)
    (side_by_side (features_depths d) (sections_depths ds) h hs (features_greatest d) (sections_greatest ds)))

class_sized : {x : Class} {c : List Kind} {h : ℕ} (d : IsClass x c h) → Sized (class_depths d) c
unfolding class_depths
class_sized (grammar.class x {cn} {cm} {cp} {cc = cs} {cf} {ci} {ce} dn dm dp dc df di de) =
    beside (outside cn) _ cn _ (apart cn) (beside (outside cm) _ cm _ (apart cm) (ap suc (ap suc (beside (outside cp) _ cp _ (apart cp) (beside (outside cs) _ cs _ (apart cs)
    (beside _ _ cf _ (sections_sized df) (beside _ _ ci _ (assertion_sized di) (beside (outside ce) (0 ∷ []) ce (_ ∷ []) (apart ce) refl))))))))

class_greatest : {x : Class} {c : List Kind} {h : ℕ} (d : IsClass x c h) → h ≡ greatest (class_depths d)
unfolding class_depths
class_greatest (grammar.class x {cn} {cm} {cp} {cc = cs} {cf} {ci} {ce} {hf} {hi} dn dm dp dc df di de) =
    let ended = outside ce ++ 0 ∷ [] in
    let held = assertion_depths di ++ ended in
    let featured = sections_depths df ++ held in
    let h = max hf hi in
    let last : 0 ≡ greatest ended = outside_first ce (0 ∷ []) 0 refl in
    let w : max hi 0 ≡ hi = omega arith in
    outside_first cn (outside cm ++ 0 ∷ 0 ∷ (outside cp ++ (outside cs ++ featured))) h (outside_first cm (0 ∷ 0 ∷ (outside cp ++ (outside cs ++ featured))) h
    (own_first (0 ∷ (outside cp ++ (outside cs ++ featured))) h (own_first (outside cp ++ (outside cs ++ featured)) h (outside_first cp (outside cs ++ featured) h (outside_first cs featured h
    (side_by_side (sections_depths df) held hf hi (sections_greatest df) (sym w ∙ side_by_side (assertion_depths di) ended hi 0 (assertion_greatest di) last)))))))

pub classes_sized : {xs : List Class} {c : List Kind} {h : ℕ} (d : IsClasses xs c h) → length (classes_depths d) ≡ length c
unfolding classes_depths
classes_sized grammar.no_class = refl
classes_sized (grammar.another {x} {xs} {c} {cs} d ds) = beside _ _ c cs (class_sized d) (classes_sized ds)

pub classes_greatest : {xs : List Class} {c : List Kind} {h : ℕ} (d : IsClasses xs c h) → h ≡ greatest (classes_depths d)
unfolding classes_depths
classes_greatest grammar.no_class = refl
classes_greatest (grammar.another {h} {hs} d ds) = side_by_side (class_depths d) (classes_depths ds) h hs (class_greatest d) (classes_greatest ds)
