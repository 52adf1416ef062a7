-- How deep each token is, by the constructs around it: a construct's own tokens are as deep as the construct, and
-- what it holds is one deeper. This looks at how the tokens were put together and at none of the numbers of the
-- grammar.
use Rattle.std.specs.Prelude.{ℕ, suc, max, List, [], ◌∷◌, ◌++◌, map}
use Rattle.sc_text.specs.Kind.{Kind}
use Rattle.sc_text.specs.declared.token.Terminal.{Terminal}
use Rattle.sc_tree.specs.Plain.{Name, Expr, Exprs, Clause, Head, Instr, Instrs, Branches, Feature, Class}
use Rattle.sc_tree.specs.Grammar as grammar
use Rattle.sc_tree.specs.Grammar.{spelling, IsPrimary, IsChain, IsActuals, IsExprs, IsExpr, IsClause, IsClauses, IsAssertion, IsHead, IsHeads, IsInstr, IsInstrs, IsBranches, IsElse, IsFeature, IsFeatures, IsSections, IsClass, IsClasses}

-- what a construct holds
abbrev pub inside : List ℕ → List ℕ
inside depths = map suc depths

-- tokens with no construct around them
abbrev pub outside : List Kind → List ℕ
outside c = map (λ _. 0) c

-- the greatest of some depths, or 0 if there is none
abbrev pub greatest : List ℕ → ℕ
greatest [] = 0
greatest (n ∷ ns) = max n (greatest ns)

-- ---- expressions

unfoldable mutual
  pub primary_depths : {t : Expr} {c : List Kind} {h : ℕ} → IsPrimary t c h → List ℕ
  primary_depths (grammar.integer n) = 0 ∷ []
  primary_depths grammar.true_constant = 0 ∷ []
  primary_depths grammar.false_constant = 0 ∷ []
  primary_depths grammar.void = 0 ∷ []
  primary_depths (grammar.parenthesized d) = 0 ∷ (inside (expr_depths d) ++ 0 ∷ [])
  primary_depths (grammar.chain d) = chain_depths d
  primary_depths (grammar.object_test {co} _ d x) = 0 ∷ (outside co ++ (chain_depths d ++ 0 ∷ 0 ∷ []))

  -- A dot holds its target.
  pub chain_depths : {t : Expr} {c : List Kind} {h : ℕ} → IsChain t c h → List ℕ
  chain_depths grammar.current = 0 ∷ []
  chain_depths grammar.result = 0 ∷ []
  chain_depths (grammar.unqualified x d) = 0 ∷ actuals_depths d
  chain_depths (grammar.qualified d x e) = inside (chain_depths d) ++ 0 ∷ 0 ∷ actuals_depths e

  pub actuals_depths : {es : Exprs} {c : List Kind} {h : ℕ} → IsActuals es c h → List ℕ
  actuals_depths grammar.no_actuals = []
  actuals_depths (grammar.actuals d) = 0 ∷ (inside (exprs_depths d) ++ 0 ∷ [])

  pub exprs_depths : {es : Exprs} {c : List Kind} {h : ℕ} → IsExprs es c h → List ℕ
  exprs_depths (grammar.one_expr d) = expr_depths d
  exprs_depths (grammar.more_exprs d ds) = expr_depths d ++ 0 ∷ exprs_depths ds

  pub expr_depths : {k : ℕ} {t : Expr} {c : List Kind} {h : ℕ} → IsExpr k t c h → List ℕ
  expr_depths (grammar.primary d) = primary_depths d
  expr_depths (grammar.prefixed op d) = 0 ∷ inside (expr_depths d)
  expr_depths (grammar.tighter d) = expr_depths d
  expr_depths (grammar.left op g d e) = inside (expr_depths d) ++ (outside (spelling op) ++ inside (expr_depths e))
  expr_depths (grammar.alone op g d e) = inside (expr_depths d) ++ (outside (spelling op) ++ inside (expr_depths e))

-- ---- assertions

unfoldable pub clause_depths : {x : Clause} {c : List Kind} {h : ℕ} → IsClause x c h → List ℕ
clause_depths (grammar.untagged d) = expr_depths d
clause_depths (grammar.tagged x d) = 0 ∷ 0 ∷ expr_depths d

unfoldable pub clauses_depths : {xs : List Clause} {c : List Kind} {h : ℕ} → IsClauses xs c h → List ℕ
clauses_depths grammar.no_clause = []
clauses_depths (grammar.semicolon_clauses d) = 0 ∷ clauses_depths d
clauses_depths (grammar.clause d g ds) = clause_depths d ++ clauses_depths ds

unfoldable pub assertion_depths :
    {m : Terminal} {xs : List Clause} {c : List Kind} {h : ℕ} → IsAssertion m xs c h → List ℕ
assertion_depths grammar.no_assertion = []
assertion_depths (grammar.assertion d) = 0 ∷ clauses_depths d

-- ---- instructions

unfoldable pub head_depths : {x : Head} {c : List Kind} {h : ℕ} → IsHead x c h → List ℕ
head_depths (grammar.head d x) = chain_depths d ++ 0 ∷ 0 ∷ []

unfoldable pub heads_depths : {xs : List Head} {c : List Kind} {h : ℕ} → IsHeads xs c h → List ℕ
heads_depths (grammar.one_head d) = head_depths d
heads_depths (grammar.more_heads d ds) = head_depths d ++ 0 ∷ heads_depths ds

unfoldable mutual
  pub instr_depths : {i : Instr} {c : List Kind} {h : ℕ} → IsInstr i c h → List ℕ
  instr_depths (grammar.assign {cv} _ d) = outside cv ++ 0 ∷ expr_depths d
  instr_depths (grammar.print_text s) = 0 ∷ 0 ∷ (inside (0 ∷ []) ++ 0 ∷ [])
  instr_depths (grammar.call d) = chain_depths d
  instr_depths (grammar.create {cv} _) = 0 ∷ outside cv
  instr_depths (grammar.create_by {cv} _ x d) = 0 ∷ (inside (outside cv) ++ 0 ∷ 0 ∷ actuals_depths d)
  instr_depths (grammar.conditional d body branches other) =
      0 ∷ (inside (expr_depths d)
      ++ 0 ∷ (inside (instrs_depths body) ++ (branches_depths branches ++ (other_depths other ++ 0 ∷ []))))
  instr_depths (grammar.loop initial d body) =
      0 ∷ (inside (instrs_depths initial)
      ++ 0 ∷ (inside (expr_depths d) ++ 0 ∷ (inside (instrs_depths body) ++ 0 ∷ [])))
  instr_depths (grammar.check d) = 0 ∷ (inside (clauses_depths d) ++ 0 ∷ [])
  instr_depths (grammar.block d body) = 0 ∷ (inside (heads_depths d) ++ 0 ∷ (inside (instrs_depths body) ++ 0 ∷ []))

  pub instrs_depths : {is : Instrs} {c : List Kind} {h : ℕ} → IsInstrs is c h → List ℕ
  instrs_depths grammar.no_instr = []
  instrs_depths (grammar.semicolon_instrs d) = 0 ∷ instrs_depths d
  instrs_depths (grammar.instr d ds) = instr_depths d ++ instrs_depths ds

  -- `elseif` and its `then` are the `if`'s own tokens, and so is `else`.
  pub branches_depths : {bs : Branches} {c : List Kind} {h : ℕ} → IsBranches bs c h → List ℕ
  branches_depths grammar.no_branch = []
  branches_depths (grammar.branch d body bs) =
      0 ∷ (inside (expr_depths d) ++ 0 ∷ (inside (instrs_depths body) ++ branches_depths bs))

  pub other_depths : {is : Instrs} {c : List Kind} {h : ℕ} → IsElse is c h → List ℕ
  other_depths grammar.no_else = []
  other_depths (grammar.otherwise d) = 0 ∷ inside (instrs_depths d)

-- ---- classes

unfoldable pub feature_depths :
    {es : List Name} {fs : List Feature} {c : List Kind} {h : ℕ} → IsFeature es fs c h → List ℕ
feature_depths (grammar.attributes {c} {ct} _ _) = outside c ++ 0 ∷ outside ct
feature_depths (grammar.routine x {cf} {ct} {ci} {cl} _ _ _ pre _ body post) =
    0 ∷ (outside cf ++ (outside ct ++ (outside ci ++ (assertion_depths pre ++ (outside cl
    ++ 0 ∷ (instrs_depths body ++ (assertion_depths post ++ 0 ∷ [])))))))

unfoldable pub features_depths :
    {es : List Name} {fs : List Feature} {c : List Kind} {h : ℕ} → IsFeatures es fs c h → List ℕ
features_depths grammar.no_feature = []
features_depths (grammar.feature {s} d _ ds) = feature_depths d ++ (outside s ++ features_depths ds)

unfoldable pub sections_depths : {fs : List Feature} {c : List Kind} {h : ℕ} → IsSections fs c h → List ℕ
sections_depths grammar.no_section = []
sections_depths (grammar.section {ce} _ d ds) = 0 ∷ (outside ce ++ (features_depths d ++ sections_depths ds))

unfoldable pub class_depths : {x : Class} {c : List Kind} {h : ℕ} → IsClass x c h → List ℕ
class_depths (grammar.class x {cn} {cm} {cp} {cc} {ce} _ _ _ _ sections invariant _) =
    outside cn ++ (outside cm ++ 0 ∷ 0 ∷ (outside cp ++ (outside cc
    ++ (sections_depths sections ++ (assertion_depths invariant ++ (outside ce ++ 0 ∷ []))))))

unfoldable pub classes_depths : {xs : List Class} {c : List Kind} {h : ℕ} → IsClasses xs c h → List ℕ
classes_depths grammar.no_class = []
classes_depths (grammar.another d ds) = class_depths d ++ classes_depths ds
