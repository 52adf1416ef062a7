-- Texts, where the names that are called and assigned without a target are such.
use Rattle.std.proofs.Common.{ℕ, List, [], ◌∷◌, Option, Some, None}
use Rattle.sc_tree.specs.Plain as tree
use Rattle.sc_tree.specs.Plain.{Clause, CreationCall, Head, Variable, Named, ResultVariable, Expr, Exprs, no_exprs, expr_then, Instr, Instrs, no_instrs, instr_then, Branches, no_branches, branch_then}

abbrev mutual
  -- the names that an expression calls without a target are such
  pub OfExpr : (List ℕ → Type 0) → Expr → Type 0
  OfExpr C (tree.Call q tree.no_target x es) = C x.text × OfExprs C es
  OfExpr C (tree.Call q (tree.target a) x es) = OfExpr C a × OfExprs C es
  OfExpr C (tree.Unary q op a) = OfExpr C a
  OfExpr C (tree.Binary q op a b) = OfExpr C a × OfExpr C b
  OfExpr C (tree.ObjectTest q d a x) = OfExpr C a
  OfExpr C e = Unit {0}

  pub OfExprs : (List ℕ → Type 0) → Exprs → Type 0
  OfExprs C no_exprs = Unit {0}
  OfExprs C (expr_then e es) = OfExpr C e × OfExprs C es

abbrev pub OfClauses : (List ℕ → Type 0) → List Clause → Type 0
OfClauses C [] = Unit {0}
OfClauses C (k ∷ ks) = OfExpr C k.condition × OfClauses C ks

abbrev pub OfHeads : (List ℕ → Type 0) → List Head → Type 0
OfHeads C [] = Unit {0}
OfHeads C (d ∷ ds) = OfExpr C d.value × OfHeads C ds

-- the actuals of a creation procedure
abbrev pub OfCall : (List ℕ → Type 0) → Option CreationCall → Type 0
OfCall C None = Unit {0}
OfCall C (Some k) = OfExprs C k.actuals

abbrev pub OfVariable : (List ℕ → Type 0) → Variable → Type 0
OfVariable A (Named x) = A x.text
OfVariable A (ResultVariable q) = Unit {0}

abbrev mutual
  -- So are those that an instruction calls, these are such that it assigns, and what acts on more than its own entities stands there only where that may.
  pub OfInstr : (List ℕ → Type 0) → (List ℕ → Type 0) → Type 0 → Instr → Type 0
  OfInstr C A E (tree.Assign q v e) = OfVariable A v × OfExpr C e
  OfInstr C A E (tree.PrintText q text) = E
  OfInstr C A E (tree.CallRoutine q tree.no_target x es) = E × (C x.text × OfExprs C es)
  OfInstr C A E (tree.CallRoutine q (tree.target a) x es) = E × (OfExpr C a × OfExprs C es)
  OfInstr C A E (tree.Create q c) = E × (OfVariable A c.variable × OfCall C c.call)
  OfInstr C A E (tree.If q e body bs other) = OfExpr C e × (OfInstrs C A E body × (OfBranches C A E bs × OfInstrs C A E other))
  OfInstr C A E (tree.Loop q initial e body) = OfInstrs C A E initial × (OfExpr C e × OfInstrs C A E body)
  OfInstr C A E (tree.Check q ks) = OfClauses C ks
  OfInstr C A E (tree.Block q ds body) = E × (OfHeads C ds × OfInstrs C A E body)

  pub OfInstrs : (List ℕ → Type 0) → (List ℕ → Type 0) → Type 0 → Instrs → Type 0
  OfInstrs C A E no_instrs = Unit {0}
  OfInstrs C A E (instr_then i is) = OfInstr C A E i × OfInstrs C A E is

  pub OfBranches : (List ℕ → Type 0) → (List ℕ → Type 0) → Type 0 → Branches → Type 0
  OfBranches C A E no_branches = Unit {0}
  OfBranches C A E (branch_then e body bs) = OfExpr C e × (OfInstrs C A E body × OfBranches C A E bs)
