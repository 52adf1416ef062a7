-- The size of what is left to do: each silent step makes it smaller.
use Rattle.std.specs.Prelude.{ℕ, ◌+◌, List, [], ◌∷◌, Option, Some, None}
use Rattle.sc_tree.specs.Plain as tree
use Rattle.sc_tree.specs.Plain.{Clause, Head, Expr, no_target, target, Exprs, no_exprs, expr_then, CreationCall, Instr, Instrs, no_instrs, instr_then, Branches, no_branches, branch_then}
use Rattle.sc_model.specs.Tasks.{Task, Do, Eval, EvalRight, Choose, Repeat, Require}

abbrev mutual
  pub expr_size : Expr → ℕ
  expr_size (tree.Call q no_target x es) = exprs_size es + 2
  expr_size (tree.Call q (target a) x es) = expr_size a + exprs_size es + 2
  expr_size (tree.Unary q op a) = expr_size a + 2
  expr_size (tree.Binary q op a b) = expr_size a + expr_size b + 4
  expr_size (tree.ObjectTest q d a x) = expr_size a + 2
  expr_size (tree.Integer q z) = 1
  expr_size (tree.Boolean q b) = 1
  expr_size (tree.Void q) = 1
  expr_size (tree.Current q) = 1
  expr_size (tree.Result q) = 1

  pub exprs_size : Exprs → ℕ
  exprs_size no_exprs = 0
  exprs_size (expr_then e es) = expr_size e + exprs_size es

abbrev pub clauses_size : List Clause → ℕ
clauses_size [] = 0
clauses_size (k ∷ ks) = expr_size k.condition + clauses_size ks + 2

abbrev pub heads_size : List Head → ℕ
heads_size [] = 0
heads_size (d ∷ ds) = expr_size d.value + heads_size ds

abbrev pub creation_size : Option CreationCall → ℕ
creation_size None = 0
creation_size (Some k) = exprs_size k.actuals

abbrev mutual
  pub instr_size : Instr → ℕ
  instr_size (tree.Assign q x e) = expr_size e + 2
  instr_size (tree.PrintText q t) = 1
  instr_size (tree.CallRoutine q no_target x es) = exprs_size es + 2
  instr_size (tree.CallRoutine q (target a) x es) = expr_size a + exprs_size es + 2
  instr_size (tree.Create q c) = creation_size c.call + 2
  instr_size (tree.If q e body bs other) = expr_size e + instrs_size body + branches_size bs + instrs_size other + 4
  instr_size (tree.Loop q initial e body) = instrs_size initial + expr_size e + 4
  instr_size (tree.Check q ks) = clauses_size ks + 1
  instr_size (tree.Block q ds body) = heads_size ds + 2

  pub instrs_size : Instrs → ℕ
  instrs_size no_instrs = 1
  instrs_size (instr_then i is) = instr_size i + instrs_size is + 1

  pub branches_size : Branches → ℕ
  branches_size no_branches = 1
  branches_size (branch_then e body bs) = expr_size e + instrs_size body + branches_size bs + 4

abbrev pub task_size : Task → ℕ
task_size (Do body) = instrs_size body
task_size (Eval i e) = expr_size e
task_size (EvalRight op i right) = expr_size right + 2
task_size (Choose depth body bs other) = instrs_size body + branches_size bs + instrs_size other + 2
task_size (Repeat e body) = expr_size e + 2
task_size (Require ks) = clauses_size ks + 1
task_size task = 1

abbrev pub size : List Task → ℕ
size [] = 0
size (task ∷ rest) = task_size task + size rest
