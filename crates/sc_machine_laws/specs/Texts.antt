-- Texts and tasks without `old`, and texts and tasks of contracts, which have no object test.
use Rattle.std.specs.Prelude.{◌≡◌, Option, Some, None, length}
use Rattle.sc_tree.specs.Plain as tree
use Rattle.sc_tree.specs.Plain.{Clause, CreationCall, Head, Expr, Exprs, no_exprs, expr_then, Instr, Instrs, no_instrs, instr_then, Branches, no_branches, branch_then}
use Rattle.sc_model.specs.Olds.{olds_in, olds_of_each}
use Rattle.sc_model.specs.Tasks.{Task, Do, In, Declare, Forget, Eval, ApplyUnary, EvalRight, ApplyBinary, Conclude, Bind, CallUnqualified, CallQualified, AssignTo, Print, Choose, Repeat, EndLoop, Checked, Require, Required, KeepOld, Ensured, CreateBy, Open, Leave}
use Rattle.sc_machine_laws.specs.states.Points.{Each}

-- ---- texts without `old`

-- No `old` is in the expression.
abbrev pub HasNoOld : Expr → Type 0
HasNoOld e = olds_in e ≡ 0

-- No `old` is in these expressions.
abbrev pub HaveNoOld : Exprs → Type 0
HaveNoOld es = length (olds_of_each es) ≡ 0

-- No `old` is in the condition of the clause.
abbrev pub ClauseHasNoOld : Clause → Type 0
ClauseHasNoOld k = HasNoOld k.condition

-- No `old` is in the value of the head of a separate block.
abbrev pub HeadHasNoOld : Head → Type 0
HeadHasNoOld d = HasNoOld d.value

-- No `old` is in the actuals of a creation procedure.
abbrev pub CallHasNoOld : Option CreationCall → Type 0
CallHasNoOld None = Unit {0}
CallHasNoOld (Some k) = HaveNoOld k.actuals

-- No `old` is in the instruction.
abbrev mutual
  pub InstrHasNoOld : Instr → Type 0
  InstrHasNoOld (tree.Assign q v e) = HasNoOld e
  InstrHasNoOld (tree.PrintText q text) = Unit {0}
  InstrHasNoOld (tree.CallRoutine q tree.no_target x es) = HaveNoOld es
  InstrHasNoOld (tree.CallRoutine q (tree.target a) x es) = HasNoOld a × HaveNoOld es
  InstrHasNoOld (tree.Create q c) = CallHasNoOld c.call
  InstrHasNoOld (tree.If q e body bs other) =
      HasNoOld e × (InstrsHaveNoOld body × (BranchesHaveNoOld bs × InstrsHaveNoOld other))
  InstrHasNoOld (tree.Loop q initial e body) = InstrsHaveNoOld initial × (HasNoOld e × InstrsHaveNoOld body)
  InstrHasNoOld (tree.Check q ks) = Each ClauseHasNoOld ks
  InstrHasNoOld (tree.Block q ds body) = Each HeadHasNoOld ds × InstrsHaveNoOld body

  pub InstrsHaveNoOld : Instrs → Type 0
  InstrsHaveNoOld no_instrs = Unit {0}
  InstrsHaveNoOld (instr_then i is) = InstrHasNoOld i × InstrsHaveNoOld is

  pub BranchesHaveNoOld : Branches → Type 0
  BranchesHaveNoOld no_branches = Unit {0}
  BranchesHaveNoOld (branch_then e body bs) = HasNoOld e × (InstrsHaveNoOld body × BranchesHaveNoOld bs)

-- ---- tasks without `old`

-- The task reads no `old` and keeps none, and belongs to a body or to the evaluation of one expression.
abbrev pub TaskHasNoOld : Task → Type 0
TaskHasNoOld (Do body) = InstrsHaveNoOld body
TaskHasNoOld (Eval i e) = HasNoOld e
TaskHasNoOld (EvalRight op i e) = HasNoOld e
TaskHasNoOld (Choose depth body bs other) = InstrsHaveNoOld body × (BranchesHaveNoOld bs × InstrsHaveNoOld other)
TaskHasNoOld (Repeat e body) = HasNoOld e × InstrsHaveNoOld body
TaskHasNoOld (EndLoop e body) = HasNoOld e × InstrsHaveNoOld body
TaskHasNoOld (Open xs body) = InstrsHaveNoOld body
TaskHasNoOld (Require ks) = ⊥
TaskHasNoOld (Required k) = ⊥
TaskHasNoOld KeepOld = ⊥
TaskHasNoOld Ensured = ⊥
TaskHasNoOld (In text) = Unit {0}
TaskHasNoOld (Declare locals) = Unit {0}
TaskHasNoOld (Forget depth) = Unit {0}
TaskHasNoOld (ApplyUnary op) = Unit {0}
TaskHasNoOld (ApplyBinary op) = Unit {0}
TaskHasNoOld Conclude = Unit {0}
TaskHasNoOld (Bind d x) = Unit {0}
TaskHasNoOld (CallUnqualified x n) = Unit {0}
TaskHasNoOld (CallQualified x n) = Unit {0}
TaskHasNoOld (AssignTo v) = Unit {0}
TaskHasNoOld Print = Unit {0}
TaskHasNoOld Checked = Unit {0}
TaskHasNoOld (CreateBy v k n) = Unit {0}
TaskHasNoOld (Leave depth) = Unit {0}

-- ---- texts without object tests

-- No object test is in the expression.
abbrev mutual
  pub HasNoTest : Expr → Type 0
  HasNoTest (tree.Call q tree.no_target x es) = HaveNoTest es
  HasNoTest (tree.Call q (tree.target a) x es) = HasNoTest a × HaveNoTest es
  HasNoTest (tree.Unary q op a) = HasNoTest a
  HasNoTest (tree.Binary q op a b) = HasNoTest a × HasNoTest b
  HasNoTest (tree.ObjectTest q d a x) = ⊥
  HasNoTest e = Unit {0}

  pub HaveNoTest : Exprs → Type 0
  HaveNoTest no_exprs = Unit {0}
  HaveNoTest (expr_then e es) = HasNoTest e × HaveNoTest es

-- No object test is in the condition of the clause.
abbrev pub ClauseHasNoTest : Clause → Type 0
ClauseHasNoTest k = HasNoTest k.condition

-- ---- tasks of contracts

-- The task belongs to a precondition, to the `old`s or to a postcondition. It binds, declares, forgets and assigns
-- nothing.
abbrev pub IsOfContract : Task → Type 0
IsOfContract (Eval i e) = HasNoTest e
IsOfContract (EvalRight op i e) = HasNoTest e
IsOfContract (Require ks) = Each ClauseHasNoTest ks
IsOfContract (ApplyUnary op) = Unit {0}
IsOfContract (ApplyBinary op) = Unit {0}
IsOfContract Conclude = Unit {0}
IsOfContract (CallUnqualified x n) = Unit {0}
IsOfContract (CallQualified x n) = Unit {0}
IsOfContract (Required k) = Unit {0}
IsOfContract KeepOld = Unit {0}
IsOfContract Ensured = Unit {0}
IsOfContract (In text) = Unit {0}
IsOfContract (Do body) = ⊥
IsOfContract (Declare locals) = ⊥
IsOfContract (Forget depth) = ⊥
IsOfContract (Bind d x) = ⊥
IsOfContract (AssignTo v) = ⊥
IsOfContract Print = ⊥
IsOfContract (Choose depth body bs other) = ⊥
IsOfContract (Repeat e body) = ⊥
IsOfContract (EndLoop e body) = ⊥
IsOfContract Checked = ⊥
IsOfContract (CreateBy v k n) = ⊥
IsOfContract (Open xs body) = ⊥
IsOfContract (Leave depth) = ⊥
