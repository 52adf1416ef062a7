-- Tasks: what is left to do in a routine.
use Rattle.std.specs.Prelude.{ℕ, ◌+◌, List, [], ◌∷◌, ◌++◌, Option, length}
use Rattle.sc_tree.specs.declared.expression.UnaryOperator.{UnaryOperator}
use Rattle.sc_tree.specs.declared.expression.BinaryOperator.{BinaryOperator}
use Rattle.sc_tree.specs.Plain.{DeclaredType, Declaration, Clause, Head, Name, Variable, Expr, Exprs, no_exprs, expr_then, Instrs, Branches}
use Rattle.sc_model.specs.Routines.{Text, Routine}
use Rattle.sc_model.specs.Olds.{olds_in, olds_of_clauses}

-- A task is one layer of a tree. The number beside an expression is that of the `old`s of its postcondition before it.
pub data Task : Type 0 where
  Do : (body : Instrs) → Task  -- these instructions
  In : (text : Text) → Task  -- what follows stands in this text
  Declare : (locals : List Declaration) → Task  -- they are known from now on, with their defaults
  Forget : (depth : ℕ) → Task  -- of the known names so many stay known
  Eval : (olds : ℕ) (expression : Expr) → Task  -- its value comes onto the values
  ApplyUnary : (operator : UnaryOperator) → Task  -- to the last value
  -- the last value decides, or this operand is evaluated too
  EvalRight : (operator : BinaryOperator) (olds : ℕ) (right : Expr) → Task
  ApplyBinary : (operator : BinaryOperator) → Task  -- to the last two values
  Conclude : Task  -- the last value, a truth value, is that of the whole
  Bind : (tested : Option DeclaredType) (name : List ℕ) → Task  -- an object test of the last value
  CallUnqualified : (name : List ℕ) (count : ℕ) → Task  -- a routine of Current; its actuals are the last values
  CallQualified : (name : List ℕ) (count : ℕ) → Task  -- a feature of the value under the actuals
  AssignTo : (variable : Variable) → Task  -- the last value
  Print : Task  -- the last value
  Choose : (depth : ℕ) (body : Instrs) (branches : Branches) (other : Instrs) → Task  -- by the last value
  Repeat : (until : Expr) (body : Instrs) → Task  -- a loop comes to its test
  EndLoop : (until : Expr) (body : Instrs) → Task  -- by the last value, or its body comes again
  Checked : Task  -- the last value is that of a clause of a `check`
  Require : (clauses : List Clause) → Task
  Required : (clause : Clause) → Task  -- the last value is that of the clause
  KeepOld : Task  -- the last value is that of the next `old`
  Ensured : Task  -- the last value is that of a clause of the postcondition
  CreateBy : (variable : Variable) (procedure : Option (List ℕ)) (count : ℕ) → Task  -- its actuals are the last values
  Open : (names : List Name) (body : Instrs) → Task  -- a separate block; its heads are the last values
  Leave : (depth : ℕ) → Task  -- the end of a separate block

-- ---- what constructs set out

abbrev pub evals : ℕ → Exprs → List Task
evals i no_exprs = []
evals i (expr_then e es) = Eval i e ∷ evals (i + olds_in e) es

abbrev pub head_evals : List Head → List Task
head_evals [] = []
head_evals (d ∷ ds) = Eval 0 d.value ∷ head_evals ds

abbrev pub checks : List Clause → List Task
checks [] = []
checks (k ∷ ks) = Eval 0 k.condition ∷ Checked ∷ checks ks

abbrev pub requires : List Clause → List Task
requires [] = []
requires (k ∷ ks) = Require (k ∷ ks) ∷ []

abbrev pub keeps_olds : List Expr → List Task
keeps_olds [] = []
keeps_olds (e ∷ es) = Eval 0 e ∷ KeepOld ∷ keeps_olds es

abbrev pub ensures : ℕ → List Clause → List Task
ensures i [] = []
ensures i (k ∷ ks) = Eval i k.condition ∷ Ensured ∷ ensures (i + olds_in k.condition) ks

-- A routine: its precondition, the `old`s, its body, its postcondition. A contract knows the formals alone.
abbrev pub tasks_of : Routine → List Task
tasks_of r =
    requires r.require ++ keeps_olds (olds_of_clauses r.ensure)
    ++ In r.text ∷ Declare r.locals ∷ Do r.body ∷ Forget (length r.text.formals) ∷ In r.contract ∷ ensures 0 r.ensure
