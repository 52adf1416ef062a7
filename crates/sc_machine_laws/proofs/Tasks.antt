-- What is left to do in a routine, where the names that it calls and assigns without a target are such.
use Rattle.std.proofs.Common.{ℕ, ◌⊎◌, List, [], ◌∷◌}
use Rattle.sc_model.specs.Tasks.{Task, Do, In, Declare, Forget, Eval, ApplyUnary, EvalRight, ApplyBinary, Conclude, Bind, CallUnqualified, CallQualified, AssignTo, Print, Choose, Repeat, EndLoop, Checked, Require, Required, KeepOld, Ensured, CreateBy, Open, Leave}
use Rattle.sc_machine_laws.proofs.Texts.{OfExpr, OfClauses, OfVariable, OfInstrs, OfBranches}

-- So it is of a task. Clauses of the precondition stand there only where they may.
abbrev pub OfTask : (List ℕ → Type 0) → (List ℕ → Type 0) → Type 0 → Type 0 → Task → Type 0
OfTask C A E K (Do body) = OfInstrs C A E body
OfTask C A E K (Eval i e) = OfExpr C e
OfTask C A E K (EvalRight op i e) = OfExpr C e
OfTask C A E K (CallUnqualified x n) = C x
OfTask C A E K (AssignTo v) = OfVariable A v
OfTask C A E K Print = E
OfTask C A E K (Choose depth body bs other) = OfInstrs C A E body × (OfBranches C A E bs × OfInstrs C A E other)
OfTask C A E K (Repeat e body) = OfExpr C e × OfInstrs C A E body
OfTask C A E K (EndLoop e body) = OfExpr C e × OfInstrs C A E body
OfTask C A E K (Require ks) = K × OfClauses C ks
OfTask C A E K (Required k) = K
OfTask C A E K (CreateBy v k n) = E × OfVariable A v
OfTask C A E K (Open xs body) = E × OfInstrs C A E body
OfTask C A E K (Leave depth) = E
OfTask C A E K (In text) = Unit {0}
OfTask C A E K (Declare locals) = Unit {0}
OfTask C A E K (Forget depth) = Unit {0}
OfTask C A E K (ApplyUnary op) = Unit {0}
OfTask C A E K (ApplyBinary op) = Unit {0}
OfTask C A E K Conclude = Unit {0}
OfTask C A E K (Bind d x) = Unit {0}
OfTask C A E K (CallQualified x n) = Unit {0}
OfTask C A E K Checked = Unit {0}
OfTask C A E K KeepOld = Unit {0}
OfTask C A E K Ensured = Unit {0}

-- the class of whose text the task is
abbrev pub class_behind : ℕ → Task → ℕ
class_behind k (In text) = text.class
class_behind k task = k

-- after the clauses of a precondition tasks may be of another kind
abbrev pub Behind : (List Task → Type 0) → Task → List Task → Type 0 → Type 0
Behind F (Require ks) ts X = X ⊎ F ts
Behind F task ts X = X

-- So it is of each task, of a text of the class of the number: names are such by the class. They may end where that may be.
abbrev pub OfTasks : (ℕ → List ℕ → Type 0) → (ℕ → List ℕ → Type 0) → Type 0 → Type 0 → Type 0 → (List Task → Type 0) → ℕ → List Task → Type 0
OfTasks C A E K End F k [] = End
OfTasks C A E K End F k (t ∷ ts) = OfTask (C k) (A k) E K t × Behind F t ts (OfTasks C A E K End F (class_behind k t) ts)
