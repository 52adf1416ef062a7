-- The next step of a routine, and the silent steps up to and with the first visible one.
use Rattle.std.specs.Prelude.{ℕ, zero, suc, List, [], ◌∷◌, ◌++◌, length, Some}
use Rattle.sc_tree.specs.Plain.{System, no_instrs, instr_then}
use Rattle.sc_rules.specs.Names.{test_type}
use Rattle.sc_model.specs.declared.cause.Cause.TheVariants as cause
use Rattle.sc_model.specs.Values.{Reference, Operand}
use Rattle.sc_model.specs.Environments.{locals_bound}
use Rattle.sc_model.specs.Operators.{is_short}
use Rattle.sc_model.specs.Routines.{place_in}
use Rattle.sc_model.specs.Tasks.{Task, Do, In, Declare, Forget, Eval, ApplyUnary, EvalRight, ApplyBinary, Conclude, Bind, CallUnqualified, CallQualified, AssignTo, Print, Choose, Repeat, EndLoop, Checked, Require, Required, KeepOld, Ensured, CreateBy, Open, Leave}
use Rattle.sc_model.specs.Steps.{Point, Starts, Leaves, Exits, Step, Goes, Does, stuck, comes, popped, forgets}
use Rattle.sc_model.specs.Calls.{calls_unqualified, calls_qualified}
use Rattle.sc_model.specs.Creations.{assigned_at, creates}
use Rattle.sc_model.specs.ObjectTests.{binds}
use Rattle.sc_model.specs.Expressions.{apply_unary, applies, decided_by, evals_right, concludes, evaluate}
use Rattle.sc_model.specs.Instructions.{assigns, prints, chooses, ends_loop, tests, required, opens, begins}
use Rattle.sc_model.specs.Sizes.{size}

-- A task that takes the last value; `p` has what is left after both.
abbrev pub performs_on : System → Reference → Task → Operand → Point → Step
performs_on s me (ApplyUnary op) u p = apply_unary op u.value p
performs_on s me (EvalRight op i right) u p = evals_right (decided_by op u.value) (is_short op) op i right u p
performs_on s me (ApplyBinary op) u p = applies op u.value p.values p
performs_on s me Conclude u p = concludes u.value p
performs_on s me (Bind d x) u p = binds s me.handler d x u.value (test_type (place_in s p.text) d (Some u.type)) p
performs_on s me (AssignTo x) u p = assigns me x (assigned_at s x p) u.value p
performs_on s me Print u p = prints u.value p
performs_on s me (Choose depth body bs other) u p = chooses depth u.value body bs other p
performs_on s me (EndLoop e body) u p = ends_loop u.value e body p
performs_on s me Checked u p = tests cause.Check u.value p
performs_on s me (Required k) u p = required k u.value p
performs_on s me KeepOld u p = Goes (record p { olds = p.olds ++ u ∷ [] })
performs_on s me Ensured u p = tests cause.Postcondition u.value p
performs_on s me task u p = stuck p

-- A task; `p` has what is left after it.
abbrev pub performs : System → Reference → Task → List Operand → Point → Step
performs s me (Do no_instrs) vs p = Goes p
performs s me (Do (instr_then i is)) vs p = begins i (record p { tasks = Do is ∷ p.tasks })
performs s me (In text) vs p = Goes (record p { text = text })
performs s me (Declare locals) vs p =
    Goes (record p { environment = p.environment ++ locals_bound s p.text.formals locals })
performs s me (Forget depth) vs p = Goes (forgets depth p)
performs s me (Eval i e) vs p = evaluate s me i e p
performs s me (CallUnqualified x n) vs p = calls_unqualified s me x (popped n [] vs) p
performs s me (CallQualified x n) vs p = calls_qualified s me x (popped n [] vs) p
performs s me (Repeat e body) vs p = comes (Eval 0 e ∷ EndLoop e body ∷ []) p
performs s me (Require []) vs p = Does Starts p
performs s me (Require (k ∷ ks)) vs p = comes (Eval 0 k.condition ∷ Required k ∷ Require ks ∷ []) p
performs s me (CreateBy x k n) vs p = creates s me x k (popped n [] vs) p
performs s me (Open xs body) vs p = opens xs body (popped (length xs) [] vs) p
performs s me (Leave depth) vs p = Does Leaves (forgets depth p)
performs s me task [] p = stuck p
performs s me task (u ∷ vs) p = performs_on s me task u (record p { values = vs })

-- the step at these tasks; where none is left the routine exits
abbrev pub step_at : System → Reference → List Task → Point → Step
step_at s me [] p = Does Exits p
step_at s me (task ∷ rest) p = performs s me task p.values (record p { tasks = rest })

abbrev pub step : System → Reference → Point → Step
step s me p = step_at s me p.tasks p

-- ---- the first visible step

abbrev pub then_go : Step → (Point → Step) → Step
then_go (Goes p) go = go p
then_go (Does a p) go = Does a p

-- at most this number of steps
abbrev pub first_visible : ℕ → System → Reference → Point → Step
first_visible zero s me p = Goes p
first_visible (suc n) s me p = then_go (step s me p) (first_visible n s me)

-- each silent step makes what is left smaller, so these are enough
abbrev pub moves : System → Reference → Point → Step
moves s me p = first_visible (suc (size p.tasks)) s me p
