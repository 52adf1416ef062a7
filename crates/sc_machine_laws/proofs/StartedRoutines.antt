-- A routine that has started doesn't start again.
use Rattle.std.proofs.Common.{ℕ, ◌≡◌, List, [], ◌∷◌, subst}
use Rattle.sc_tree.specs.Plain.{System}
use Rattle.sc_model.specs.Values.{Reference}
use Rattle.sc_model.specs.Tasks.{Task, Do, In, Declare, Forget, Eval, ApplyUnary, EvalRight, ApplyBinary, Conclude, Bind, CallUnqualified, CallQualified, AssignTo, Print, Choose, Repeat, EndLoop, Checked, Require, Required, KeepOld, Ensured, CreateBy, Open, Leave}
use Rattle.sc_model.specs.Steps.{Point, Starts, Does}
use Rattle.sc_model.specs.Moves.{moves}
use Rattle.sc_machine_laws.proofs.states.Waits.{true_false}
use Rattle.sc_machine_laws.specs.settlements.Entries.{HasStarted}
use Rattle.sc_machine_laws.proofs.Modes.{Any, any_branches, any_expr, any_instrs, any_variable}
use Rattle.sc_machine_laws.proofs.Tasks.{OfTasks}
use Rattle.sc_machine_laws.proofs.CallSteps.{SteppedSo}
use Rattle.sc_machine_laws.proofs.Steps.{moves_so}

-- any tasks, but no clause of a precondition
abbrev IsLeft : ℕ → List Task → Type 0
IsLeft k ts = OfTasks (λ k. Any) (λ k. Any) (Unit {0}) ⊥ (Unit {0}) (λ ts. ⊥) k ts

started_left : (k : ℕ) (ts : List Task) → HasStarted ts → IsLeft k ts
started_left k [] h = tt
started_left k (Do body ∷ ts) h = (any_instrs body, started_left k ts h.1)
started_left k (In text ∷ ts) h = (tt, started_left text.class ts h.1)
started_left k (Declare locals ∷ ts) h = (tt, started_left k ts h.1)
started_left k (Forget depth ∷ ts) h = (tt, started_left k ts h.1)
started_left k (Eval i e ∷ ts) h = (any_expr e, started_left k ts h.1)
started_left k (ApplyUnary op ∷ ts) h = (tt, started_left k ts h.1)
started_left k (EvalRight op i e ∷ ts) h = (any_expr e, started_left k ts h.1)
started_left k (ApplyBinary op ∷ ts) h = (tt, started_left k ts h.1)
started_left k (Conclude ∷ ts) h = (tt, started_left k ts h.1)
started_left k (Bind d x ∷ ts) h = (tt, started_left k ts h.1)
started_left k (CallUnqualified x n ∷ ts) h = (tt, started_left k ts h.1)
started_left k (CallQualified x n ∷ ts) h = (tt, started_left k ts h.1)
started_left k (AssignTo v ∷ ts) h = (any_variable v, started_left k ts h.1)
started_left k (Print ∷ ts) h = (tt, started_left k ts h.1)
started_left k (Choose depth body bs other ∷ ts) h =
    ((any_instrs body, (any_branches bs, any_instrs other)), started_left k ts h.1)
started_left k (Repeat e body ∷ ts) h = ((any_expr e, any_instrs body), started_left k ts h.1)
started_left k (EndLoop e body ∷ ts) h = ((any_expr e, any_instrs body), started_left k ts h.1)
started_left k (Checked ∷ ts) h = (tt, started_left k ts h.1)
started_left k (Require ks ∷ ts) h = true_false h.0
started_left k (Required q ∷ ts) h = true_false h.0
started_left k (KeepOld ∷ ts) h = (tt, started_left k ts h.1)
started_left k (Ensured ∷ ts) h = (tt, started_left k ts h.1)
started_left k (CreateBy v x n ∷ ts) h = ((tt, any_variable v), started_left k ts h.1)
started_left k (Open xs body ∷ ts) h = ((tt, any_instrs body), started_left k ts h.1)
started_left k (Leave depth ∷ ts) h = (tt, started_left k ts h.1)

-- Where no clause of its precondition is left, its next turn doesn't start it.
pub starts_once : (s : System) (me : Reference) (p q : Point) → HasStarted p.tasks → moves s me p ≡ Does Starts q → ⊥
starts_once s me p q h e =
    (subst (SteppedSo s me (λ k. Any) (λ k. Any) (Unit {0}) ⊥ (Unit {0}) (λ ts. ⊥) (λ objects. Unit {0})
    (λ k x f d v objects a i j o. tt)) e
    (moves_so s me (λ k. Any) (λ k. Any) (Unit {0}) ⊥ (Unit {0}) (λ ts. ⊥) (λ objects. Unit {0})
    (λ k x f d v objects a i j o. tt) p tt
    (started_left p.text.class p.tasks h))).0
