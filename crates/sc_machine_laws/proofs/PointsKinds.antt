-- What a step of a task without `old` is not: the start of a body, a refusal, or the exit.
use Rattle.std.proofs.Common.{ℕ, ◌≡◌, List, [], ◌∷◌, ◌++◌, refl, ap, subst, ◌∙◌, inr}
use Rattle.std.proofs.lemmas.List.{append-nil}
use Rattle.sc_tree.specs.Plain.{System}
use Rattle.sc_model.specs.Moves.{first_visible, moves, step, then_go}
use Rattle.sc_model.specs.Sizes.{size}
use Rattle.sc_model.specs.Steps.{Starts, Refuses, Exits, Point, Step, Goes, Does}
use Rattle.sc_model.specs.Tasks.{Task, Do, In, Declare, Forget, Eval, ApplyUnary, EvalRight, ApplyBinary, Conclude, Bind, CallUnqualified, CallQualified, AssignTo, Print, Choose, Repeat, EndLoop, Checked, Require, Required, KeepOld, Ensured, CreateBy, Open, Leave}
use Rattle.sc_model.specs.Values.{Reference}
use Rattle.sc_machine_laws.specs.states.Points.{Each}
use Rattle.sc_machine_laws.proofs.Tasks.{Behind, OfTask, OfTasks, class_behind}
use Rattle.sc_machine_laws.proofs.CallSteps.{MayAssign, SteppedSo}
use Rattle.sc_machine_laws.proofs.Steps.{moves_so}
use Rattle.sc_machine_laws.proofs.Modes.{Any, any_branches, any_expr, any_instrs, any_variable}
use Rattle.sc_machine_laws.specs.Evaluating.{extended, extended_step}
use Rattle.sc_machine_laws.specs.ClauseLaws.{StepExtends}
use Rattle.sc_machine_laws.specs.Texts.{TaskHasNoOld}

-- ---- any tasks

module _ (K : Type 0) where
  any_task : (t : Task) → TaskHasNoOld t → OfTask Any Any (Unit {0}) K t
  any_task (Do body) o = any_instrs body
  any_task (Eval i e) o = any_expr e
  any_task (EvalRight op i e) o = any_expr e
  any_task (CallUnqualified x n) o = tt
  any_task (AssignTo v) o = any_variable v
  any_task Print o = tt
  any_task (Choose depth body bs other) o = (any_instrs body, (any_branches bs, any_instrs other))
  any_task (Repeat e body) o = (any_expr e, any_instrs body)
  any_task (EndLoop e body) o = (any_expr e, any_instrs body)
  any_task (Require ks) o = absurd o
  any_task (Required k) o = absurd o
  any_task (CreateBy v k n) o = (tt, any_variable v)
  any_task (Open xs body) o = (tt, any_instrs body)
  any_task (Leave depth) o = tt
  any_task (In text) o = tt
  any_task (Declare locals) o = tt
  any_task (Forget depth) o = tt
  any_task (ApplyUnary op) o = tt
  any_task (ApplyBinary op) o = tt
  any_task Conclude o = tt
  any_task (Bind d x) o = tt
  any_task (CallQualified x n) o = tt
  any_task Checked o = tt
  any_task KeepOld o = tt
  any_task Ensured o = tt

  module _ (End : Type 0) (F : List Task → Type 0) where
    abbrev AnyTasks : ℕ → List Task → Type 0
    AnyTasks k ts = OfTasks (λ k. Any) (λ k. Any) (Unit {0}) K End F k ts

    behind_any : (t : Task) (ts : List Task) (X : Type 0) → TaskHasNoOld t → X → Behind F t ts X
    behind_any (Require ks) ts X o x = absurd o
    behind_any t ts X o x = x

    any_tasks : (ts rest : List Task) → Each TaskHasNoOld ts → ((k : ℕ) → AnyTasks k rest) → (k : ℕ) →
        AnyTasks k (ts ++ rest)
    any_tasks [] rest o l k = l k
    any_tasks (t ∷ ts) rest o l k = (
      any_task t o.0,
      behind_any t (ts ++ rest) (AnyTasks (class_behind k t) (ts ++ rest)) o.0
          (any_tasks ts rest o.1 l (class_behind k t)),
    )

-- ---- steps

any_objects : (s : System) (me : Reference) → MayAssign s me (λ k. Any) (λ os. Unit {0})
any_objects s me k x f d v objects a there kind o = tt

-- It starts no body, refuses nothing and doesn't exit.
abbrev pub IsWithin : Step → Type 0
IsWithin (Does Starts q) = ⊥
IsWithin (Does (Refuses k) q) = ⊥
IsWithin (Does Exits q) = ⊥
IsWithin st = Unit {0}

module _ (extends : StepExtends) (s : System) (me : Reference) (p : Point) (t : Task) (rest : List Task)
    (e : p.tasks ≡ t ∷ rest) (o : Each TaskHasNoOld p.tasks) where
  -- no body starts, and nothing is refused
  abbrev NoneStarts : Step → Type 0
  NoneStarts x = SteppedSo s me (λ k. Any) (λ k. Any) (Unit {0}) ⊥ (Unit {0}) (λ ts. ⊥) (λ os. Unit {0})
      (any_objects s me) x

  -- nothing exits
  abbrev NoneExits : Step → Type 0
  NoneExits x =
      SteppedSo s me (λ k. Any) (λ k. Any) (Unit {0}) (Unit {0}) ⊥ (λ ts. Unit {0}) (λ os. Unit {0})
      (any_objects s me) x

  starts_none : NoneStarts (moves s me p)
  starts_none = moves_so s me (λ k. Any) (λ k. Any) (Unit {0}) ⊥ (Unit {0}) (λ ts. ⊥) (λ os. Unit {0})
      (any_objects s me) p tt
      (subst (λ ts. OfTasks (λ k. Any) (λ k. Any) (Unit {0}) ⊥ (Unit {0}) (λ ts. ⊥) p.text.class ts)
      (append-nil p.tasks)
      (any_tasks ⊥ (Unit {0}) (λ ts. ⊥) p.tasks [] o (λ k. tt) p.text.class))

  -- a clause stands after it
  abbrev Longer : Point
  Longer = extended p.olds (Require [] ∷ []) p

  exits_never : NoneExits (moves s me Longer)
  exits_never = moves_so s me (λ k. Any) (λ k. Any) (Unit {0}) (Unit {0}) ⊥ (λ ts. Unit {0}) (λ os. Unit {0})
      (any_objects s me) Longer tt
      (any_tasks (Unit {0}) ⊥ (λ ts. Unit {0}) p.tasks (Require [] ∷ []) o (λ k. ((tt, tt), inr tt)) p.text.class)

  pub step_is_within : IsWithin (step s me p)
  step_is_within = by (step s me p) refl
    where
      first : (x : Step) → step s me p ≡ x →
          NoneStarts (then_go x (first_visible (size p.tasks) s me))
      first x i = subst (λ x. NoneStarts
          (then_go x (first_visible (size p.tasks) s me))) i starts_none

      longer : (x : Step) → step s me p ≡ x →
          NoneExits
          (then_go (extended_step p.olds (Require [] ∷ []) x) (first_visible (size Longer.tasks) s me))
      longer x i = subst (λ x. NoneExits
          (then_go x (first_visible (size Longer.tasks) s me)))
          (extends s me p.olds (Require [] ∷ []) p t rest e (subst (Each TaskHasNoOld) e o).0
          ∙ ap (extended_step p.olds (Require [] ∷ [])) i) exits_never

      by : (x : Step) → step s me p ≡ x → IsWithin x
      by (Does Starts q) i = (first (Does Starts q) i).0
      by (Does (Refuses k) q) i = (first (Does (Refuses k) q) i).0
      by (Does Exits q) i = (longer (Does Exits q) i).0
      by (Goes q) i = tt
      by (Does a q) i = tt
