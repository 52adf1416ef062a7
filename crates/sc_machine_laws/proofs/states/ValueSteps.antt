-- Each step of a routine fits.
use Rattle.std.proofs.Common.{Bool, List, [], false, refl, subst, sym, true, ◌∷◌}
use Rattle.sc_tree.specs.Plain.{System}
use Rattle.sc_rules.specs.Names.{Entities, RoutineName}
use Rattle.sc_model.specs.Environments.{scope_of}
use Rattle.sc_model.specs.Moves.{step, step_at}
use Rattle.sc_model.specs.Routines.{Routine}
use Rattle.sc_model.specs.Runs.{run}
use Rattle.sc_model.specs.Steps.{Point}
use Rattle.sc_model.specs.Tasks.{ApplyBinary, ApplyUnary, AssignTo, Bind, CallQualified, CallUnqualified, Checked, Choose, Conclude, CreateBy, Declare, Do, EndLoop, Ensured, Eval, EvalRight, Forget, In, KeepOld, Leave, Open, Print, Repeat, Require, Required, Task}
use Rattle.sc_model.specs.Values.{Boolean, Operand, Reference, operand}
use Rattle.sc_model.specs.declared.cause.Cause.TheVariants as cause
use Rattle.sc_machine_laws.specs.states.Points as point
use Rattle.sc_machine_laws.specs.states.Points.{Agrees, types_of}
use Rattle.sc_machine_laws.specs.states.ValueSteps.{IsThereIfOwn, OperandsDo, StandsSo, StepFits}
use Rattle.sc_machine_laws.specs.states.Typed as typed
use Rattle.sc_machine_laws.specs.states.Typed.{IsTyped, Known}
use Rattle.sc_machine_laws.proofs.states.Applications.{apply_binary_step, apply_unary_step, conclude_step, eval_right_step}
use Rattle.sc_machine_laws.proofs.states.Assignments.{assign_step}
use Rattle.sc_machine_laws.proofs.states.ConditionSteps.{condition_step}
use Rattle.sc_machine_laws.proofs.states.Blocks.{open_step}
use Rattle.sc_machine_laws.proofs.states.Calls.{all_good, qualified_step, unqualified_step}
use Rattle.sc_machine_laws.proofs.states.Choices.{choice_step, end_loop_step, print_step, repeat_step, require_step, required_step, tests_step}
use Rattle.sc_machine_laws.proofs.states.Conditions.{Tells, conclude_condition_step, goes_forgotten, join_step, says_false, says_true, settled_so}
use Rattle.sc_machine_laws.proofs.states.Contracts.{keep_step}
use Rattle.sc_machine_laws.proofs.states.Creations.{create_step}
use Rattle.sc_machine_laws.proofs.states.Evaluations.{eval_step}
use Rattle.sc_machine_laws.proofs.states.Instructions.{body_step}
use Rattle.sc_machine_laws.proofs.states.Locals.{declare_step, in_text_step}
use Rattle.sc_machine_laws.proofs.states.RoutinePoints.{AllFit, BaseOf, IsRun, TasksAfter, TasksTyped, goes}
use Rattle.sc_machine_laws.proofs.states.Tests.{bind_step}

module _ (s : System) (pure : RoutineName → Bool) (r : Routine) (me : Reference) (run : IsRun s pure r me) (p : Point) (b : BaseOf s r me p) where
  -- the point with these tasks and values
  abbrev q : List Task → List Operand → Point
  q k vs = record p { tasks = k; values = vs }

  -- what is known is one point: its text, names, `old`s and values
  pub known_step : (k : List Task) (vs : List Operand) → TasksTyped s pure r p k (types_of vs) → AllFit s me p vs → OperandsDo (IsThereIfOwn me.handler p.objects) vs →
      StepFits s pure r me (step_at s me k (q k vs))
  known_step [] vs d f g = goes s pure r me p b [] [] vs d f
  known_step (Do is ∷ k) [] (typed.body own st t) f g = body_step s pure r me run (q k []) b is own st t
  known_step (Do is ∷ k) (u ∷ us) d f g = elim d [ ]
  known_step (In t ∷ k) [] (typed.in_text i d) f g = in_text_step s pure r me (q k []) b t i d
  known_step (In t ∷ k) (u ∷ us) d f g = elim d [ ]
  known_step (Declare ds ∷ k) [] (typed.declare own e d) f g = declare_step s pure r me (q k []) b ds own e d
  known_step (Declare ds ∷ k) (u ∷ us) d f g = elim d [ ]
  known_step (Forget depth ∷ k) [] (typed.forget {n = low} e x d) f g = goes_forgotten s pure r me (q k []) b depth low k e x d
  known_step (Forget depth ∷ k) (u ∷ us) d f g = elim d [ ]
  known_step (Eval i e ∷ k) vs (typed.eval {a} c y j (z, h) l d) f g = eval_step s pure r me run (q k vs) b f i a j h refl l d
  known_step (Eval i e ∷ k) vs (typed.condition {m} {a} c w h y g' d) f g = condition_step s pure r me run (q k vs) b f i e a c m w h y g' d
  known_step (ApplyUnary op ∷ k) [] d f g = elim d [ ]
  known_step (ApplyUnary op ∷ k) (u ∷ us) d f g = apply_unary_step s pure r me (q k us) b f.1 op u d f.0
  known_step (EvalRight op i e ∷ k) [] d f g = elim d [ ]
  known_step (EvalRight op i e ∷ k) (u ∷ us) (typed.eval_right {b = a} {u = c} x h l t d) f g = eval_right_step s pure r me (q k us) b f.1 op i e u a c x h l t d f.0
  known_step (EvalRight op i e ∷ k) (u ∷ us) (typed.settled_right {n = low} y x (typed.right_condition {o = last} {a} c j w h z g' x' d)) f g =
      join_step s pure r me (q k us) b op i e u low (scope_of p.environment) last a c j w h z g' x' d (settled_so s pure r me (q k us) b low u y x f.0) f.1
  known_step (ApplyBinary op ∷ k) [] d f g = elim d [ ]
  known_step (ApplyBinary op ∷ k) (u ∷ []) d f g = elim d [ ]
  known_step (ApplyBinary op ∷ k) (u ∷ v ∷ us) (typed.apply_binary {u = c} t d) f g = apply_binary_step s pure r me (q k (v ∷ us)) b f.1 op u v.type c (types_of us) t d refl f.0
  known_step (Conclude ∷ k) [] d f g = elim d [ ]
  known_step (Conclude ∷ k) (u ∷ us) (typed.conclude y d) f g = conclude_step s pure r me (q k us) b f.1 u y d f.0
  known_step (Conclude ∷ k) (u ∷ us) (typed.settled_conclusion {n = low} y x (typed.conclude_condition {n = first} x' d)) f g =
      conclude_condition_step s pure r me (q k us) b u first low (scope_of p.environment) x' d (settled_so s pure r me (q k us) b low u y x f.0) f.1
  known_step (Bind t x ∷ k) [] d f g = elim d [ ]
  known_step (Bind t x ∷ k) (u ∷ us) (typed.bind {o = low} {b = y} e names z d) f g = bind_step s pure r me (q k us) b f.1 t x u y low e names z d f.0
  known_step (CallUnqualified x i ∷ k) vs (typed.call_unqualified {us} {ws} ts {f = y} e j t m v l d) f g = unqualified_step s pure r me run (q k vs) b x i ts us ws y e j t m v l d f
  known_step (CallQualified x i ∷ k) vs (typed.call_qualified {us} {ws} ts a {f = y} c names e t m v l d) f g =
      qualified_step s pure r me run (q k vs) b x i ts us ws a y c names e t m v l d (all_good s pure r me run (q k vs) b vs f g)
  known_step (AssignTo x ∷ k) [] d f g = elim d [ ]
  known_step (AssignTo x ∷ k) (u ∷ []) (typed.assign {u = w} own e c d) f g = assign_step s pure r me run (q k []) b x u w own e c d f.0
  known_step (AssignTo x ∷ k) (u ∷ v ∷ us) d f g = elim d [ ]
  known_step (Print ∷ k) [] d f g = elim d [ ]
  known_step (Print ∷ k) (u ∷ []) (typed.print e d) f g = print_step s pure r me run (q k []) b u e f.0 d
  known_step (Print ∷ k) (u ∷ v ∷ us) d f g = elim d [ ]
  known_step (Choose depth is bs other ∷ k) [] d f g = elim d [ ]
  known_step (Choose depth is bs other ∷ k) (u ∷ []) (typed.settled_choice {n = low} y x (typed.choose own e x' st l o d)) f g =
      choice_step s pure r me run (q k []) b depth is bs other u low (scope_of p.environment) own e x' st l o d (settled_so s pure r me (q k []) b low u y x f.0)
  known_step (Choose depth is bs other ∷ k) (u ∷ v ∷ us) (typed.settled_choice y x d) f g = elim d [ ]
  known_step (Repeat e is ∷ k) [] (typed.repeat {a} own h y st d) f g = repeat_step s pure r me run (q k []) b e is a own h y st d
  known_step (Repeat e is ∷ k) (u ∷ us) d f g = elim d [ ]
  known_step (EndLoop e is ∷ k) [] d f g = elim d [ ]
  known_step (EndLoop e is ∷ k) (u ∷ []) (typed.end_loop {a} own c h y st d) f g = end_loop_step s pure r me run (q k []) b e is u a own c h y st d f.0
  known_step (EndLoop e is ∷ k) (u ∷ v ∷ us) d f g = elim d [ ]
  known_step (Checked ∷ k) [] d f g = elim d [ ]
  known_step (Checked ∷ k) (u ∷ []) (typed.checked c d) f g = tests_step s pure r me run (q k []) b cause.Check u refl c f.0 d
  known_step (Checked ∷ k) (u ∷ v ∷ us) d f g = elim d [ ]
  known_step (Require ks ∷ k) [] (typed.require z c d) f g = require_step s pure r me run (q k []) b ks z c d
  known_step (Require ks ∷ k) (u ∷ us) d f g = elim d [ ]
  known_step (Required c ∷ k) [] d f g = elim d [ ]
  known_step (Required c ∷ k) (u ∷ []) (typed.required z y d) f g = required_step s pure r me run (q k []) b c u z y f.0 d
  known_step (Required c ∷ k) (u ∷ v ∷ us) d f g = elim d [ ]
  known_step (KeepOld ∷ k) [] d f g = elim d [ ]
  known_step (KeepOld ∷ k) (u ∷ []) (typed.keep_old e d) f g = keep_step s pure r me (q k []) b u e d f.0
  known_step (KeepOld ∷ k) (u ∷ v ∷ us) d f g = elim d [ ]
  known_step (Ensured ∷ k) [] d f g = elim d [ ]
  known_step (Ensured ∷ k) (u ∷ []) (typed.ensured c d) f g = tests_step s pure r me run (q k []) b cause.Postcondition u refl c f.0 d
  known_step (Ensured ∷ k) (u ∷ v ∷ us) d f g = elim d [ ]
  known_step (CreateBy v c i ∷ k) vs (typed.create ts {u} own e z m h d) f g = create_step s pure r me run (q k vs) b v c i ts u own e z m h d f
  known_step (Open xs is ∷ k) vs (typed.open_block {m} ts own o w st h d) f g = open_step s pure r me (q k vs) b xs is ts m own o w st h d f
  known_step (Leave depth ∷ k) [] (typed.leave_block {n = low} own e x d) f g = goes_forgotten s pure r me (q k []) b depth low k e x d
  known_step (Leave depth ∷ k) (u ∷ us) d f g = elim d [ ]

  -- after a condition, whose value is there
  pub concluded_step : (k : List Task) (u : Operand) (us : List Operand) (low high : Entities) → TasksAfter s pure r p k low high (types_of us) → Tells p.environment low high u.value →
      AllFit s me p us → StepFits s pure r me (step_at s me k (q k (u ∷ us)))
  concluded_step [] u us low high d t f = elim d [ ]
  concluded_step (EvalRight op i e ∷ k) u us low high (typed.right_condition {o = last} {a} c j w h z g x d) t f = join_step s pure r me (q k us) b op i e u low high last a c j w h z g x d t f
  concluded_step (Conclude ∷ k) u us low high (typed.conclude_condition {n = first} x d) t f = conclude_condition_step s pure r me (q k us) b u first low high x d t f
  concluded_step (Choose depth is bs other ∷ k) u [] low high (typed.choose own e x st l o d) t f = choice_step s pure r me run (q k []) b depth is bs other u low high own e x st l o d t
  concluded_step (Choose depth is bs other ∷ k) u (v ∷ us) low high d t f = elim d [ ]
  concluded_step (Do is ∷ k) u us low high d t f = elim d [ ]
  concluded_step (In x ∷ k) u us low high d t f = elim d [ ]
  concluded_step (Declare ds ∷ k) u us low high d t f = elim d [ ]
  concluded_step (Forget depth ∷ k) u us low high d t f = elim d [ ]
  concluded_step (Eval i e ∷ k) u us low high d t f = elim d [ ]
  concluded_step (ApplyUnary op ∷ k) u us low high d t f = elim d [ ]
  concluded_step (ApplyBinary op ∷ k) u us low high d t f = elim d [ ]
  concluded_step (Bind x y ∷ k) u us low high d t f = elim d [ ]
  concluded_step (CallUnqualified x i ∷ k) u us low high d t f = elim d [ ]
  concluded_step (CallQualified x i ∷ k) u us low high d t f = elim d [ ]
  concluded_step (AssignTo x ∷ k) u us low high d t f = elim d [ ]
  concluded_step (Print ∷ k) u us low high d t f = elim d [ ]
  concluded_step (Repeat e is ∷ k) u us low high d t f = elim d [ ]
  concluded_step (EndLoop e is ∷ k) u us low high d t f = elim d [ ]
  concluded_step (Checked ∷ k) u us low high d t f = elim d [ ]
  concluded_step (Require ks ∷ k) u us low high d t f = elim d [ ]
  concluded_step (Required c ∷ k) u us low high d t f = elim d [ ]
  concluded_step (KeepOld ∷ k) u us low high d t f = elim d [ ]
  concluded_step (Ensured ∷ k) u us low high d t f = elim d [ ]
  concluded_step (CreateBy v c i ∷ k) u us low high d t f = elim d [ ]
  concluded_step (Open xs is ∷ k) u us low high d t f = elim d [ ]
  concluded_step (Leave depth ∷ k) u us low high d t f = elim d [ ]

-- The next step fits.
pub step_fits : (s : System) (pure : RoutineName → Bool) (r : Routine) (me : Reference) → IsRun s pure r me → (p : Point) → StandsSo s pure r me [] p →
    OperandsDo (IsThereIfOwn me.handler p.objects) p.values → StepFits s pure r me (step s me p)
step_fits s pure r me run p (f, store) g = by f.known f.agrees f.is_typed
  where
    b : BaseOf s r me p
    b = record { text_is = f.text_is; scope_stands = f.scope_stands; names_fit = f.names_fit; result_fits = f.result_fits; olds_fit = f.olds_fit; store = store }

    by : (x : Known) → Agrees p [] x → IsTyped s pure r p.tasks x → StepFits s pure r me (step s me p)
    by _ point.here d = known_step s pure r me run p b p.tasks p.values d f.values_fit g
    by _ (point.held {n = low} {m = high} {t} {us} e i j) d =
        let fs : AllFit s me p (operand (Boolean true) t ∷ us) = subst (AllFit s me p) i f.values_fit in
        subst (λ vs. StepFits s pure r me (step_at s me p.tasks (record p { values = vs }))) (sym i)
        (concluded_step s pure r me run p b p.tasks (operand (Boolean true) t) us low high d (says_true refl j) fs.1)
    by _ (point.denied {n = low} {m = high} {t} {us} e i j) d =
        let fs : AllFit s me p (operand (Boolean false) t ∷ us) = subst (AllFit s me p) i f.values_fit in
        subst (λ vs. StepFits s pure r me (step_at s me p.tasks (record p { values = vs }))) (sym i)
        (concluded_step s pure r me run p b p.tasks (operand (Boolean false) t) us low high d (says_false refl j) fs.1)
