-- Each step of a routine keeps its point well, and asks others only for what is theirs.
use Rattle.std.proofs.Common.{◌≡◌, ℕ, zero, suc, true, false, List, [], ◌∷◌, Some, length, refl, sym, ap, ◌∙◌, subst}
use Rattle.sc_tree.specs.Plain.{System, no_instrs, instr_then}
use Rattle.sc_rules.specs.Names.{test_type}
use Rattle.sc_model.specs.declared.cause.Cause.TheVariants as cause
use Rattle.sc_model.specs.Values.{Reference, Operand}
use Rattle.sc_model.specs.Environments.{locals_bound}
use Rattle.sc_model.specs.Operators.{is_short}
use Rattle.sc_model.specs.Routines.{place_in}
use Rattle.sc_model.specs.Tasks.{Task, Do, In, Declare, Forget, Eval, ApplyUnary, EvalRight, ApplyBinary, Conclude, Bind, CallUnqualified, CallQualified, AssignTo, Print, Choose, Repeat, EndLoop, Checked, Require, Required, KeepOld, Ensured, CreateBy, Open, Leave}
use Rattle.sc_model.specs.Steps.{Point, Step, Goes, Does, popped}
use Rattle.sc_model.specs.Creations.{assigned_at}
use Rattle.sc_model.specs.Expressions.{decided_by}
use Rattle.sc_model.specs.Sizes.{size}
use Rattle.sc_model.specs.Moves.{performs_on, performs, step_at, step, then_go, first_visible, moves}
use Rattle.sc_machine_laws.proofs.states.links.BlockNames.{IsClean}
use Rattle.sc_machine_laws.proofs.states.links.Points.{Formals, is_leave, AreKept, IsDeep, Every, OperandKnown, BindingKnown, is_body, is_require, leaves, IsCalm, IsPhased, IsWell, StepsWell}
use Rattle.sc_machine_laws.proofs.states.links.KnownValues.{every_append, every_take, locals_known, popped_known}
use Rattle.sc_machine_laws.proofs.states.links.KeptFormals.{locals_no_names, separate_take, room_take, rest_take, kept_rest, plain_leaves, kept_end, locals_no_formals}
use Rattle.sc_machine_laws.proofs.states.links.PointChanges.{with_values, with_tasks, with_environment, forgotten, quiet, no_require}
use Rattle.sc_machine_laws.proofs.states.links.RoutineCalls.{applies_well, binds_well, concludes_well, creates_well, qualified_well, right_well, unary_well, unqualified_well}
use Rattle.sc_machine_laws.proofs.states.links.RoutineInstructions.{assigns_well, begins_well, chooses_well, ends_loop_well, evaluate_well, opens_well, prints_well, required_well, tests_well}

module _ (K : ℕ → Type 0) (fm : Formals) (s : System) (me : Reference) (there : K me.handler) where
  -- ---- tasks

  -- p has what is left after the task
  on_well : (n : ℕ) (t : Task) (u : Operand) (p : Point) → IsWell K fm n p → OperandKnown K u → (is_body t ≡ true → IsCalm p.tasks)
      → (is_require t ≡ true → leaves p.tasks ≡ 0) → IsDeep fm.count t × IsClean t p.environment
      → StepsWell K fm me.handler n (performs_on s me t u p)
  on_well n (ApplyUnary op) u p w is calm none deep = unary_well K fm s me there n op u.value p w
  on_well n (EvalRight op i e) u p w is calm none deep = right_well K fm s me there n (decided_by op u.value) (is_short op) op i e u p w is
  on_well n (ApplyBinary op) u p w is calm none deep = applies_well K fm s me there n op u.value p.values p w w.values
  on_well n Conclude u p w is calm none deep = concludes_well K fm s me there n u.value p w
  on_well n (Bind d x) u p w is calm none deep = binds_well K fm s me there n d x u.value (test_type (place_in s p.text) d (Some u.type)) p w is
  on_well n (AssignTo x) u p w is calm none deep = assigns_well K fm s me there n x (assigned_at s x p) u.value p w is refl
  on_well n Print u p w is calm none deep = prints_well K fm s me there n u.value p w
  on_well n (Choose depth body bs other) u p w is calm none deep = chooses_well K fm s me there n depth u.value body bs other p w (calm refl) deep.0 deep.1
  on_well n (EndLoop e body) u p w is calm none deep = ends_loop_well K fm s me there n u.value e body p w (calm refl)
  on_well n Checked u p w is calm none deep = tests_well K fm s me there n cause.Check u.value p w
  on_well n (Required k) u p w is calm none deep = required_well K fm s me there n k u.value p w (none refl)
  on_well n KeepOld u p w is calm none deep = record {
    objects = w.objects;
    environment = w.environment;
    result = w.result;
    olds = every_append (OperandKnown K) p.olds (u ∷ []) w.olds (is, tt);
    values = w.values;
    tasks = w.tasks;
    left = w.left;
    formals = w.formals;
  }
  on_well n Ensured u p w is calm none deep = tests_well K fm s me there n cause.Postcondition u.value p w
  on_well n (Do b) u p w is calm none deep = (w.objects, refl)
  on_well n (In t) u p w is calm none deep = (w.objects, refl)
  on_well n (Declare l) u p w is calm none deep = (w.objects, refl)
  on_well n (Forget d) u p w is calm none deep = (w.objects, refl)
  on_well n (Eval i e) u p w is calm none deep = (w.objects, refl)
  on_well n (CallUnqualified x i) u p w is calm none deep = (w.objects, refl)
  on_well n (CallQualified x i) u p w is calm none deep = (w.objects, refl)
  on_well n (Repeat e b) u p w is calm none deep = (w.objects, refl)
  on_well n (Require ks) u p w is calm none deep = (w.objects, refl)
  on_well n (CreateBy x k i) u p w is calm none deep = (w.objects, refl)
  on_well n (Open xs b) u p w is calm none deep = (w.objects, refl)
  on_well n (Leave d) u p w is calm none deep = (w.objects, refl)

  performs_well : (n : ℕ) (t : Task) (vs : List Operand) (p : Point) → IsWell K fm n p → Every (OperandKnown K) vs
      → (is_body t ≡ true → IsCalm p.tasks) → (is_require t ≡ true → leaves p.tasks ≡ 0) → IsDeep fm.count t × IsClean t p.environment
      → is_leave t ≡ false → StepsWell K fm me.handler n (performs s me t vs p)
  performs_well n (Do no_instrs) vs p w is calm none deep plain = w
  performs_well n (Do (instr_then i is)) vs p w known calm none deep plain =
      begins_well K fm s me there n i (record p { tasks = Do is ∷ p.tasks }) (quiet K fm n (Do is ∷ []) p (refl, (λ j. refl), tt) (calm refl) (tt, tt) (λ j. refl)
      (tt, w.formals.tidy) w)
      (refl, calm refl)
  performs_well n (In text) vs p w is calm none deep plain = record {
    objects = w.objects;
    environment = w.environment;
    result = w.result;
    olds = w.olds;
    values = w.values;
    tasks = w.tasks;
    left = w.left;
    formals = w.formals;
  }
  performs_well n (Declare locals) vs p w is calm none deep plain = with_environment K fm n p _ w
      (every_append (BindingKnown K) p.environment (locals_bound s p.text.formals locals) w.environment (locals_known K s p.text.formals locals))
      (kept_end fm p.environment (locals_bound s p.text.formals locals) p.tasks w.formals (locals_no_formals s p.text.formals locals)
      (locals_no_names s p.text.formals locals))
  performs_well n (Forget depth) vs p w is calm none deep plain = forgotten K fm n depth p w deep.0 deep.1
  performs_well n (Eval i e) vs p w is calm none deep plain = evaluate_well K fm s me there n i e p w
  performs_well n (CallUnqualified x i) vs p w is calm none deep plain = unqualified_well K fm s me there n x (popped i [] vs) p w (popped_known K i [] vs tt is)
  performs_well n (CallQualified x i) vs p w is calm none deep plain = qualified_well K fm s me there n x (popped i [] vs) p w (popped_known K i [] vs tt is)
  performs_well n (Repeat e body) vs p w is calm none deep plain = quiet K fm n (Eval 0 e ∷ EndLoop e body ∷ []) p
      (refl, (λ j. refl), (refl, (λ j. refl), tt)) (calm refl) (tt, (tt, tt)) (λ j. refl) (tt, (tt, w.formals.tidy)) w
  performs_well n (Require []) vs p w is calm none deep plain = w
  performs_well n (Require (k ∷ ks)) vs p w is calm none deep plain =
      with_tasks K fm n n p (Eval 0 k.condition ∷ Required k ∷ Require ks ∷ p.tasks) w
      ((λ e. no_require e), (λ e. no_require e), ((λ e. no_require e), (λ e. none refl), ((λ e. no_require e), (λ e. none refl), w.tasks))) w.left
      (tt, (tt, (tt, w.formals.deep))) w.formals.named (tt, (tt, (tt, w.formals.tidy)))
  performs_well n (CreateBy x k i) vs p w is calm none deep plain = creates_well K fm s me there n x k (popped i [] vs) p w (popped_known K i [] vs tt is)
  performs_well n (Open xs body) vs p w is calm none deep plain = opens_well K fm s me there n xs body (popped (length xs) [] vs) p w (calm refl)
      (popped_known K (length xs) [] vs tt is)
  performs_well n (Leave depth) vs p w is calm none deep plain = no_require (sym plain)
  performs_well n (ApplyUnary op) [] p w is calm none deep plain = (w.objects, refl)
  performs_well n (ApplyUnary op) (u ∷ vs) p w is calm none deep plain = on_well n (ApplyUnary op) u (record p { values = vs })
      (with_values K fm n p vs w is.1) is.0 calm none deep
  performs_well n (EvalRight op i e) [] p w is calm none deep plain = (w.objects, refl)
  performs_well n (EvalRight op i e) (u ∷ vs) p w is calm none deep plain = on_well n (EvalRight op i e) u (record p { values = vs })
      (with_values K fm n p vs w is.1) is.0 calm none deep
  performs_well n (ApplyBinary op) [] p w is calm none deep plain = (w.objects, refl)
  performs_well n (ApplyBinary op) (u ∷ vs) p w is calm none deep plain = on_well n (ApplyBinary op) u (record p { values = vs })
      (with_values K fm n p vs w is.1) is.0 calm none deep
  performs_well n Conclude [] p w is calm none deep plain = (w.objects, refl)
  performs_well n Conclude (u ∷ vs) p w is calm none deep plain = on_well n Conclude u (record p { values = vs })
      (with_values K fm n p vs w is.1) is.0 calm none deep
  performs_well n (Bind d x) [] p w is calm none deep plain = (w.objects, refl)
  performs_well n (Bind d x) (u ∷ vs) p w is calm none deep plain = on_well n (Bind d x) u (record p { values = vs })
      (with_values K fm n p vs w is.1) is.0 calm none deep
  performs_well n (AssignTo x) [] p w is calm none deep plain = (w.objects, refl)
  performs_well n (AssignTo x) (u ∷ vs) p w is calm none deep plain = on_well n (AssignTo x) u (record p { values = vs })
      (with_values K fm n p vs w is.1) is.0 calm none deep
  performs_well n Print [] p w is calm none deep plain = (w.objects, refl)
  performs_well n Print (u ∷ vs) p w is calm none deep plain = on_well n Print u (record p { values = vs })
      (with_values K fm n p vs w is.1) is.0 calm none deep
  performs_well n (Choose depth body bs other) [] p w is calm none deep plain = (w.objects, refl)
  performs_well n (Choose depth body bs other) (u ∷ vs) p w is calm none deep plain =
      on_well n (Choose depth body bs other) u (record p { values = vs })
      (with_values K fm n p vs w is.1) is.0 calm none deep
  performs_well n (EndLoop e body) [] p w is calm none deep plain = (w.objects, refl)
  performs_well n (EndLoop e body) (u ∷ vs) p w is calm none deep plain = on_well n (EndLoop e body) u (record p { values = vs })
      (with_values K fm n p vs w is.1) is.0 calm none deep
  performs_well n Checked [] p w is calm none deep plain = (w.objects, refl)
  performs_well n Checked (u ∷ vs) p w is calm none deep plain = on_well n Checked u (record p { values = vs })
      (with_values K fm n p vs w is.1) is.0 calm none deep
  performs_well n (Required k) [] p w is calm none deep plain = (w.objects, refl)
  performs_well n (Required k) (u ∷ vs) p w is calm none deep plain = on_well n (Required k) u (record p { values = vs })
      (with_values K fm n p vs w is.1) is.0 calm none deep
  performs_well n KeepOld [] p w is calm none deep plain = (w.objects, refl)
  performs_well n KeepOld (u ∷ vs) p w is calm none deep plain = on_well n KeepOld u (record p { values = vs })
      (with_values K fm n p vs w is.1) is.0 calm none deep
  performs_well n Ensured [] p w is calm none deep plain = (w.objects, refl)
  performs_well n Ensured (u ∷ vs) p w is calm none deep plain = on_well n Ensured u (record p { values = vs })
      (with_values K fm n p vs w is.1) is.0 calm none deep

  plain_well : (n : ℕ) (t : Task) (ts : List Task) (p : Point) → IsWell K fm n p → p.tasks ≡ t ∷ ts → is_leave t ≡ false
      → StepsWell K fm me.handler n (step_at s me (t ∷ ts) p)
  plain_well n t ts p w e plain =
      let phased : IsPhased (t ∷ ts) = subst IsPhased e w.tasks in
      let k : AreKept fm p.environment (t ∷ ts) = subst (AreKept fm p.environment) e w.formals in
      let rest : AreKept fm p.environment ts = kept_rest fm p.environment t ts plain k in
      performs_well n t p.values (record p { tasks = ts })
      (with_tasks K fm n n p ts w phased.2 (sym (plain_leaves t (leaves ts) plain) ∙ ap leaves (sym e) ∙ w.left) rest.deep rest.named rest.tidy)
      w.values phased.0 phased.1 (k.deep.0, k.tidy.0) plain

  step_at_well : (n : ℕ) (ts : List Task) (p : Point) → IsWell K fm n p → p.tasks ≡ ts → StepsWell K fm me.handler n (step_at s me ts p)
  step_at_well n [] p w e = (sym w.left ∙ ap leaves e, w)
  step_at_well n (Leave depth ∷ ts) p w e =
      let k : AreKept fm p.environment (Leave depth ∷ ts) = subst (AreKept fm p.environment) e w.formals in (
        leaves ts,
        sym w.left ∙ ap leaves e,
        record {
          objects = w.objects;
          environment = every_take (BindingKnown K) depth p.environment w.environment;
          result = w.result;
          olds = w.olds;
          values = w.values;
          tasks = (subst IsPhased e w.tasks).2;
          left = refl;
          formals = record {
            same = separate_take fm.count depth p.environment k.deep.0 k.rest ∙ k.same;
            room = room_take fm.count depth p.environment k.deep.0 k.room;
            rest = rest_take fm.count depth p.environment k.rest;
            deep = k.deep.1;
            named = λ i. k.named (suc i);
            tidy = k.tidy.1;
          };
        },
      )
  step_at_well n (t ∷ ts) p w e = plain_well n t ts p w e refl

  step_well : (n : ℕ) (p : Point) → IsWell K fm n p → StepsWell K fm me.handler n (step s me p)
  step_well n p w = step_at_well n p.tasks p w refl

  then_well : (n : ℕ) (st : Step) (go : Point → Step) → StepsWell K fm me.handler n st
      → ((p : Point) → IsWell K fm n p → StepsWell K fm me.handler n (go p)) → StepsWell K fm me.handler n (then_go st go)
  then_well n (Goes p) go is on = on p is
  then_well n (Does a p) go is on = is

  visible_well : (i n : ℕ) (p : Point) → IsWell K fm n p → StepsWell K fm me.handler n (first_visible i s me p)
  visible_well zero n p w = w
  visible_well (suc i) n p w = then_well n (step s me p) (first_visible i s me) (step_well n p w) (λ q is. visible_well i n q is)

  -- so does a turn's part of it
  pub moves_well : (n : ℕ) (p : Point) → IsWell K fm n p → StepsWell K fm me.handler n (moves s me p)
  moves_well n p w = visible_well (suc (size p.tasks)) n p w
