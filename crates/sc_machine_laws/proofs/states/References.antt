-- A step makes no reference but that of the object that it creates: each other value at the point after it was there before, or is
-- Current, and what was there stays there.
use Rattle.std.specs.List.{cons_option}
use Rattle.std.specs.Option.{option_map}
use Rattle.std.specs.Prelude.{◌==◌, if◌then◌else◌, length, map, nat_lt}
use Rattle.std.proofs.Common.{◌+◌, ◌++◌, Bool, List, None, Option, Some, [], false, refl, subst, suc, true, zero, ℕ, ◌∷◌, ◌≡◌}
use Rattle.sc_tree.specs.Plain as tree
use Rattle.sc_tree.specs.Plain.{Exprs, FeatureKind, Head, Instr, Instrs, Name, System, Variable, expr_then, instr_then, no_exprs, no_instrs}
use Rattle.sc_tree.specs.declared.expression.BinaryOperator.{BinaryOperator}
use Rattle.sc_tree.specs.Properties.{is_print}
use Rattle.sc_class.specs.Tables.Features.{DeclaredFeature, feature_named, features}
use Rattle.sc_class.specs.declared.identity.ClassId.{ClassId}
use Rattle.sc_class.specs.declared.identity.ClassId.TheVariants as class
use Rattle.sc_rules.specs.declared.entity_types.entity_type.EntityType.{EntityType}
use Rattle.sc_rules.specs.declared.entity_types.tag.Tag.{Tag}
use Rattle.sc_rules.specs.declared.entity_types.tag.Tag.TheVariants as tag
use Rattle.sc_rules.specs.CallRules.{count}
use Rattle.sc_rules.specs.Names.{assignee_type, attached, current, signature_of, test_type}
use Rattle.sc_rules.specs.Types.{declared_type}
use Rattle.sc_rules.specs.declared.position.Role.TheVariants as role
use Rattle.sc_model.specs.Calls.{calls_kind, calls_object, calls_on, calls_own, calls_qualified, calls_unqualified, calls_version, enters_unqualified, given_by, passes_rights, requests}
use Rattle.sc_model.specs.Creations.{assigned_at, creates, creates_as, creates_at, creates_here, creates_object}
use Rattle.sc_model.specs.Environments.{Binding, bind, locals_bound}
use Rattle.sc_model.specs.Expressions.{applies, decided_by}
use Rattle.sc_model.specs.Instructions.{actuals_of, begins, begins_routine, opens, procedure_of}
use Rattle.sc_model.specs.Invariants.{meets_invariant}
use Rattle.sc_model.specs.Limits.{max_objects}
use Rattle.sc_model.specs.Moves.{performs, step, step_at}
use Rattle.sc_model.specs.Objects.{Object, attributes_in, fresh_attribute, fresh_attributes, fresh_object, object_numbered}
use Rattle.sc_model.specs.Operators.{is_short}
use Rattle.sc_model.specs.Routines.{Text, place_in, version_of}
use Rattle.sc_model.specs.Steps as act
use Rattle.sc_model.specs.Steps.{Does, Point, fails, gives, popped}
use Rattle.sc_model.specs.Tasks.{ApplyBinary, ApplyUnary, AssignTo, Bind, CallQualified, CallUnqualified, Checked, Choose, Conclude, CreateBy, Declare, Do, EndLoop, Ensured, Eval, EvalRight, Forget, In, KeepOld, Leave, Open, Print, Repeat, Require, Required, Task, checks, evals, head_evals}
use Rattle.sc_model.specs.Values.{Attached, Boolean, Integer, Operand, Reference, Value, Void, default_of, operand}
use Rattle.sc_model.specs.declared.cause.Cause.TheVariants as cause
use Rattle.sc_machine_laws.specs.states.ValueSteps.{BindingsDo, OperandsDo}
use Rattle.sc_machine_laws.proofs.states.Fresh.{among_more, last_there}
use Rattle.sc_machine_laws.proofs.states.Lists.{each_append}
use Rattle.sc_machine_laws.proofs.states.OperatorReferences.{HoldsOfOwn, OwnDo, Stays, StepStays, binary_stays, come, conclude_stays, default_does, fell, object_there, read_attribute, right_stays, same, unary_stays}
use Rattle.sc_machine_laws.proofs.states.NameReferences.{assign_stays, block_do, choose_stays, evaluate_stays, forget_stays, locals_do, loop_stays, print_stays, required_stays, test_stays, tests_stay, with_names}

module _ (P : Value → Type 0) (me : Reference) (own : HoldsOfOwn P me) (objects : List Object) where
  -- ---- calls

  -- what is popped does, and what lies under it
  abbrev PoppedDo : Option (List Operand × List Operand) → Type 0
  PoppedDo None = Unit {0}
  PoppedDo (Some (us, vs)) = OperandsDo P us × OperandsDo P vs

  popped_do : (n : ℕ) (us vs : List Operand) → OperandsDo P us → OperandsDo P vs → (o : Option (List Operand × List Operand)) → popped n us vs ≡ o → PoppedDo o
  popped_do n us vs f g o e = subst PoppedDo e (by n us vs f g)
    where
      by : (n : ℕ) (us vs : List Operand) → OperandsDo P us → OperandsDo P vs → PoppedDo (popped n us vs)
      by zero us vs f g = (f, g)
      by (suc n) us [] f g = tt
      by (suc n) us (v ∷ vs) f g = by n (v ∷ us) vs (g.0, f) g.1

  own_call_stays : (p : Point) (h : Stays P objects p) (s : System) (x : List ℕ) (o : Option (List Operand × List Operand)) → PoppedDo o →
      StepStays P me own objects (calls_unqualified s me x o p)
  own_call_stays p h s x None f = fell P me own objects p h
  own_call_stays p h s x (Some (us, vs)) f = of_feature (feature_named s (class.Declared p.text.class) x)
    where
      of_given : (g : Option (Option EntityType)) → StepStays P me own objects (enters_unqualified me x us g (record p { values = vs }))
      of_given None = fell P me own objects p h
      of_given (Some t) = λ own'. (same P me own objects p h p.tasks vs f.1, f.0)

      of_feature : (f : Option DeclaredFeature) → StepStays P me own objects (calls_own s me x f us (record p { values = vs }))
      of_feature None = fell P me own objects p h
      of_feature (Some f) = of_given (given_by (signature_of s (current (place_in s p.text)) f).gives)

  requests_stay : (p : Point) (h : Stays P objects p) (o : Reference) (g : Tag) (x : List ℕ) (us : List Operand) (t : Option EntityType) (b : Bool) → OperandsDo P us → P (Attached o) →
      StepStays P me own objects (requests o g x us t b p)
  requests_stay p h o tag.Own x us t b f z = fell P me own objects p h
  requests_stay p h o (tag.With y) x us t b f z = λ own. (h, f, z)
  requests_stay p h o tag.Any x us t b f z = λ own. (h, f, z)
  requests_stay p h o tag.None x us t b f z = λ own. (h, f, z)

  on_value_stays : (p : Point) (h : Stays P objects p) (s : System) (x : List ℕ) (v : Value) (t : EntityType) (f : Option DeclaredFeature) (us : List Operand) → OperandsDo P us → P v →
      StepStays P me own objects (calls_on s me x v t f us p)
  on_value_stays p h s x Void t f us g w = fell P me own objects p h
  on_value_stays p h s x (Integer z) t f us g w = fell P me own objects p h
  on_value_stays p h s x (Boolean b) t f us g w = fell P me own objects p h
  on_value_stays p h s x (Attached o) t None us g w = fell P me own objects p h
  on_value_stays p h s x (Attached o) t (Some f) us g w = of_given (given_by (signature_of s t f).gives)
    where
      of_kind : (gives : Option EntityType) (y : Object) (k : FeatureKind) → BindingsDo P y.attributes → StepStays P me own objects (calls_kind o x us gives y k p)
      of_kind (Some u) y (tree.Attribute d) f = read_attribute P me own objects p h y.attributes x u f
      of_kind None y (tree.Attribute d) f = fell P me own objects p h
      of_kind (Some u) y (tree.Routine c) f = λ own. (h, g)
      of_kind None y (tree.Routine c) f = λ own. (h, g)

      of_version : (gives : Option EntityType) (y : Option Object) (z : Option DeclaredFeature) → BindingsDo P (attributes_in y) →
          StepStays P me own objects (calls_version o x us gives y z p)
      of_version gives None z f = fell P me own objects p h
      of_version gives (Some y) None f = fell P me own objects p h
      of_version gives (Some y) (Some z) f = of_kind gives y z.feature.kind f

      by : (gives : Option EntityType) (b : Bool) →
          StepStays P me own objects (if b then calls_version o x us gives (object_numbered o.number p.objects) (version_of s o.class x) p else requests o t.tag x us gives (passes_rights (signature_of s t f).formals us) p)
      by gives true = of_version gives (object_numbered o.number p.objects) (version_of s o.class x) (object_there P me own objects p h o.number)
      by gives false = requests_stay p h o t.tag x us gives (passes_rights (signature_of s t f).formals us) g w

      of_given : (g : Option (Option EntityType)) → StepStays P me own objects (calls_object s me o t x us (signature_of s t f) g p)
      of_given None = fell P me own objects p h
      of_given (Some gives) = by gives (o.handler == me.handler)

  far_call_stays : (p : Point) (h : Stays P objects p) (s : System) (x : List ℕ) (o : Option (List Operand × List Operand)) → PoppedDo o →
      StepStays P me own objects (calls_qualified s me x o p)
  far_call_stays p h s x None f = fell P me own objects p h
  far_call_stays p h s x (Some (us, [])) f = fell P me own objects p h
  far_call_stays p h s x (Some (us, v ∷ vs)) f =
      on_value_stays (record p { values = vs }) (same P me own objects p h p.tasks vs f.1.1) s x v.value v.type (feature_named s v.type.class x) us f.0 f.1.0

  -- ---- creations and blocks

  fresh_do : (s : System) (fs : List DeclaredFeature) → BindingsDo P (fresh_attributes s fs)
  fresh_do s [] = tt
  fresh_do s (f ∷ fs) = by f.feature.name.text f.feature.kind (fresh_do s fs)
    where
      of_type : (y : List ℕ) (o : Option EntityType) (bs : List Binding) → BindingsDo P bs → BindingsDo P (cons_option (option_map (λ (t : EntityType). bind y t role.Local (default_of t.class)) o) bs)
      of_type y None bs e = e
      of_type y (Some t) bs e = (default_does P me own objects t.class, e)

      by : (y : List ℕ) (k : FeatureKind) → BindingsDo P (fresh_attributes s fs) → BindingsDo P (cons_option (fresh_attribute s y k) (fresh_attributes s fs))
      by y (tree.Attribute d) e = of_type y (declared_type s [] d) (fresh_attributes s fs) e
      by y (tree.Routine c) e = e

  -- a new object stands after the others
  with_fresh : (s : System) (k : ℕ) (p : Point) → Stays P objects p → Stays P objects (record p { objects = p.objects ++ fresh_object s k ∷ [] })
  with_fresh s k p h = record {
    values = record {
      objects_do = each_append (λ (o : Object). BindingsDo P o.attributes) p.objects (fresh_object s k ∷ []) h.values.objects_do (fresh_do s (features s k), tt);
      names_do = h.values.names_do;
      result_does = h.values.result_does;
      olds_do = h.values.olds_do;
      values_do = h.values.values_do;
    };
    there = λ o z. among_more p.objects (fresh_object s k) o (h.there o z);
  }

  create_stays : (p : Point) (h : Stays P objects p) (s : System) (v : Variable) (call : Option (List ℕ)) (o : Option (List Operand × List Operand)) → PoppedDo o →
      StepStays P me own objects (creates s me v call o p)
  create_stays p h s v call None f = fell P me own objects p h
  create_stays p h s v call (Some (us, vs)) f = of_type (assignee_type (assigned_at s v p))
    where
      q_stays : Stays P objects (record p { tasks = AssignTo v ∷ p.tasks; values = vs })
      q_stays = same P me own objects p h (AssignTo v ∷ p.tasks) vs f.1

      -- the new object, and what takes its reference
      after : (k : ℕ) → Stays P objects (record p { objects = p.objects ++ fresh_object s k ∷ []; tasks = AssignTo v ∷ p.tasks; values = vs })
      after k = with_fresh s k (record p { tasks = AssignTo v ∷ p.tasks; values = vs }) q_stays

      given : (k : ℕ) (t : EntityType) → OwnDo P me own objects (p.objects ++ fresh_object s k ∷ []) →
          Stays P objects (record p {
            objects = p.objects ++ fresh_object s k ∷ [];
            tasks = AssignTo v ∷ p.tasks;
            values = operand (Attached (record { handler = me.handler; number = length p.objects + 1; class = k })) (attached t) ∷ vs;
          })
      given k t made = same P me own objects (record p { objects = p.objects ++ fresh_object s k ∷ []; tasks = AssignTo v ∷ p.tasks; values = vs }) (after k) (AssignTo v ∷ p.tasks)
          (operand (Attached (record { handler = me.handler; number = length p.objects + 1; class = k })) (attached t) ∷ vs)
          (made (record { handler = me.handler; number = length p.objects + 1; class = k }) refl (record { object = fresh_object s k; is_there = last_there p.objects (fresh_object s k); of_class = refl }), f.1)

      made : (call : Option (List ℕ)) (k : ℕ) (t : EntityType) →
          StepStays P me own objects (creates_object s (record { handler = me.handler; number = length p.objects + 1; class = k }) t call us
          (record p { objects = p.objects ++ fresh_object s k ∷ []; tasks = AssignTo v ∷ p.tasks; values = vs }))
      made (Some x) k t = λ own. (given k t own, f.0)
      made None k t = by (meets_invariant s (fresh_object s k))
        where
          by : (b : Bool) → StepStays P me own objects (if b then Does act.Creates (record p {
            objects = p.objects ++ fresh_object s k ∷ [];
            tasks = AssignTo v ∷ p.tasks;
            values = operand (Attached (record { handler = me.handler; number = length p.objects + 1; class = k })) (attached t) ∷ vs;
          }) else fails cause.Invariant (record p { objects = p.objects ++ fresh_object s k ∷ []; tasks = AssignTo v ∷ p.tasks; values = vs }))
          by true = given k t
          by false = fell P me own objects (record p { objects = p.objects ++ fresh_object s k ∷ []; tasks = AssignTo v ∷ p.tasks; values = vs }) (after k)

      here : (k : ℕ) (t : EntityType) → StepStays P me own objects (creates_here s me k t call us (record p { tasks = AssignTo v ∷ p.tasks; values = vs }))
      here k t = by (nat_lt (length p.objects) max_objects)
        where
          by : (b : Bool) → StepStays P me own objects (if b then creates_object s (record { handler = me.handler; number = length p.objects + 1; class = k }) t call us
              (record p { objects = p.objects ++ fresh_object s k ∷ []; tasks = AssignTo v ∷ p.tasks; values = vs }) else fails cause.TooManyObjects (record p { tasks = AssignTo v ∷ p.tasks; values = vs }))
          by true = made call k t
          by false = fell P me own objects p h

      at_tag : (t : EntityType) (g : Tag) (c : ClassId) → StepStays P me own objects (creates_at s me call t g c us (record p { tasks = AssignTo v ∷ p.tasks; values = vs }))
      at_tag t tag.Own (class.Declared k) = here k t
      at_tag t tag.Any (class.Declared k) = λ own. (q_stays, f.0)
      at_tag t (tag.With y) (class.Declared k) = fell P me own objects p h
      at_tag t tag.None (class.Declared k) = fell P me own objects p h
      at_tag t tag.Own class.Integer = fell P me own objects p h
      at_tag t tag.Own class.Boolean = fell P me own objects p h
      at_tag t tag.Own class.Any = fell P me own objects p h
      at_tag t tag.Own class.None = fell P me own objects p h
      at_tag t tag.Any class.Integer = fell P me own objects p h
      at_tag t tag.Any class.Boolean = fell P me own objects p h
      at_tag t tag.Any class.Any = fell P me own objects p h
      at_tag t tag.Any class.None = fell P me own objects p h
      at_tag t (tag.With y) class.Integer = fell P me own objects p h
      at_tag t (tag.With y) class.Boolean = fell P me own objects p h
      at_tag t (tag.With y) class.Any = fell P me own objects p h
      at_tag t (tag.With y) class.None = fell P me own objects p h
      at_tag t tag.None class.Integer = fell P me own objects p h
      at_tag t tag.None class.Boolean = fell P me own objects p h
      at_tag t tag.None class.Any = fell P me own objects p h
      at_tag t tag.None class.None = fell P me own objects p h

      of_type : (o : Option EntityType) → StepStays P me own objects (creates_as s me call o us (record p { tasks = AssignTo v ∷ p.tasks; values = vs }))
      of_type None = fell P me own objects p h
      of_type (Some t) = at_tag t t.tag t.class

  open_stays : (p : Point) (h : Stays P objects p) (xs : List Name) (body : Instrs) (o : Option (List Operand × List Operand)) → PoppedDo o →
      StepStays P me own objects (opens xs body o p)
  open_stays p h xs body None f = fell P me own objects p h
  open_stays p h xs body (Some (us, vs)) f = λ own'. record {
    values = record {
      objects_do = h.values.objects_do;
      names_do = block_do P me own objects p h xs us p.environment f.0 h.values.names_do;
      result_does = h.values.result_does;
      olds_do = h.values.olds_do;
      values_do = f.1;
    };
    there = h.there;
  }

  -- ---- instructions

  begin_stays : (p : Point) (h : Stays P objects p) (i : Instr) → StepStays P me own objects (begins i p)
  begin_stays p h (tree.Assign q x e) = come P me own objects p h (Eval 0 e ∷ AssignTo x ∷ [])
  begin_stays p h (tree.PrintText q text) = λ own. h
  begin_stays p h (tree.CallRoutine q tree.no_target x es) = by (is_print x.text) es
    where
      by : (b : Bool) (es : Exprs) → StepStays P me own objects (begins_routine b x.text es p)
      by true no_exprs = fell P me own objects p h
      by true (expr_then e no_exprs) = come P me own objects p h (Eval 0 e ∷ Print ∷ [])
      by true (expr_then e (expr_then e' es)) = fell P me own objects p h
      by false es = come P me own objects p h (evals 0 es ++ CallUnqualified x.text (count es) ∷ [])
  begin_stays p h (tree.CallRoutine q (tree.target a) x es) = come P me own objects p h (Eval 0 a ∷ evals 0 es ++ CallQualified x.text (count es) ∷ [])
  begin_stays p h (tree.Create q c) = come P me own objects p h (evals 0 (actuals_of c.call) ++ CreateBy c.variable (procedure_of c.call) (count (actuals_of c.call)) ∷ [])
  begin_stays p h (tree.If q e body bs other) = come P me own objects p h (Eval 0 e ∷ Choose (length p.environment) body bs other ∷ [])
  begin_stays p h (tree.Loop q initial e body) = come P me own objects p h (Do initial ∷ Repeat e body ∷ [])
  begin_stays p h (tree.Check q ks) = come P me own objects p h (checks ks)
  begin_stays p h (tree.Block q ds body) = come P me own objects p h (head_evals ds ++ Open (map (λ (d : Head). d.name) ds) body ∷ [])

  -- ---- tasks

  module _ (s : System) (p : Point) (h : Stays P objects p) where
    -- the point with these tasks and values
    after_task : (k : List Task) (us : List Operand) → OperandsDo P us → Stays P objects (record p { tasks = k; values = us })
    after_task k us f = same P me own objects p h k us f

    applied_stays : (k : List Task) (op : BinaryOperator) (v : Value) (us : List Operand) → OperandsDo P us →
        StepStays P me own objects (applies op v us (record p { tasks = k; values = us }))
    applied_stays k op v [] f = fell P me own objects p h
    applied_stays k op v (u ∷ us) f = binary_stays P me own objects (record p { tasks = k; values = us }) (after_task k us f.1) op u.value v

    kept_stays : (k : List Task) (u : Operand) (us : List Operand) → P u.value → OperandsDo P us → Stays P objects (record p { olds = p.olds ++ u ∷ []; tasks = k; values = us })
    kept_stays k u us f g = record {
      values = record {
        objects_do = h.values.objects_do;
        names_do = h.values.names_do;
        result_does = h.values.result_does;
        olds_do = each_append (λ (u : Operand). P u.value) p.olds (u ∷ []) h.values.olds_do (f, tt);
        values_do = g;
      };
      there = h.there;
    }

    moved_text : (k : List Task) (t : Text) (us : List Operand) → OperandsDo P us → Stays P objects (record p { text = t; tasks = k; values = us })
    moved_text k t us f = record {
      values = record { objects_do = h.values.objects_do; names_do = h.values.names_do; result_does = h.values.result_does; olds_do = h.values.olds_do; values_do = f };
      there = h.there;
    }

    task_stays : (k : List Task) (task : Task) (vs : List Operand) → OperandsDo P vs → StepStays P me own objects (performs s me task vs (record p { tasks = k; values = vs }))
    task_stays k (Do no_instrs) vs f = after_task k vs f
    task_stays k (Do (instr_then i is)) vs f = begin_stays (record p { tasks = Do is ∷ k; values = vs }) (after_task (Do is ∷ k) vs f) i
    task_stays k (In t) vs f = moved_text k t vs f
    task_stays k (Declare ds) vs f = with_names P me own objects (record p { tasks = k; values = vs }) (after_task k vs f) (p.environment ++ locals_bound s p.text.formals ds) vs
        (each_append (λ (b : Binding). P b.value) p.environment (locals_bound s p.text.formals ds) h.values.names_do (locals_do P me own objects p h s p.text.formals ds)) f
    task_stays k (Forget depth) vs f = forget_stays P me own objects (record p { tasks = k; values = vs }) (after_task k vs f) depth
    task_stays k (Eval i e) vs f = evaluate_stays P me own objects (record p { tasks = k; values = vs }) (after_task k vs f) s i e
    task_stays k (CallUnqualified x n) vs f = own_call_stays (record p { tasks = k; values = vs }) (after_task k vs f) s x (popped n [] vs) (popped_do n [] vs tt f (popped n [] vs) refl)
    task_stays k (CallQualified x n) vs f = far_call_stays (record p { tasks = k; values = vs }) (after_task k vs f) s x (popped n [] vs) (popped_do n [] vs tt f (popped n [] vs) refl)
    task_stays k (Repeat e body) vs f = after_task (Eval 0 e ∷ EndLoop e body ∷ k) vs f
    task_stays k (Require []) vs f = λ own'. after_task k vs f
    task_stays k (Require (c ∷ cs)) vs f = after_task (Eval 0 c.condition ∷ Required c ∷ Require cs ∷ k) vs f
    task_stays k (CreateBy x c n) vs f = create_stays (record p { tasks = k; values = vs }) (after_task k vs f) s x c (popped n [] vs) (popped_do n [] vs tt f (popped n [] vs) refl)
    task_stays k (Open xs body) vs f = open_stays (record p { tasks = k; values = vs }) (after_task k vs f) xs body (popped (length xs) [] vs) (popped_do (length xs) [] vs tt f (popped (length xs) [] vs) refl)
    task_stays k (Leave depth) vs f = λ own'. forget_stays P me own objects (record p { tasks = k; values = vs }) (after_task k vs f) depth
    task_stays k (ApplyUnary op) [] f = fell P me own objects p h
    task_stays k (ApplyUnary op) (u ∷ us) f = unary_stays P me own objects (record p { tasks = k; values = us }) (after_task k us f.1) op u.value
    task_stays k (EvalRight op i e) [] f = fell P me own objects p h
    task_stays k (EvalRight op i e) (u ∷ us) f = right_stays P me own objects (record p { tasks = k; values = us }) (after_task k us f.1) (decided_by op u.value) (is_short op) op i e u f.0
    task_stays k (ApplyBinary op) [] f = fell P me own objects p h
    task_stays k (ApplyBinary op) (u ∷ us) f = applied_stays k op u.value us f.1
    task_stays k (Conclude) [] f = fell P me own objects p h
    task_stays k (Conclude) (u ∷ us) f = conclude_stays P me own objects (record p { tasks = k; values = us }) (after_task k us f.1) u.value
    task_stays k (Bind d x) [] f = fell P me own objects p h
    task_stays k (Bind d x) (u ∷ us) f = test_stays P me own objects (record p { tasks = k; values = us }) (after_task k us f.1) s d x u.value (test_type (place_in s p.text) d (Some u.type)) f.0
    task_stays k (AssignTo x) [] f = fell P me own objects p h
    task_stays k (AssignTo x) (u ∷ us) f =
        assign_stays P me own objects (record p { tasks = k; values = us }) (after_task k us f.1) x (assigned_at s x (record p { tasks = k; values = us })) u.value f.0
    task_stays k (Print) [] f = fell P me own objects p h
    task_stays k (Print) (u ∷ us) f = print_stays P me own objects (record p { tasks = k; values = us }) (after_task k us f.1) u.value
    task_stays k (Choose depth body bs other) [] f = fell P me own objects p h
    task_stays k (Choose depth body bs other) (u ∷ us) f = choose_stays P me own objects (record p { tasks = k; values = us }) (after_task k us f.1) depth u.value body bs other
    task_stays k (EndLoop e body) [] f = fell P me own objects p h
    task_stays k (EndLoop e body) (u ∷ us) f = loop_stays P me own objects (record p { tasks = k; values = us }) (after_task k us f.1) u.value e body
    task_stays k (Checked) [] f = fell P me own objects p h
    task_stays k (Checked) (u ∷ us) f = tests_stay P me own objects (record p { tasks = k; values = us }) (after_task k us f.1) cause.Check u.value
    task_stays k (Required c) [] f = fell P me own objects p h
    task_stays k (Required c) (u ∷ us) f = required_stays P me own objects (record p { tasks = k; values = us }) (after_task k us f.1) c u.value
    task_stays k (KeepOld) [] f = fell P me own objects p h
    task_stays k (KeepOld) (u ∷ us) f = kept_stays k u us f.0 f.1
    task_stays k (Ensured) [] f = fell P me own objects p h
    task_stays k (Ensured) (u ∷ us) f = tests_stay P me own objects (record p { tasks = k; values = us }) (after_task k us f.1) cause.Postcondition u.value

  -- A step keeps each value.
  pub step_stays : (s : System) (p : Point) → Stays P objects p → StepStays P me own objects (step s me p)
  step_stays s p h = by p.tasks
    where
      by : (k : List Task) → StepStays P me own objects (step_at s me k p)
      by [] = λ own. h
      by (task ∷ k) = task_stays s p h k task p.values h.values.values_do
