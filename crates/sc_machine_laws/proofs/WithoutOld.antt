-- Tasks without `old` leave such tasks.
use Rattle.std.proofs.Common.{arith, ◌≡◌, ◌+◌, ℕ, List, [], ◌∷◌, Option, Some, None, Bool, true, false, refl, subst, sym}
use Rattle.std.specs.Prelude.{map, length}
use Rattle.sc_tree.specs.declared.expression.UnaryOperator.TheVariants as unary
use Rattle.sc_tree.specs.Plain as tree
use Rattle.sc_tree.specs.Plain.{System, FeatureKind, CreationCall, Head, Name, Variable, Named, ResultVariable, Exprs, no_exprs, expr_then, Instr, Instrs, no_instrs, instr_then, Branches, no_branches, branch_then}
use Rattle.sc_tree.specs.Properties.{is_print}
use Rattle.sc_class.specs.declared.identity.ClassId.TheVariants as class
use Rattle.sc_class.specs.Tables.Features.{DeclaredFeature, feature_named}
use Rattle.sc_rules.specs.declared.entity_types.entity_type.EntityType.{EntityType}
use Rattle.sc_rules.specs.CallRules.{count}
use Rattle.sc_rules.specs.Names.{Assignee, to_local, to_attribute, current, given_type, test_type}
use Rattle.sc_model.specs.declared.cause.Cause.{Cause}
use Rattle.sc_model.specs.declared.cause.Cause.TheVariants as cause
use Rattle.sc_model.specs.Values.{Reference, Value, Integer, Boolean, Void, Attached, Operand}
use Rattle.sc_model.specs.Environments.{Binding, binding_named}
use Rattle.sc_model.specs.Objects.{attributes_of}
use Rattle.sc_model.specs.Operators.{is_short}
use Rattle.sc_model.specs.Routines.{place_in}
use Rattle.sc_model.specs.Olds.{olds_in, olds_of, olds_of_each}
use Rattle.sc_model.specs.Tasks.{Task, Do, In, Declare, Forget, Eval, ApplyUnary, EvalRight, ApplyBinary, Conclude, Bind, CallUnqualified, CallQualified, AssignTo, Print, Choose, Repeat, EndLoop, Checked, Require, Required, KeepOld, Ensured, CreateBy, Open, Leave, evals, head_evals, checks}
use Rattle.sc_model.specs.Steps.{Point, Step, popped, forgets}
use Rattle.sc_model.specs.Creations.{assigned_at}
use Rattle.sc_model.specs.Expressions.{decided_by, reads_result, reads_own, begins_kind, begins_feature, begins_name, evaluate}
use Rattle.sc_model.specs.Instructions.{assigns, prints, chooses_other, chooses, ends_loop, tests, opens, actuals_of, procedure_of, begins_routine, begins}
use Rattle.sc_model.specs.Moves.{performs, step_at}
use Rattle.sc_machine_laws.specs.ClauseLaws.{StepKeepsNoOld, point_after}
use Rattle.sc_machine_laws.specs.states.Points.{Each}
use Rattle.sc_machine_laws.proofs.states.Lists.{each_append}
use Rattle.sc_machine_laws.specs.Texts.{HasNoOld, HaveNoOld, CallHasNoOld, InstrHasNoOld, InstrsHaveNoOld, BranchesHaveNoOld, TaskHasNoOld}
use Rattle.sc_machine_laws.proofs.CallsWithoutOld.{applies_l, attribute_l, behind_these, binds_l, checks_without_old, concludes_l, creates_l, evals_without_old, heads_without_old, left_none, qualified_l, reads_as_l, right_l, right_none, unary_l, unqualified_l}

module _ (s : System) (me : Reference) where
  abbrev Left : Point → Type 0
  Left p = Each TaskHasNoOld p.tasks

  abbrev Leaves : Step → Type 0
  Leaves st = Each TaskHasNoOld (point_after st).tasks

  -- ---- expressions

  result_l : (u : Option Operand) (t : Option (Option EntityType)) (p : Point) → Left p → Leaves (reads_result u t p)
  result_l (Some u) (Some (Some t)) p l = reads_as_l s me u.type u.value t p l
  result_l u t p l = tt

  reads_own_l : (t : Option EntityType) (b : Option Binding) (p : Point) → Left p → Leaves (reads_own t b p)
  reads_own_l None b p l = tt
  reads_own_l (Some t) b p l = attribute_l s me b t p l

  begins_kind_l : (x : List ℕ) (k : FeatureKind) (i : ℕ) (es : Exprs) (p : Point) → HaveNoOld es → Left p →
      Leaves (begins_kind s me x k i es p)
  begins_kind_l x (tree.Attribute d) i es p o l = reads_own_l (given_type s (current (place_in s p.text)) d)
      (binding_named x (attributes_of me.number p.objects)) p l
  begins_kind_l x (tree.Routine r) i es p o l = behind_these (evals i es) (CallUnqualified x (count es)) p.tasks
      (evals_without_old i es o) tt l

  begins_feature_l : (x : List ℕ) (f : Option DeclaredFeature) (i : ℕ) (es : Exprs) (p : Point) → HaveNoOld es →
      Left p → Leaves (begins_feature s me x f i es p)
  begins_feature_l x None i es p o l = tt
  begins_feature_l x (Some f) i es p o l = begins_kind_l x f.feature.kind i es p o l

  begins_name_l : (x : List ℕ) (b : Option Binding) (i : ℕ) (es : Exprs) (p : Point) → HaveNoOld es → Left p →
      Leaves (begins_name s me x b i es p)
  begins_name_l x (Some b) i es p o l = reads_as_l s me b.type b.value b.type p l
  begins_name_l x None i es p o l = begins_feature_l x (feature_named s (class.Declared p.text.class) x) i es p o l

  evaluate_l : (i : ℕ) (e : tree.Expr) (p : Point) → HasNoOld e → Left p → Leaves (evaluate s me i e p)
  evaluate_l i (tree.Integer q z) p o l = l
  evaluate_l i (tree.Boolean q b) p o l = l
  evaluate_l i (tree.Void q) p o l = l
  evaluate_l i (tree.Current q) p o l = l
  evaluate_l i (tree.Result q) p o l = result_l p.result p.text.result p l
  evaluate_l i (tree.Call q tree.no_target x es) p o l = begins_name_l x.text
      (binding_named x.text p.environment) i es p o l
  evaluate_l i (tree.Call q (tree.target a) x es) p o l = (
    left_none (olds_of a) (olds_of_each es) o,
    behind_these (evals (i + olds_in a) es) (CallQualified x.text (count es)) p.tasks
        (evals_without_old (i + olds_in a) es (right_none (olds_of a) (olds_of_each es) o)) tt l,
  )
  evaluate_l i (tree.Unary q unary.Old a) p o l = absurd (omega (arith, o))
  evaluate_l i (tree.Unary q unary.Not a) p o l = (o, (tt, l))
  evaluate_l i (tree.Unary q unary.Plus a) p o l = (o, (tt, l))
  evaluate_l i (tree.Unary q unary.Minus a) p o l = (o, (tt, l))
  evaluate_l i (tree.Binary q op a b) p o l =
      (left_none (olds_of a) (olds_of b) o, (right_none (olds_of a) (olds_of b) o, l))
  evaluate_l i (tree.ObjectTest q d a x) p o l = (o, (tt, l))

  -- ---- instructions

  assigns_l : (x : Variable) (a : Assignee) (v : Value) (p : Point) → Left p → Leaves (assigns me x a v p)
  assigns_l (Named x) (to_local t) v p l = l
  assigns_l (Named x) (to_attribute t) v p l = l
  assigns_l (ResultVariable q) (to_local (Some t)) v p l = l
  assigns_l x a v p l = tt

  prints_l : (v : Value) (p : Point) → Left p → Leaves (prints v p)
  prints_l (Integer z) p l = l
  prints_l (Boolean b) p l = l
  prints_l Void p l = tt
  prints_l (Attached r) p l = tt

  other_l : (depth : ℕ) (bs : Branches) (other : Instrs) (p : Point) → BranchesHaveNoOld bs → InstrsHaveNoOld other →
      Left p → Leaves (chooses_other depth bs other p)
  other_l depth no_branches other p o a l = (a, l)
  other_l depth (branch_then e body bs) other p o a l = (o.0, ((o.1.0, (o.1.1, a)), l))

  chooses_l : (depth : ℕ) (v : Value) (body : Instrs) (bs : Branches) (other : Instrs) (p : Point) →
      InstrsHaveNoOld body → BranchesHaveNoOld bs → InstrsHaveNoOld other →
      Left p → Leaves (chooses depth v body bs other p)
  chooses_l depth (Boolean true) body bs other p o a b l = (o, (tt, l))
  chooses_l depth (Boolean false) body bs other p o a b l = other_l depth bs other (forgets depth p) a b l
  chooses_l depth v body bs other p o a b l = tt

  ends_loop_l : (v : Value) (e : tree.Expr) (body : Instrs) (p : Point) → HasNoOld e → InstrsHaveNoOld body → Left p →
      Leaves (ends_loop v e body p)
  ends_loop_l (Boolean true) e body p o a l = l
  ends_loop_l (Boolean false) e body p o a l = (a, ((o, a), l))
  ends_loop_l v e body p o a l = tt

  tests_l : (why : Cause) (v : Value) (p : Point) → Left p → Leaves (tests why v p)
  tests_l why (Boolean true) p l = l
  tests_l why (Boolean false) p l = tt
  tests_l why v p l = tt

  opens_l : (xs : List Name) (body : Instrs) (us : Option (List Operand × List Operand)) (p : Point) →
      InstrsHaveNoOld body → Left p → Leaves (opens xs body us p)
  opens_l xs body None p o l = tt
  opens_l xs body (Some (us, vs)) p o l = (o, (tt, l))

  routine_l : (b : Bool) (x : List ℕ) (es : Exprs) (p : Point) → HaveNoOld es → Left p →
      Leaves (begins_routine b x es p)
  routine_l true x no_exprs p o l = tt
  routine_l true x (expr_then e no_exprs) p o l = (left_none (olds_of e) [] o, (tt, l))
  routine_l true x (expr_then e (expr_then d es)) p o l = tt
  routine_l false x es p o l = behind_these (evals 0 es) (CallUnqualified x (count es)) p.tasks
      (evals_without_old 0 es o) tt l

  called : (c : Option CreationCall) → CallHasNoOld c → HaveNoOld (actuals_of c)
  called None o = refl
  called (Some k) o = o

  begins_l : (i : Instr) (p : Point) → InstrHasNoOld i → Left p → Leaves (begins i p)
  begins_l (tree.Assign q x e) p o l = (o, (tt, l))
  begins_l (tree.PrintText q text) p o l = l
  begins_l (tree.CallRoutine q tree.no_target x es) p o l = routine_l (is_print x.text) x.text es p o l
  begins_l (tree.CallRoutine q (tree.target a) x es) p o l =
      (o.0, behind_these (evals 0 es) (CallQualified x.text (count es)) p.tasks (evals_without_old 0 es o.1) tt l)
  begins_l (tree.Create q c) p o l =
      behind_these (evals 0 (actuals_of c.call))
      (CreateBy c.variable (procedure_of c.call) (count (actuals_of c.call))) p.tasks
      (evals_without_old 0 (actuals_of c.call) (called c.call o)) tt l
  begins_l (tree.If q e body bs other) p o l = (o.0, ((o.1.0, (o.1.1.0, o.1.1.1)), l))
  begins_l (tree.Loop q initial e body) p o l = (o.0, ((o.1.0, o.1.1), l))
  begins_l (tree.Check q ks) p o l = each_append TaskHasNoOld (checks ks) p.tasks (checks_without_old ks o) l
  begins_l (tree.Block q ds body) p o l =
      behind_these (head_evals ds) (Open (map (λ (d : Head). d.name) ds) body) p.tasks (heads_without_old ds o.0) o.1 l

  -- ---- tasks

  -- one task, where p.tasks is what is left after it
  performs_l : (t : Task) (vs : List Operand) (p : Point) → TaskHasNoOld t → Left p → Leaves (performs s me t vs p)
  performs_l (Do no_instrs) vs p o l = l
  performs_l (Do (instr_then i is)) vs p o l = begins_l i (record p { tasks = Do is ∷ p.tasks }) o.0 (o.1, l)
  performs_l (In text) vs p o l = l
  performs_l (Declare locals) vs p o l = l
  performs_l (Forget depth) vs p o l = l
  performs_l (Eval i a) vs p o l = evaluate_l i a p o l
  performs_l (CallUnqualified x n) vs p o l = unqualified_l s me x (popped n [] vs) p l
  performs_l (CallQualified x n) vs p o l = qualified_l s me x (popped n [] vs) p l
  performs_l (Repeat until body) vs p o l = (o.0, ((o.0, o.1), l))
  performs_l (Require ks) vs p o l = absurd o
  performs_l (CreateBy x k n) vs p o l = creates_l s me x k (popped n [] vs) p l
  performs_l (Open xs body) vs p o l = opens_l xs body (popped (length xs) [] vs) p o l
  performs_l (Leave depth) vs p o l = l
  performs_l (Required k) vs p o l = absurd o
  performs_l KeepOld vs p o l = absurd o
  performs_l Ensured vs p o l = absurd o
  performs_l (ApplyUnary op) (u ∷ vs) p o l = unary_l s me op u.value (record p { values = vs }) l
  performs_l (EvalRight op i right) (u ∷ vs) p o l = right_l s me (decided_by op u.value) (is_short op) op i right u
      (record p { values = vs }) o l
  performs_l (ApplyBinary op) (u ∷ vs) p o l = applies_l s me op u.value vs (record p { values = vs }) l
  performs_l Conclude (u ∷ vs) p o l = concludes_l s me u.value (record p { values = vs }) l
  performs_l (Bind d x) (u ∷ vs) p o l = binds_l s me d x u.value (test_type (place_in s p.text) d (Some u.type))
      (record p { values = vs }) l
  performs_l (AssignTo x) (u ∷ vs) p o l = assigns_l x (assigned_at s x p) u.value (record p { values = vs }) l
  performs_l Print (u ∷ vs) p o l = prints_l u.value (record p { values = vs }) l
  performs_l (Choose depth body bs other) (u ∷ vs) p o l = chooses_l depth u.value body bs other
      (record p { values = vs }) o.0 o.1.0 o.1.1 l
  performs_l (EndLoop until body) (u ∷ vs) p o l = ends_loop_l u.value until body (record p { values = vs }) o.0 o.1 l
  performs_l Checked (u ∷ vs) p o l = tests_l cause.Check u.value (record p { values = vs }) l
  performs_l t [] p o l = tt

  step_at_l : (ts : List Task) (p : Point) → p.tasks ≡ ts → Each TaskHasNoOld ts → Leaves (step_at s me ts p)
  step_at_l [] p e o = subst (Each TaskHasNoOld) (sym e) tt
  step_at_l (t ∷ ts) p e o = performs_l t p.values (record p { tasks = ts }) o.0 o.1

pub step_keeps_no_old : StepKeepsNoOld
step_keeps_no_old s me p o = step_at_l s me p.tasks p refl o
