-- A step of a task without `old` is the same whatever stands after it, and whatever the `old`s are.
use Rattle.std.proofs.Common.{◌≡◌, ◌+◌, ℕ, List, [], ◌∷◌, ◌++◌, Option, Some, None, Bool, true, false, refl, subst, sym}
use Rattle.std.specs.Prelude.{map, length}
use Rattle.sc_tree.specs.declared.expression.UnaryOperator.TheVariants as unary
use Rattle.sc_tree.specs.Plain as tree
use Rattle.sc_tree.specs.Plain.{System, FeatureKind, Head, Name, Variable, Named, ResultVariable, Exprs, no_exprs, expr_then, Instr, Instrs, no_instrs, instr_then, Branches, no_branches, branch_then}
use Rattle.sc_tree.specs.Properties.{is_print}
use Rattle.sc_class.specs.declared.identity.ClassId.TheVariants as class
use Rattle.sc_class.specs.Tables.Features.{DeclaredFeature, feature_named}
use Rattle.sc_rules.specs.declared.entity_types.entity_type.EntityType.{EntityType}
use Rattle.sc_rules.specs.CallRules.{count}
use Rattle.sc_rules.specs.Names.{Assignee, to_local, to_attribute, current, given_type, test_type}
use Rattle.sc_model.specs.declared.cause.Cause.{Cause}
use Rattle.sc_model.specs.declared.cause.Cause.TheVariants as cause
use Rattle.sc_model.specs.Values.{Reference, Value, Integer, Boolean, Void, Attached, Operand}
use Rattle.sc_model.specs.Environments.{Binding, binding_named}
use Rattle.sc_model.specs.Objects.{attributes_of}
use Rattle.sc_model.specs.Operators.{is_short}
use Rattle.sc_model.specs.Routines.{place_in}
use Rattle.sc_model.specs.Olds.{olds_in}
use Rattle.sc_model.specs.Tasks.{Task, Do, In, Declare, Forget, Eval, ApplyUnary, EvalRight, ApplyBinary, Conclude, Bind, CallUnqualified, CallQualified, AssignTo, Print, Choose, Repeat, EndLoop, Checked, Require, Required, KeepOld, Ensured, CreateBy, Open, Leave, evals, head_evals, checks}
use Rattle.sc_model.specs.Steps.{Point, Step, popped, forgets}
use Rattle.sc_model.specs.Creations.{assigned_at}
use Rattle.sc_model.specs.Expressions.{decided_by, reads_result, reads_own, begins_kind, begins_feature, begins_name, evaluate}
use Rattle.sc_model.specs.Instructions.{assigns, prints, chooses_other, chooses, ends_loop, tests, opens, actuals_of, procedure_of, begins_routine, begins}
use Rattle.sc_model.specs.Moves.{performs, step_at}
use Rattle.sc_machine_laws.specs.Evaluating.{extended, extended_step}
use Rattle.sc_machine_laws.specs.ClauseLaws.{StepExtends}
use Rattle.sc_machine_laws.specs.Texts.{HasNoOld, TaskHasNoOld}
use Rattle.sc_machine_laws.proofs.CallExtensions.{applies_x, attribute_x, binds_x, comes_x, concludes_x, creates_x, qualified_x, reads_as_x, right_x, unary_x, unqualified_x}

module _ (s : System) (me : Reference) (os : List Operand) (ts : List Task) where
  -- the point, and the step, with more after it
  abbrev X : Point → Point
  X p = extended os ts p

  abbrev XS : Step → Step
  XS st = extended_step os ts st

  -- ---- expressions

  result_x : (u : Option Operand) (t : Option (Option EntityType)) (p : Point) → reads_result u t (X p) ≡ XS
      (reads_result u t p)
  result_x (Some u) (Some (Some t)) p = reads_as_x s me os ts u.type u.value t p
  result_x u t p = refl

  reads_own_x : (t : Option EntityType) (b : Option Binding) (p : Point) → reads_own t b (X p) ≡ XS (reads_own t b p)
  reads_own_x None b p = refl
  reads_own_x (Some t) b p = attribute_x s me os ts b t p

  begins_kind_x : (x : List ℕ) (k : FeatureKind) (i : ℕ) (es : Exprs) (p : Point) → begins_kind s me x k i es (X p) ≡ XS
      (begins_kind s me x k i es p)
  begins_kind_x x (tree.Attribute d) i es p = reads_own_x (given_type s (current (place_in s p.text)) d)
      (binding_named x (attributes_of me.number p.objects)) p
  begins_kind_x x (tree.Routine r) i es p = comes_x s me os ts (evals i es ++ CallUnqualified x (count es) ∷ []) p

  begins_feature_x : (x : List ℕ) (f : Option DeclaredFeature) (i : ℕ) (es : Exprs) (p : Point) →
      begins_feature s me x f i es (X p) ≡ XS (begins_feature s me x f i es p)
  begins_feature_x x None i es p = refl
  begins_feature_x x (Some f) i es p = begins_kind_x x f.feature.kind i es p

  begins_name_x : (x : List ℕ) (b : Option Binding) (i : ℕ) (es : Exprs) (p : Point) →
      begins_name s me x b i es (X p) ≡ XS (begins_name s me x b i es p)
  begins_name_x x (Some b) i es p = reads_as_x s me os ts b.type b.value b.type p
  begins_name_x x None i es p = begins_feature_x x (feature_named s (class.Declared p.text.class) x) i es p

  evaluate_x : (i : ℕ) (e : tree.Expr) (p : Point) → HasNoOld e → evaluate s me i e (X p) ≡ XS (evaluate s me i e p)
  evaluate_x i (tree.Integer q z) p o = refl
  evaluate_x i (tree.Boolean q b) p o = refl
  evaluate_x i (tree.Void q) p o = refl
  evaluate_x i (tree.Current q) p o = refl
  evaluate_x i (tree.Result q) p o = result_x p.result p.text.result p
  evaluate_x i (tree.Call q tree.no_target x es) p o = begins_name_x x.text (binding_named x.text p.environment) i es p
  evaluate_x i (tree.Call q (tree.target a) x es) p o =
      comes_x s me os ts (Eval i a ∷ evals (i + olds_in a) es ++ CallQualified x.text (count es) ∷ []) p
  evaluate_x i (tree.Unary q unary.Old a) p o = cc
  evaluate_x i (tree.Unary q unary.Not a) p o = refl
  evaluate_x i (tree.Unary q unary.Plus a) p o = refl
  evaluate_x i (tree.Unary q unary.Minus a) p o = refl
  evaluate_x i (tree.Binary q op a b) p o = refl
  evaluate_x i (tree.ObjectTest q d a x) p o = refl

  -- ---- instructions

  assigns_x : (x : Variable) (a : Assignee) (v : Value) (p : Point) → assigns me x a v (X p) ≡ XS (assigns me x a v p)
  assigns_x (Named x) (to_local t) v p = refl
  assigns_x (Named x) (to_attribute t) v p = refl
  assigns_x (ResultVariable q) (to_local (Some t)) v p = refl
  assigns_x x a v p = refl

  prints_x : (v : Value) (p : Point) → prints v (X p) ≡ XS (prints v p)
  prints_x (Integer z) p = refl
  prints_x (Boolean b) p = refl
  prints_x Void p = refl
  prints_x (Attached r) p = refl

  other_x : (depth : ℕ) (bs : Branches) (other : Instrs) (p : Point) → chooses_other depth bs other (X p) ≡ XS
      (chooses_other depth bs other p)
  other_x depth no_branches other p = refl
  other_x depth (branch_then e body bs) other p = refl

  chooses_x : (depth : ℕ) (v : Value) (body : Instrs) (bs : Branches) (other : Instrs) (p : Point) →
      chooses depth v body bs other (X p) ≡ XS (chooses depth v body bs other p)
  chooses_x depth (Boolean true) body bs other p = refl
  chooses_x depth (Boolean false) body bs other p = other_x depth bs other (forgets depth p)
  chooses_x depth v body bs other p = refl

  ends_loop_x : (v : Value) (e : tree.Expr) (body : Instrs) (p : Point) → ends_loop v e body (X p) ≡ XS
      (ends_loop v e body p)
  ends_loop_x (Boolean true) e body p = refl
  ends_loop_x (Boolean false) e body p = refl
  ends_loop_x v e body p = refl

  tests_x : (why : Cause) (v : Value) (p : Point) → tests why v (X p) ≡ XS (tests why v p)
  tests_x why (Boolean true) p = refl
  tests_x why (Boolean false) p = refl
  tests_x why v p = refl

  opens_x : (xs : List Name) (body : Instrs) (us : Option (List Operand × List Operand)) (p : Point) →
      opens xs body us (X p) ≡ XS (opens xs body us p)
  opens_x xs body None p = refl
  opens_x xs body (Some (us, vs)) p = refl

  routine_x : (b : Bool) (x : List ℕ) (es : Exprs) (p : Point) → begins_routine b x es (X p) ≡ XS
      (begins_routine b x es p)
  routine_x true x no_exprs p = refl
  routine_x true x (expr_then e no_exprs) p = refl
  routine_x true x (expr_then e (expr_then d es)) p = refl
  routine_x false x es p = comes_x s me os ts (evals 0 es ++ CallUnqualified x (count es) ∷ []) p

  begins_x : (i : Instr) (p : Point) → begins i (X p) ≡ XS (begins i p)
  begins_x (tree.Assign q x e) p = refl
  begins_x (tree.PrintText q text) p = refl
  begins_x (tree.CallRoutine q tree.no_target x es) p = routine_x (is_print x.text) x.text es p
  begins_x (tree.CallRoutine q (tree.target a) x es) p =
      comes_x s me os ts (Eval 0 a ∷ evals 0 es ++ CallQualified x.text (count es) ∷ []) p
  begins_x (tree.Create q c) p =
      comes_x s me os ts (evals 0 (actuals_of c.call) ++ CreateBy c.variable (procedure_of c.call)
      (count (actuals_of c.call)) ∷ []) p
  begins_x (tree.If q e body bs other) p = refl
  begins_x (tree.Loop q initial e body) p = refl
  begins_x (tree.Check q ks) p = comes_x s me os ts (checks ks) p
  begins_x (tree.Block q ds body) p = comes_x s me os ts (head_evals ds ++ Open (map (λ (d : Head). d.name) ds) body ∷ []) p

  -- ---- tasks

  -- one task, where p.tasks is what is left after it
  performs_x : (t : Task) (vs : List Operand) (p : Point) → TaskHasNoOld t → performs s me t vs (X p) ≡ XS
      (performs s me t vs p)
  performs_x (Do no_instrs) vs p o = refl
  performs_x (Do (instr_then i is)) vs p o = begins_x i (record p { tasks = Do is ∷ p.tasks })
  performs_x (In text) vs p o = refl
  performs_x (Declare locals) vs p o = refl
  performs_x (Forget depth) vs p o = refl
  performs_x (Eval i a) vs p o = evaluate_x i a p o
  performs_x (CallUnqualified x n) vs p o = unqualified_x s me os ts x (popped n [] vs) p
  performs_x (CallQualified x n) vs p o = qualified_x s me os ts x (popped n [] vs) p
  performs_x (Repeat until body) vs p o = refl
  performs_x (Require ks) vs p o = absurd o
  performs_x (CreateBy x k n) vs p o = creates_x s me os ts x k (popped n [] vs) p
  performs_x (Open xs body) vs p o = opens_x xs body (popped (length xs) [] vs) p
  performs_x (Leave depth) vs p o = refl
  performs_x (ApplyUnary op) [] p o = refl
  performs_x (EvalRight op i right) [] p o = refl
  performs_x (ApplyBinary op) [] p o = refl
  performs_x Conclude [] p o = refl
  performs_x (Bind d x) [] p o = refl
  performs_x (AssignTo x) [] p o = refl
  performs_x Print [] p o = refl
  performs_x (Choose depth body bs other) [] p o = refl
  performs_x (EndLoop until body) [] p o = refl
  performs_x Checked [] p o = refl
  performs_x (Required k) vs p o = absurd o
  performs_x KeepOld vs p o = absurd o
  performs_x Ensured vs p o = absurd o
  performs_x (ApplyUnary op) (u ∷ vs) p o = unary_x s me os ts op u.value (record p { values = vs })
  performs_x (EvalRight op i right) (u ∷ vs) p o = right_x s me os ts (decided_by op u.value) (is_short op) op i right u
      (record p { values = vs })
  performs_x (ApplyBinary op) (u ∷ vs) p o = applies_x s me os ts op u.value vs (record p { values = vs })
  performs_x Conclude (u ∷ vs) p o = concludes_x s me os ts u.value (record p { values = vs })
  performs_x (Bind d x) (u ∷ vs) p o = binds_x s me os ts d x u.value (test_type (place_in s p.text) d (Some u.type))
      (record p { values = vs })
  performs_x (AssignTo x) (u ∷ vs) p o = assigns_x x (assigned_at s x p) u.value (record p { values = vs })
  performs_x Print (u ∷ vs) p o = prints_x u.value (record p { values = vs })
  performs_x (Choose depth body bs other) (u ∷ vs) p o = chooses_x depth u.value body bs other
      (record p { values = vs })
  performs_x (EndLoop until body) (u ∷ vs) p o = ends_loop_x u.value until body (record p { values = vs })
  performs_x Checked (u ∷ vs) p o = tests_x cause.Check u.value (record p { values = vs })

  step_at_x : (l : List Task) (t : Task) (rest : List Task) (p : Point) → l ≡ t ∷ rest → TaskHasNoOld t →
      step_at s me (l ++ ts) (X p) ≡ XS (step_at s me l p)
  step_at_x l t rest p e o =
      subst (λ l. step_at s me (l ++ ts) (X p) ≡ XS (step_at s me l p)) (sym e)
      (performs_x t p.values (record p { tasks = rest }) o)

pub step_extends : StepExtends
step_extends s me os ts p t rest e o = step_at_x s me os ts p.tasks t rest p e o
