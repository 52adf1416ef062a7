-- A step of a routine, where the names that are called and assigned are such: what it does to objects, and that they are such after it.
use Rattle.std.proofs.Common.{◌≡◌, ◌⊎◌, ℕ, zero, suc, ◌+◌, List, [], ◌∷◌, Option, Some, None, Bool, true, false, refl, subst}
use Rattle.std.specs.Prelude.{map, if◌then◌else◌, slice_get, length}
use Rattle.sc_tree.specs.declared.expression.UnaryOperator.TheVariants as unary
use Rattle.sc_tree.specs.Plain as tree
use Rattle.sc_tree.specs.Plain.{System, FeatureKind, Clause, Head, Name, Variable, Named, ResultVariable, CreationCall, Exprs, no_exprs, expr_then, Instr, Instrs, no_instrs, instr_then, Branches, no_branches, branch_then}
use Rattle.sc_class.specs.declared.identity.ClassId.TheVariants as class
use Rattle.sc_tree.specs.Properties.{is_print}
use Rattle.sc_class.specs.Tables.Features.{DeclaredFeature, feature_named}
use Rattle.sc_rules.specs.declared.entity_types.entity_type.EntityType.{EntityType}
use Rattle.sc_rules.specs.CallRules.{count}
use Rattle.sc_rules.specs.Names.{Entity, unassignable, assignee_of_entity, assignee_of_feature, assignee_of_kind, assignee_of_result, assignee_or, entity_named, is_local, to_local, current, given_type, test_type}
use Rattle.sc_model.specs.declared.cause.Cause.{Cause}
use Rattle.sc_model.specs.declared.cause.Cause.TheVariants as cause
use Rattle.sc_model.specs.Values.{Reference, Value, Integer, Boolean, Void, Attached, Operand}
use Rattle.sc_model.specs.Environments.{Binding, binding_named, scope_of}
use Rattle.sc_model.specs.Objects.{Object, attributes_of}
use Rattle.sc_model.specs.Operators.{is_short}
use Rattle.sc_model.specs.Routines.{place_in}
use Rattle.sc_model.specs.Olds.{olds_in}
use Rattle.sc_model.specs.Tasks.{Task, Do, In, Declare, Forget, Eval, ApplyUnary, EvalRight, ApplyBinary, Conclude, Bind, CallUnqualified, CallQualified, AssignTo, Print, Choose, Repeat, EndLoop, Checked, Require, Required, KeepOld, Ensured, CreateBy, Open, Leave}
use Rattle.sc_model.specs.Steps.{Point, Step, Goes, Does, popped, forgets}
use Rattle.sc_model.specs.Creations.{assigned_at}
use Rattle.sc_model.specs.Expressions.{decided_by, gives_found, reads_result, reads_own, begins_kind, begins_feature, begins_name, evaluate}
use Rattle.sc_model.specs.Instructions.{assigns, prints, chooses_other, chooses, ends_loop, tests, required, opens, actuals_of, procedure_of, begins_routine, begins}
use Rattle.sc_model.specs.Sizes.{size}
use Rattle.sc_model.specs.Moves.{performs, step_at, step, then_go, first_visible, moves}
use Rattle.sc_machine_laws.proofs.Tasks.{OfTask, OfTasks, Behind, class_behind}
use Rattle.sc_machine_laws.proofs.Texts.{OfExpr, OfExprs, OfCall, OfClauses, OfInstrs, OfInstr, OfBranches, OfVariable}
use Rattle.sc_machine_laws.proofs.CallSteps.{MayAssign, SteppedSo, actuals_left, applies_so, attribute_so, binds_so, checks_left, concludes_so, creates_so, heads_left, qualified_so, reads_as_so, right_so, unary_so, unqualified_so}

module _ (s : System) (me : Reference) (C A : ℕ → List ℕ → Type 0) (E K End : Type 0) (F : List Task → Type 0) (O : List Object → Type 0)
    (may_assign : MayAssign s me A O) where
  abbrev Such : ℕ → List Task → Type 0
  Such k ts = OfTasks C A E K End F k ts

  abbrev Left : Point → Type 0
  Left p = OfTasks C A E K End F p.text.class p.tasks

  -- ---- expressions

  found_so : (u : Option Operand) (p : Point) → O p.objects → Left p → SteppedSo s me C A E K End F O may_assign (gives_found u p)
  found_so None p h l = tt
  found_so (Some u) p h l = (h, l)

  result_so : (u : Option Operand) (t : Option (Option EntityType)) (p : Point) → O p.objects → Left p → SteppedSo s me C A E K End F O may_assign (reads_result u t p)
  result_so (Some u) (Some (Some t)) p h l = reads_as_so s me C A E K End F O may_assign u.type u.value t p h l
  result_so (Some u) (Some None) p h l = tt
  result_so (Some u) None p h l = tt
  result_so None t p h l = tt

  reads_own_so : (t : Option EntityType) (b : Option Binding) (p : Point) → O p.objects → Left p → SteppedSo s me C A E K End F O may_assign (reads_own t b p)
  reads_own_so None b p h l = tt
  reads_own_so (Some t) b p h l = attribute_so s me C A E K End F O may_assign b t p h l

  begins_kind_so : (x : List ℕ) (k : FeatureKind) (i : ℕ) (es : Exprs) (p : Point) → O p.objects → C p.text.class x → OfExprs (C p.text.class) es → Left p →
      SteppedSo s me C A E K End F O may_assign (begins_kind s me x k i es p)
  begins_kind_so x (tree.Attribute d) i es p h c o l =
      reads_own_so (given_type s (current (place_in s p.text)) d) (binding_named x (attributes_of me.number p.objects)) p h l
  begins_kind_so x (tree.Routine r) i es p h c o l = (h, actuals_left s me C A E K End F O may_assign p.text.class i es (CallUnqualified x (count es)) p.tasks o (c, l))

  begins_feature_so : (x : List ℕ) (f : Option DeclaredFeature) (i : ℕ) (es : Exprs) (p : Point) → O p.objects → C p.text.class x → OfExprs (C p.text.class) es → Left p →
      SteppedSo s me C A E K End F O may_assign (begins_feature s me x f i es p)
  begins_feature_so x None i es p h c o l = tt
  begins_feature_so x (Some f) i es p h c o l = begins_kind_so x f.feature.kind i es p h c o l

  begins_name_so : (x : List ℕ) (b : Option Binding) (i : ℕ) (es : Exprs) (p : Point) → O p.objects → C p.text.class x → OfExprs (C p.text.class) es → Left p →
      SteppedSo s me C A E K End F O may_assign (begins_name s me x b i es p)
  begins_name_so x (Some b) i es p h c o l = reads_as_so s me C A E K End F O may_assign b.type b.value b.type p h l
  begins_name_so x None i es p h c o l = begins_feature_so x (feature_named s (class.Declared p.text.class) x) i es p h c o l

  evaluate_so : (i : ℕ) (e : tree.Expr) (p : Point) → O p.objects → OfExpr (C p.text.class) e → Left p → SteppedSo s me C A E K End F O may_assign (evaluate s me i e p)
  evaluate_so i (tree.Integer q z) p h o l = (h, l)
  evaluate_so i (tree.Boolean q b) p h o l = (h, l)
  evaluate_so i (tree.Void q) p h o l = (h, l)
  evaluate_so i (tree.Current q) p h o l = (h, l)
  evaluate_so i (tree.Result q) p h o l = result_so p.result p.text.result p h l
  evaluate_so i (tree.Call q tree.no_target x es) p h o l = begins_name_so x.text (binding_named x.text p.environment) i es p h o.0 o.1 l
  evaluate_so i (tree.Call q (tree.target a) x es) p h o l =
      (h, (o.0, actuals_left s me C A E K End F O may_assign p.text.class (i + olds_in a) es (CallQualified x.text (count es)) p.tasks o.1 (tt, l)))
  evaluate_so i (tree.Unary q unary.Old a) p h o l = found_so (slice_get p.olds i) p h l
  evaluate_so i (tree.Unary q unary.Not a) p h o l = (h, (o, (tt, l)))
  evaluate_so i (tree.Unary q unary.Plus a) p h o l = (h, (o, (tt, l)))
  evaluate_so i (tree.Unary q unary.Minus a) p h o l = (h, (o, (tt, l)))
  evaluate_so i (tree.Binary q op a b) p h o l = (h, (o.0, (o.1, l)))
  evaluate_so i (tree.ObjectTest q d a x) p h o l = (h, (o, (tt, l)))

  -- ---- instructions

  to_entity_so : (x : Name) (e : Entity) (v : Value) (p : Point) → O p.objects → Left p →
      SteppedSo s me C A E K End F O may_assign (assigns me (Named x) (assignee_of_entity e) v p)
  to_entity_so x e v p h l = by (is_local e.role)
    where
      by : (b : Bool) → SteppedSo s me C A E K End F O may_assign (assigns me (Named x) (if b then to_local e.type else unassignable) v p)
      by true = (h, l)
      by false = tt

  to_feature_so : (x : Name) (f : Option DeclaredFeature) (v : Value) (p : Point) → feature_named s (class.Declared p.text.class) x.text ≡ f → O p.objects → A p.text.class x.text →
      Left p → SteppedSo s me C A E K End F O may_assign (assigns me (Named x) (assignee_of_feature (place_in s p.text) f) v p)
  to_feature_so x None v p e h a l = tt
  to_feature_so x (Some f) v p e h a l = by f.feature.kind refl
    where
      by : (k : FeatureKind) → f.feature.kind ≡ k → SteppedSo s me C A E K End F O may_assign (assigns me (Named x) (assignee_of_kind (place_in s p.text) k) v p)
      by (tree.Attribute d) i = (may_assign p.text.class x.text f d v p.objects a e i h, l)
      by (tree.Routine r) i = tt

  to_named_so : (x : Name) (o : Option Entity) (v : Value) (p : Point) → O p.objects → A p.text.class x.text → Left p →
      SteppedSo s me C A E K End F O may_assign (assigns me (Named x) (assignee_or (place_in s p.text) x.text o) v p)
  to_named_so x (Some e) v p h a l = to_entity_so x e v p h l
  to_named_so x None v p h a l = by (is_print x.text)
    where
      by : (b : Bool) →
          SteppedSo s me C A E K End F O may_assign (assigns me (Named x) (if b then unassignable else assignee_of_feature (place_in s p.text) (feature_named s (class.Declared p.text.class) x.text)) v p)
      by true = tt
      by false = to_feature_so x (feature_named s (class.Declared p.text.class) x.text) v p refl h a l

  assigns_so : (x : Variable) (v : Value) (p : Point) → O p.objects → OfVariable (A p.text.class) x → Left p →
      SteppedSo s me C A E K End F O may_assign (assigns me x (assigned_at s x p) v p)
  assigns_so (Named x) v p h a l = to_named_so x (entity_named x.text (scope_of p.environment)) v p h a l
  assigns_so (ResultVariable q) v p h a l = by p.text.result
    where
      by : (o : Option (Option EntityType)) → SteppedSo s me C A E K End F O may_assign (assigns me (ResultVariable q) (assignee_of_result o) v p)
      by None = tt
      by (Some None) = tt
      by (Some (Some t)) = (h, l)

  prints_so : (v : Value) (p : Point) → O p.objects → Left p → SteppedSo s me C A E K End F O may_assign (prints v p)
  prints_so (Integer z) p h l = (h, l)
  prints_so (Boolean b) p h l = (h, l)
  prints_so Void p h l = tt
  prints_so (Attached r) p h l = tt

  module _ (p : Point) where
    abbrev Bodies : Instrs → Type 0
    Bodies is = OfInstrs (C p.text.class) (A p.text.class) E is

    abbrev Choices : Branches → Type 0
    Choices bs = OfBranches (C p.text.class) (A p.text.class) E bs

  other_so : (depth : ℕ) (bs : Branches) (other : Instrs) (p : Point) → O p.objects → Choices p bs → Bodies p other → Left p →
      SteppedSo s me C A E K End F O may_assign (chooses_other depth bs other p)
  other_so depth no_branches other p h o q l = (h, (q, l))
  other_so depth (branch_then e b bs) other p h o q l = (h, (o.0, ((o.1.0, (o.1.1, q)), l)))

  chooses_so : (depth : ℕ) (v : Value) (body : Instrs) (bs : Branches) (other : Instrs) (p : Point) → O p.objects → Bodies p body → Choices p bs → Bodies p other → Left p →
      SteppedSo s me C A E K End F O may_assign (chooses depth v body bs other p)
  chooses_so depth (Boolean true) body bs other p h a b c l = (h, (a, (tt, l)))
  chooses_so depth (Boolean false) body bs other p h a b c l = other_so depth bs other (forgets depth p) h b c l
  chooses_so depth (Integer z) body bs other p h a b c l = tt
  chooses_so depth Void body bs other p h a b c l = tt
  chooses_so depth (Attached r) body bs other p h a b c l = tt

  ends_loop_so : (v : Value) (e : tree.Expr) (body : Instrs) (p : Point) → O p.objects → OfExpr (C p.text.class) e → Bodies p body → Left p →
      SteppedSo s me C A E K End F O may_assign (ends_loop v e body p)
  ends_loop_so (Boolean true) e body p h o b l = (h, l)
  ends_loop_so (Boolean false) e body p h o b l = (h, (b, ((o, b), l)))
  ends_loop_so (Integer z) e body p h o b l = tt
  ends_loop_so Void e body p h o b l = tt
  ends_loop_so (Attached r) e body p h o b l = tt

  tests_so : (why : Cause) (v : Value) (p : Point) → O p.objects → Left p → SteppedSo s me C A E K End F O may_assign (tests why v p)
  tests_so why (Boolean true) p h l = (h, l)
  tests_so why (Boolean false) p h l = tt
  tests_so why (Integer z) p h l = tt
  tests_so why Void p h l = tt
  tests_so why (Attached r) p h l = tt

  required_so : (k : Clause) (v : Value) (p : Point) → O p.objects → K → Left p → SteppedSo s me C A E K End F O may_assign (required k v p)
  required_so k (Boolean true) p h o l = (h, l)
  required_so k (Boolean false) p h o l = (o, h)
  required_so k (Integer z) p h o l = tt
  required_so k Void p h o l = tt
  required_so k (Attached r) p h o l = tt

  opens_so : (xs : List Name) (body : Instrs) (us : Option (List Operand × List Operand)) (p : Point) → O p.objects → E → Bodies p body → Left p →
      SteppedSo s me C A E K End F O may_assign (opens xs body us p)
  opens_so xs body None p h e b l = tt
  opens_so xs body (Some (us, vs)) p h e b l = (h, (b, (e, l)))

  routine_so : (b : Bool) (x : List ℕ) (es : Exprs) (p : Point) → O p.objects → E → C p.text.class x → OfExprs (C p.text.class) es → Left p →
      SteppedSo s me C A E K End F O may_assign (begins_routine b x es p)
  routine_so true x no_exprs p h e c o l = tt
  routine_so true x (expr_then a no_exprs) p h e c o l = (h, (o.0, (e, l)))
  routine_so true x (expr_then a (expr_then f es)) p h e c o l = tt
  routine_so false x es p h e c o l = (h, actuals_left s me C A E K End F O may_assign p.text.class 0 es (CallUnqualified x (count es)) p.tasks o (c, l))

  called : (k : ℕ) (c : Option CreationCall) → OfCall (C k) c → OfExprs (C k) (actuals_of c)
  called k None e = tt
  called k (Some c) e = e

  begins_so : (i : Instr) (p : Point) → O p.objects → OfInstr (C p.text.class) (A p.text.class) E i → Left p → SteppedSo s me C A E K End F O may_assign (begins i p)
  begins_so (tree.Assign q x e) p h o l = (h, (o.1, (o.0, l)))
  begins_so (tree.PrintText q text) p h o l = (h, l)
  begins_so (tree.CallRoutine q tree.no_target x es) p h o l = routine_so (is_print x.text) x.text es p h o.0 o.1.0 o.1.1 l
  begins_so (tree.CallRoutine q (tree.target a) x es) p h o l = (h, (o.1.0, actuals_left s me C A E K End F O may_assign p.text.class 0 es (CallQualified x.text (count es)) p.tasks o.1.1 (tt, l)))
  begins_so (tree.Create q c) p h o l =
      (h, actuals_left s me C A E K End F O may_assign p.text.class 0 (actuals_of c.call) (CreateBy c.variable (procedure_of c.call) (count (actuals_of c.call))) p.tasks (called p.text.class c.call o.1.1) ((o.0, o.1.0), l))
  begins_so (tree.If q e body bs other) p h o l = (h, (o.0, ((o.1.0, (o.1.1.0, o.1.1.1)), l)))
  begins_so (tree.Loop q initial e body) p h o l = (h, (o.0, ((o.1.0, o.1.1), l)))
  begins_so (tree.Check q ks) p h o l = (h, checks_left s me C A E K End F O may_assign p.text.class ks p.tasks o l)
  begins_so (tree.Block q ds body) p h o l =
      (h, heads_left s me C A E K End F O may_assign p.text.class ds (Open (map (λ (d : Head). d.name) ds) body) p.tasks o.1.0 ((o.0, o.1.1), l))

  -- ---- tasks

  require_so : (ks : List Clause) (p : Point) → O p.objects → K → OfClauses (C p.text.class) ks → Left p ⊎ F p.tasks →
      SteppedSo s me C A E K End F O may_assign (performs s me (Require ks) p.values p)
  require_so [] p h o c l = (o, (h, l))
  require_so (k ∷ ks) p h o c l = (h, (c.0, (o, ((o, c.1), l))))

  -- one task, where p.tasks is what is left after it
  performs_so : (t : Task) (vs : List Operand) (p : Point) → p.values ≡ vs → O p.objects → OfTask (C p.text.class) (A p.text.class) E K t →
      Behind F t p.tasks (Such (class_behind p.text.class t) p.tasks) → SteppedSo s me C A E K End F O may_assign (performs s me t vs p)
  performs_so (Do no_instrs) vs p e h o l = (h, l)
  performs_so (Do (instr_then i is)) vs p e h o l = begins_so i (record p { tasks = Do is ∷ p.tasks }) h o.0 (o.1, l)
  performs_so (In text) vs p e h o l = (h, l)
  performs_so (Declare locals) vs p e h o l = (h, l)
  performs_so (Forget depth) vs p e h o l = (h, l)
  performs_so (Eval i a) vs p e h o l = evaluate_so i a p h o l
  performs_so (CallUnqualified x n) vs p e h o l = unqualified_so s me C A E K End F O may_assign x (popped n [] vs) p h o l
  performs_so (CallQualified x n) vs p e h o l = qualified_so s me C A E K End F O may_assign x (popped n [] vs) p h l
  performs_so (Repeat until body) vs p e h o l = (h, (o.0, ((o.0, o.1), l)))
  performs_so (Require ks) vs p e h o l = subst (λ vs. SteppedSo s me C A E K End F O may_assign (performs s me (Require ks) vs p)) e (require_so ks p h o.0 o.1 l)
  performs_so (CreateBy x k n) vs p e h o l = creates_so s me C A E K End F O may_assign x k (popped n [] vs) p h o.0 o.1 l
  performs_so (Open xs body) vs p e h o l = opens_so xs body (popped (length xs) [] vs) p h o.0 o.1 l
  performs_so (Leave depth) vs p e h o l = (h, l)
  performs_so (ApplyUnary op) [] p e h o l = tt
  performs_so (EvalRight op i right) [] p e h o l = tt
  performs_so (ApplyBinary op) [] p e h o l = tt
  performs_so Conclude [] p e h o l = tt
  performs_so (Bind d x) [] p e h o l = tt
  performs_so (AssignTo x) [] p e h o l = tt
  performs_so Print [] p e h o l = tt
  performs_so (Choose depth body bs other) [] p e h o l = tt
  performs_so (EndLoop until body) [] p e h o l = tt
  performs_so Checked [] p e h o l = tt
  performs_so (Required k) [] p e h o l = tt
  performs_so KeepOld [] p e h o l = tt
  performs_so Ensured [] p e h o l = tt
  performs_so (ApplyUnary op) (u ∷ vs) p e h o l = unary_so s me C A E K End F O may_assign op u.value (record p { values = vs }) h l
  performs_so (EvalRight op i right) (u ∷ vs) p e h o l = right_so s me C A E K End F O may_assign (decided_by op u.value) (is_short op) op i right u (record p { values = vs }) h o l
  performs_so (ApplyBinary op) (u ∷ vs) p e h o l = applies_so s me C A E K End F O may_assign op u.value vs (record p { values = vs }) h l
  performs_so Conclude (u ∷ vs) p e h o l = concludes_so s me C A E K End F O may_assign u.value (record p { values = vs }) h l
  performs_so (Bind d x) (u ∷ vs) p e h o l = binds_so s me C A E K End F O may_assign d x u.value (test_type (place_in s p.text) d (Some u.type)) (record p { values = vs }) h l
  performs_so (AssignTo x) (u ∷ vs) p e h o l = assigns_so x u.value (record p { values = vs }) h o l
  performs_so Print (u ∷ vs) p e h o l = prints_so u.value (record p { values = vs }) h l
  performs_so (Choose depth body bs other) (u ∷ vs) p e h o l = chooses_so depth u.value body bs other (record p { values = vs }) h o.0 o.1.0 o.1.1 l
  performs_so (EndLoop until body) (u ∷ vs) p e h o l = ends_loop_so u.value until body (record p { values = vs }) h o.0 o.1 l
  performs_so Checked (u ∷ vs) p e h o l = tests_so cause.Check u.value (record p { values = vs }) h l
  performs_so (Required k) (u ∷ vs) p e h o l = required_so k u.value (record p { values = vs }) h o l
  performs_so KeepOld (u ∷ vs) p e h o l = (h, l)
  performs_so Ensured (u ∷ vs) p e h o l = tests_so cause.Postcondition u.value (record p { values = vs }) h l

  step_at_so : (ts : List Task) (p : Point) → p.tasks ≡ ts → O p.objects → Left p → SteppedSo s me C A E K End F O may_assign (step_at s me ts p)
  step_at_so [] p e h l = (subst (Such p.text.class) e l, h)
  step_at_so (t ∷ ts) p e h l =
      let c : Such p.text.class (t ∷ ts) = subst (Such p.text.class) e l in performs_so t p.values (record p { tasks = ts }) refl h c.0 c.1

  then_so : (st : Step) (go : Point → Step) → SteppedSo s me C A E K End F O may_assign st →
      ((p : Point) → O p.objects → Left p → SteppedSo s me C A E K End F O may_assign (go p)) → SteppedSo s me C A E K End F O may_assign (then_go st go)
  then_so (Goes p) go h on = on p h.0 h.1
  then_so (Does a p) go h on = h

  visible_so : (n : ℕ) (p : Point) → O p.objects → Left p → SteppedSo s me C A E K End F O may_assign (first_visible n s me p)
  visible_so zero p h l = (h, l)
  visible_so (suc n) p h l = then_so (step s me p) (first_visible n s me) (step_at_so p.tasks p refl h l) (λ q. visible_so n q)

  -- So does a turn's part of it.
  pub moves_so : (p : Point) → O p.objects → Left p → SteppedSo s me C A E K End F O may_assign (moves s me p)
  moves_so p h l = visible_so (suc (size p.tasks)) p h l
