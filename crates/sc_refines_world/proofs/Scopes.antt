-- What silent and visible steps leave of the names of a routine: its formals first, then its locals and others.
use Rattle.std.proofs.Common.{◌≡◌, ◌≤◌, ◌+◌, ◌∙◌, ℕ, ℤ, List, [], ◌∷◌, ◌++◌, Option, Some, None, Ok, Err, Bool, true, false, refl, subst, sym}
use Rattle.std.specs.Prelude.{map, if◌then◌else◌, length, nat_lt, ◌==◌, slice_get}
use Rattle.sc_formula.specs.declared.arithmetic.ArithmeticFault.TheVariants as fault
use Rattle.sc_formula.specs.declared.arithmetic.ArithmeticOperator.{ArithmeticOperator}
use Rattle.sc_formula.specs.declared.comparison.Comparison.{Comparison}
use Rattle.sc_formula.specs.declared.connective.Connective.{Connective}
use Rattle.sc_formula.specs.Arithmetic.{ArithmeticResult, opposite_of, result_of}
use Rattle.sc_tree.specs.declared.expression.UnaryOperator.{UnaryOperator}
use Rattle.sc_tree.specs.declared.expression.UnaryOperator.TheVariants as unary
use Rattle.sc_tree.specs.declared.expression.BinaryOperator.{BinaryOperator}
use Rattle.sc_tree.specs.Plain as tree
use Rattle.sc_tree.specs.Plain.{System, Declaration, FeatureKind, DeclaredType, Clause, Head, Name, Variable, Named, ResultVariable, Exprs, no_exprs, expr_then, Instr, Instrs, no_instrs, instr_then, Branches, no_branches, branch_then}
use Rattle.sc_tree.specs.Properties.{is_print}
use Rattle.sc_class.specs.declared.identity.ClassId.{ClassId}
use Rattle.sc_class.specs.declared.identity.ClassId.TheVariants as class
use Rattle.sc_class.specs.Tables.Features.{DeclaredFeature, feature_named}
use Rattle.sc_rules.specs.declared.entity_types.tag.Tag.{Tag}
use Rattle.sc_rules.specs.declared.entity_types.tag.Tag.TheVariants as tag
use Rattle.sc_rules.specs.declared.entity_types.entity_type.EntityType.{EntityType}
use Rattle.sc_rules.specs.CallRules.{count}
use Rattle.sc_rules.specs.declared.position.Role.TheVariants as role
use Rattle.sc_rules.specs.Names.{Assignee, to_local, to_attribute, assignee_type, Signature, signature_of, current, given_type, test_type}
use Rattle.sc_model.specs.declared.cause.Cause.{Cause}
use Rattle.sc_model.specs.declared.cause.Cause.TheVariants as cause
use Rattle.sc_model.specs.Values.{Reference, Value, Integer, Boolean, Void, Attached, Operand}
use Rattle.sc_model.specs.Environments.{Binding, assigned_to, bind, binding_named, handler_named, locals_bound}
use Rattle.sc_model.specs.Objects.{Object, object_numbered, attributes_of, fresh_object}
use Rattle.sc_model.specs.Invariants.{meets_invariant}
use Rattle.sc_model.specs.Operators.{arithmetic_of, comparison_of, connective_of, identity_of, is_short}
use Rattle.sc_model.specs.Routines.{Routine, place_in, version_of}
use Rattle.sc_model.specs.Olds.{olds_in}
use Rattle.sc_model.specs.Limits.{max_objects}
use Rattle.sc_model.specs.Tasks.{Task, Do, In, Declare, Forget, Eval, ApplyUnary, EvalRight, ApplyBinary, Conclude, Bind, CallUnqualified, CallQualified, AssignTo, Print, Choose, Repeat, EndLoop, Checked, Require, Required, KeepOld, Ensured, CreateBy, Open, Leave}
use Rattle.sc_model.specs.Steps.{Does, Fails, Goes, Point, Step, fails, gives, reads_as, reads_attribute, popped, forgets}
use Rattle.sc_model.specs.Calls.{given_by, passes_rights, enters_unqualified, calls_own, calls_unqualified, calls_kind, calls_version, requests, calls_object, calls_on, calls_qualified}
use Rattle.sc_model.specs.Creations.{creates_object, creates_here, creates_at, creates_as, creates, assigned_at}
use Rattle.sc_model.specs.ObjectTests.{is_tested, binds_if, binds}
use Rattle.sc_model.specs.Expressions.{gives_outcome, gives_truth, apply_unary, apply_to_integers, apply_to_booleans, is_same_object, apply_binary, applies, decided_by, evals_right, concludes, gives_found, reads_result, reads_own, begins_kind, begins_feature, begins_name, evaluate}
use Rattle.sc_model.specs.Instructions.{assigns, prints, chooses_other, chooses, ends_loop, tests, required, opens, actuals_of, procedure_of, begins_routine, begins}
use Rattle.sc_model.specs.Moves.{performs, step_at}
use Rattle.sc_machine_laws.proofs.states.Assigned.{scope_assigned}
use Rattle.sc_refines_world.proofs.KnownFormals.{Knows, neither, known_more, known_less, known_many, locals_others, block_known}
use Rattle.sc_refines_world.proofs.TaskTexts.{IsOf, text_behind, AreOf, evals_then, heads_then, checks_then}

-- ---- steps

module _ (s : System) (me : Reference) (routine : Routine) where
  abbrev pub Left : Point → Type 0
  Left p = Knows s routine p.environment × AreOf routine p.text p.tasks

  -- a failure leaves no names
  abbrev pub Leaves : Step → Type 0
  Leaves (Goes p) = Left p
  Leaves (Does (Fails why) p) = Unit {0}
  Leaves (Does act p) = Left p

  if_l : (b : Bool) (x y : Step) → Leaves x → Leaves y → Leaves (if b then x else y)
  if_l true x y h k = h
  if_l false x y h k = k

  -- ---- values

  reads_as_l : (d : EntityType) (v : Value) (t : EntityType) (p : Point) → Left p → Leaves (reads_as d v t p)
  reads_as_l d Void t p l = if_l d.attached (fails cause.UnsetEntity p) (gives Void t p) tt l
  reads_as_l d (Integer z) t p l = l
  reads_as_l d (Boolean b) t p l = l
  reads_as_l d (Attached r) t p l = l

  attribute_l : (b : Option Binding) (t : EntityType) (p : Point) → Left p → Leaves (reads_attribute b t p)
  attribute_l None t p l = tt
  attribute_l (Some b) t p l = reads_as_l t b.value t p l

  outcome_l : (o : ArithmeticResult) (p : Point) → Left p → Leaves (gives_outcome o p)
  outcome_l (Ok z) p l = l
  outcome_l (Err fault.Overflow) p l = tt
  outcome_l (Err fault.DivideByZero) p l = tt

  truth_l : (b : Option Bool) (p : Point) → Left p → Leaves (gives_truth b p)
  truth_l None p l = tt
  truth_l (Some b) p l = l

  unary_l : (op : UnaryOperator) (v : Value) (p : Point) → Left p → Leaves (apply_unary op v p)
  unary_l unary.Minus (Integer z) p l = outcome_l (opposite_of z) p l
  unary_l unary.Minus (Boolean b) p l = tt
  unary_l unary.Minus Void p l = tt
  unary_l unary.Minus (Attached r) p l = tt
  unary_l unary.Not (Boolean b) p l = l
  unary_l unary.Not (Integer z) p l = tt
  unary_l unary.Not Void p l = tt
  unary_l unary.Not (Attached r) p l = tt
  unary_l unary.Plus (Integer z) p l = l
  unary_l unary.Plus (Boolean b) p l = tt
  unary_l unary.Plus Void p l = tt
  unary_l unary.Plus (Attached r) p l = tt
  unary_l unary.Old v p l = tt

  integers_l : (o : Option ArithmeticOperator) (c : Option Comparison) (a b : ℤ) (p : Point) → Left p →
      Leaves (apply_to_integers o c a b p)
  integers_l (Some o) c a b p l = outcome_l (result_of o a b) p l
  integers_l None (Some c) a b p l = l
  integers_l None None a b p l = tt

  booleans_l : (o : Option Connective) (a b : Bool) (p : Point) → Left p → Leaves (apply_to_booleans o a b p)
  booleans_l (Some o) a b p l = l
  booleans_l None a b p l = tt

  binary_l : (op : BinaryOperator) (v w : Value) (p : Point) → Left p → Leaves (apply_binary op v w p)
  binary_l op (Integer a) (Integer b) p l = integers_l (arithmetic_of op) (comparison_of op) a b p l
  binary_l op (Boolean a) (Boolean b) p l = booleans_l (connective_of op) a b p l
  binary_l op (Attached r) (Attached q) p l = truth_l (identity_of op (is_same_object r q)) p l
  binary_l op (Attached r) Void p l = truth_l (identity_of op false) p l
  binary_l op Void (Attached q) p l = truth_l (identity_of op false) p l
  binary_l op Void Void p l = truth_l (identity_of op true) p l
  binary_l op v w p l = tt

  applies_l : (op : BinaryOperator) (v : Value) (vs : List Operand) (p : Point) → Left p → Leaves (applies op v vs p)
  applies_l op v [] p l = tt
  applies_l op v (u ∷ vs) p l = binary_l op u.value v (record p { values = vs }) l

  right_l : (d : Option Bool) (short : Bool) (op : BinaryOperator) (i : ℕ) (e : tree.Expr) (u : Operand) (p : Point) →
      Left p → Leaves (evals_right d short op i e u p)
  right_l (Some b) short op i e u p l = l
  right_l None true op i e u p l = (l.0, (tt, (tt, l.1)))
  right_l None false op i e u p l = (l.0, (tt, (tt, l.1)))

  concludes_l : (v : Value) (p : Point) → Left p → Leaves (concludes v p)
  concludes_l (Boolean b) p l = l
  concludes_l v p l = tt

  -- ---- object tests

  binds_if_l : (b : Bool) (x : List ℕ) (v : Value) (t : EntityType) (p : Point) → Left p → Leaves (binds_if b x v t p)
  binds_if_l true x v t p l = (known_more s routine p.environment (bind x t role.Test v ∷ []) l.0 (neither s routine x (Some t) role.Test refl refl, tt), l.1)
  binds_if_l false x v t p l = l

  binds_l : (d : Option DeclaredType) (x : List ℕ) (v : Value) (t : Option EntityType) (p : Point) → Left p →
      Leaves (binds s me.handler d x v t p)
  binds_l d x v None p l = tt
  binds_l d x v (Some t) p l = binds_if_l (is_tested s me.handler (handler_named p.environment) v d t) x v t p l

  -- ---- calls

  enters_l : (x : List ℕ) (us : List Operand) (g : Option (Option EntityType)) (p : Point) → Left p →
      Leaves (enters_unqualified me x us g p)
  enters_l x us None p l = tt
  enters_l x us (Some g) p l = l

  own_l : (x : List ℕ) (f : Option DeclaredFeature) (us : List Operand) (p : Point) → Left p →
      Leaves (calls_own s me x f us p)
  own_l x None us p l = tt
  own_l x (Some f) us p l = enters_l x us (given_by (signature_of s (current (place_in s p.text)) f).gives) p l

  unqualified_l : (x : List ℕ) (us : Option (List Operand × List Operand)) (p : Point) → Left p →
      Leaves (calls_unqualified s me x us p)
  unqualified_l x None p l = tt
  unqualified_l x (Some (us, vs)) p l = own_l x (feature_named s (class.Declared p.text.class) x) us
      (record p { values = vs }) l

  kind_l : (r : Reference) (x : List ℕ) (us : List Operand) (g : Option EntityType) (o : Object) (k : FeatureKind)
      (p : Point) → Left p →
      Leaves (calls_kind r x us g o k p)
  kind_l r x us (Some t) o (tree.Attribute d) p l = attribute_l (binding_named x o.attributes) t p l
  kind_l r x us None o (tree.Attribute d) p l = tt
  kind_l r x us (Some t) o (tree.Routine c) p l = l
  kind_l r x us None o (tree.Routine c) p l = l

  version_l : (r : Reference) (x : List ℕ) (us : List Operand) (g : Option EntityType) (o : Option Object)
      (f : Option DeclaredFeature) (p : Point) → Left p →
      Leaves (calls_version r x us g o f p)
  version_l r x us g (Some o) (Some f) p l = kind_l r x us g o f.feature.kind p l
  version_l r x us g (Some o) None p l = tt
  version_l r x us g None f p l = tt

  requests_l : (r : Reference) (t : Tag) (x : List ℕ) (us : List Operand) (g : Option EntityType) (b : Bool)
      (p : Point) → Left p →
      Leaves (requests r t x us g b p)
  requests_l r tag.Own x us g b p l = tt
  requests_l r (tag.With y) x us g b p l = l
  requests_l r tag.Any x us g b p l = l
  requests_l r tag.None x us g b p l = l

  object_l : (r : Reference) (t : EntityType) (x : List ℕ) (us : List Operand) (g : Signature)
      (gives : Option (Option EntityType)) (p : Point) → Left p →
      Leaves (calls_object s me r t x us g gives p)
  object_l r t x us g None p l = tt
  object_l r t x us g (Some gives) p l =
      if_l (r.handler == me.handler)
      (calls_version r x us gives (object_numbered r.number p.objects) (version_of s r.class x) p)
      (requests r t.tag x us gives (passes_rights g.formals us) p)
      (version_l r x us gives (object_numbered r.number p.objects) (version_of s r.class x) p l)
      (requests_l r t.tag x us gives (passes_rights g.formals us) p l)

  on_value_l : (x : List ℕ) (v : Value) (t : EntityType) (f : Option DeclaredFeature) (us : List Operand)
      (p : Point) → Left p →
      Leaves (calls_on s me x v t f us p)
  on_value_l x Void t f us p l = tt
  on_value_l x (Integer z) t f us p l = tt
  on_value_l x (Boolean b) t f us p l = tt
  on_value_l x (Attached r) t None us p l = tt
  on_value_l x (Attached r) t (Some f) us p l = object_l r t x us (signature_of s t f)
      (given_by (signature_of s t f).gives) p l

  qualified_l : (x : List ℕ) (us : Option (List Operand × List Operand)) (p : Point) → Left p →
      Leaves (calls_qualified s me x us p)
  qualified_l x None p l = tt
  qualified_l x (Some (us, [])) p l = tt
  qualified_l x (Some (us, v ∷ vs)) p l = on_value_l x v.value v.type (feature_named s v.type.class x) us
      (record p { values = vs }) l

  -- ---- creations

  made_l : (r : Reference) (t : EntityType) (call : Option (List ℕ)) (us : List Operand) (p : Point) → Left p →
      Leaves (creates_object s r t call us p)
  made_l r t (Some x) us p l = l
  made_l r t None us p l = if_l (meets_invariant s (fresh_object s r.class)) _ (fails cause.Invariant p) l tt

  here_l : (k : ℕ) (t : EntityType) (call : Option (List ℕ)) (us : List Operand) (p : Point) → Left p →
      Leaves (creates_here s me k t call us p)
  here_l k t call us p l = if_l (nat_lt (length p.objects) max_objects) _ (fails cause.TooManyObjects p)
      (made_l (record { handler = me.handler; number = length p.objects + 1; class = k }) t call us
      (record p { objects = p.objects ++ fresh_object s k ∷ [] }) l) tt

  creates_at_l : (call : Option (List ℕ)) (t : EntityType) (g : Tag) (c : ClassId) (us : List Operand)
      (p : Point) → Left p →
      Leaves (creates_at s me call t g c us p)
  creates_at_l call t tag.Own (class.Declared k) us p l = here_l k t call us p l
  creates_at_l call t tag.Any (class.Declared k) us p l = l
  creates_at_l call t g c us p l = tt

  creates_as_l : (call : Option (List ℕ)) (t : Option EntityType) (us : List Operand) (p : Point) → Left p →
      Leaves (creates_as s me call t us p)
  creates_as_l call None us p l = tt
  creates_as_l call (Some t) us p l = creates_at_l call t t.tag t.class us p l

  creates_l : (v : Variable) (call : Option (List ℕ)) (us : Option (List Operand × List Operand)) (p : Point) → Left p →
      Leaves (creates s me v call us p)
  creates_l v call None p l = tt
  creates_l v call (Some (us, vs)) p l =
      creates_as_l call (assignee_type (assigned_at s v p)) us
      (record p { tasks = AssignTo v ∷ p.tasks; values = vs }) (l.0, (tt, l.1))

  -- ---- expressions

  result_l : (u : Option Operand) (t : Option (Option EntityType)) (p : Point) → Left p → Leaves (reads_result u t p)
  result_l (Some u) (Some (Some t)) p l = reads_as_l u.type u.value t p l
  result_l u t p l = tt

  found_l : (u : Option Operand) (p : Point) → Left p → Leaves (gives_found u p)
  found_l None p l = tt
  found_l (Some u) p l = l

  reads_own_l : (t : Option EntityType) (b : Option Binding) (p : Point) → Left p → Leaves (reads_own t b p)
  reads_own_l None b p l = tt
  reads_own_l (Some t) b p l = attribute_l b t p l

  begins_kind_l : (x : List ℕ) (k : FeatureKind) (i : ℕ) (es : Exprs) (p : Point) → Left p → Leaves (begins_kind s me x k i es p)
  begins_kind_l x (tree.Attribute d) i es p l = reads_own_l (given_type s (current (place_in s p.text)) d) (binding_named x (attributes_of me.number p.objects)) p l
  begins_kind_l x (tree.Routine r) i es p l = (l.0, evals_then routine p.text i es (CallUnqualified x (count es)) p.tasks (tt, l.1))

  begins_feature_l : (x : List ℕ) (f : Option DeclaredFeature) (i : ℕ) (es : Exprs) (p : Point) → Left p → Leaves (begins_feature s me x f i es p)
  begins_feature_l x None i es p l = tt
  begins_feature_l x (Some f) i es p l = begins_kind_l x f.feature.kind i es p l

  begins_name_l : (x : List ℕ) (b : Option Binding) (i : ℕ) (es : Exprs) (p : Point) → Left p → Leaves (begins_name s me x b i es p)
  begins_name_l x (Some b) i es p l = reads_as_l b.type b.value b.type p l
  begins_name_l x None i es p l = begins_feature_l x (feature_named s (class.Declared p.text.class) x) i es p l

  evaluate_l : (i : ℕ) (e : tree.Expr) (p : Point) → Left p → Leaves (evaluate s me i e p)
  evaluate_l i (tree.Integer q z) p l = l
  evaluate_l i (tree.Boolean q b) p l = l
  evaluate_l i (tree.Void q) p l = l
  evaluate_l i (tree.Current q) p l = l
  evaluate_l i (tree.Result q) p l = result_l p.result p.text.result p l
  evaluate_l i (tree.Call q tree.no_target x es) p l = begins_name_l x.text (binding_named x.text p.environment) i es p l
  evaluate_l i (tree.Call q (tree.target a) x es) p l =
      (l.0, (tt, evals_then routine p.text (i + olds_in a) es (CallQualified x.text (count es)) p.tasks (tt, l.1)))
  evaluate_l i (tree.Unary q unary.Old a) p l = found_l (slice_get p.olds i) p l
  evaluate_l i (tree.Unary q unary.Not a) p l = (l.0, (tt, (tt, l.1)))
  evaluate_l i (tree.Unary q unary.Plus a) p l = (l.0, (tt, (tt, l.1)))
  evaluate_l i (tree.Unary q unary.Minus a) p l = (l.0, (tt, (tt, l.1)))
  evaluate_l i (tree.Binary q op a b) p l = (l.0, (tt, (tt, l.1)))
  evaluate_l i (tree.ObjectTest q d a x) p l = (l.0, (tt, (tt, l.1)))

  -- ---- instructions

  assigned_l : (x : List ℕ) (v : Value) (bs : List Binding) → Knows s routine bs → Knows s routine (assigned_to x v bs)
  assigned_l x v bs k = record { others = k.others; names_are = scope_assigned x v bs ∙ k.names_are; others_are = k.others_are }

  assigns_l : (x : Variable) (a : Assignee) (v : Value) (p : Point) → Left p → Leaves (assigns me x a v p)
  assigns_l (Named x) (to_local t) v p l = (assigned_l x.text v p.environment l.0, l.1)
  assigns_l (Named x) (to_attribute t) v p l = l
  assigns_l (ResultVariable q) (to_local (Some t)) v p l = l
  assigns_l x a v p l = tt

  prints_l : (v : Value) (p : Point) → Left p → Leaves (prints v p)
  prints_l (Integer z) p l = l
  prints_l (Boolean b) p l = l
  prints_l Void p l = tt
  prints_l (Attached r) p l = tt

  other_l : (depth : ℕ) (bs : Branches) (other : Instrs) (p : Point) → length routine.text.formals ≤ depth → Left p → Leaves (chooses_other depth bs other p)
  other_l depth no_branches other p d l = (l.0, (tt, l.1))
  other_l depth (branch_then e body bs) other p d l = (l.0, (tt, (d, l.1)))

  chooses_l : (depth : ℕ) (v : Value) (body : Instrs) (bs : Branches) (other : Instrs) (p : Point) → length routine.text.formals ≤ depth → Left p →
      Leaves (chooses depth v body bs other p)
  chooses_l depth (Boolean true) body bs other p d l = (l.0, (tt, (d, l.1)))
  chooses_l depth (Boolean false) body bs other p d l = other_l depth bs other (forgets depth p) d (known_less s routine depth p.environment d l.0, l.1)
  chooses_l depth v body bs other p d l = tt

  ends_loop_l : (v : Value) (e : tree.Expr) (body : Instrs) (p : Point) → Left p → Leaves (ends_loop v e body p)
  ends_loop_l (Boolean true) e body p l = l
  ends_loop_l (Boolean false) e body p l = (l.0, (tt, (tt, l.1)))
  ends_loop_l v e body p l = tt

  tests_l : (why : Cause) (v : Value) (p : Point) → Left p → Leaves (tests why v p)
  tests_l why (Boolean true) p l = l
  tests_l why (Boolean false) p l = tt
  tests_l why v p l = tt

  required_l : (k : Clause) (v : Value) (p : Point) → Left p → Leaves (required k v p)
  required_l k (Boolean true) p l = l
  required_l k (Boolean false) p l = l
  required_l k v p l = tt

  opens_l : (xs : List Name) (body : Instrs) (us : Option (List Operand × List Operand)) (p : Point) → Left p → Leaves (opens xs body us p)
  opens_l xs body None p l = tt
  opens_l xs body (Some (us, vs)) p l = (block_known s routine xs us p.environment l.0, (tt, (known_many s routine p.environment l.0, l.1)))

  routine_l : (b : Bool) (x : List ℕ) (es : Exprs) (p : Point) → Left p → Leaves (begins_routine b x es p)
  routine_l true x no_exprs p l = tt
  routine_l true x (expr_then e no_exprs) p l = (l.0, (tt, (tt, l.1)))
  routine_l true x (expr_then e (expr_then d es)) p l = tt
  routine_l false x es p l = (l.0, evals_then routine p.text 0 es (CallUnqualified x (count es)) p.tasks (tt, l.1))

  begins_l : (i : Instr) (p : Point) → Left p → Leaves (begins i p)
  begins_l (tree.Assign q x e) p l = (l.0, (tt, (tt, l.1)))
  begins_l (tree.PrintText q text) p l = l
  begins_l (tree.CallRoutine q tree.no_target x es) p l = routine_l (is_print x.text) x.text es p l
  begins_l (tree.CallRoutine q (tree.target a) x es) p l = (l.0, (tt, evals_then routine p.text 0 es (CallQualified x.text (count es)) p.tasks (tt, l.1)))
  begins_l (tree.Create q c) p l =
      (l.0, evals_then routine p.text 0 (actuals_of c.call) (CreateBy c.variable (procedure_of c.call) (count (actuals_of c.call))) p.tasks (tt, l.1))
  begins_l (tree.If q e body bs other) p l = (l.0, (tt, (known_many s routine p.environment l.0, l.1)))
  begins_l (tree.Loop q initial e body) p l = (l.0, (tt, (tt, l.1)))
  begins_l (tree.Check q ks) p l = (l.0, checks_then routine p.text ks p.tasks l.1)
  begins_l (tree.Block q ds body) p l = (l.0, heads_then routine p.text ds (Open (map (λ (d : Head). d.name) ds) body) p.tasks (tt, l.1))

  -- ---- tasks

  declares_l : (ls : List Declaration) (p : Point) → p.text.formals ≡ routine.text.formals → ls ≡ routine.locals → Knows s routine p.environment →
      Knows s routine (p.environment ++ locals_bound s p.text.formals ls)
  declares_l ls p formals locals k =
      subst (λ (ds : List Declaration). Knows s routine (p.environment ++ locals_bound s ds ls)) (sym formals)
      (subst (λ (ds : List Declaration). Knows s routine (p.environment ++ locals_bound s routine.text.formals ds)) (sym locals)
      (known_more s routine p.environment (locals_bound s routine.text.formals routine.locals) k (locals_others s routine routine.locals (λ e i. i))))

  -- one task, where p.tasks is what is left after it
  performs_l : (t : Task) (vs : List Operand) (p : Point) → Knows s routine p.environment → IsOf routine p.text t → AreOf routine (text_behind p.text t) p.tasks →
      Leaves (performs s me t vs p)
  performs_l (Do no_instrs) vs p k o l = (k, l)
  performs_l (Do (instr_then i is)) vs p k o l = begins_l i (record p { tasks = Do is ∷ p.tasks }) (k, (tt, l))
  performs_l (In text) vs p k o l = (k, l)
  performs_l (Declare locals) vs p k o l = (declares_l locals p o.0 o.1 k, l)
  performs_l (Forget depth) vs p k o l = (known_less s routine depth p.environment o k, l)
  performs_l (Eval i a) vs p k o l = evaluate_l i a p (k, l)
  performs_l (CallUnqualified x n) vs p k o l = unqualified_l x (popped n [] vs) p (k, l)
  performs_l (CallQualified x n) vs p k o l = qualified_l x (popped n [] vs) p (k, l)
  performs_l (Repeat until body) vs p k o l = (k, (tt, (tt, l)))
  performs_l (Require []) vs p k o l = (k, l)
  performs_l (Require (q ∷ qs)) vs p k o l = (k, (tt, (tt, (tt, l))))
  performs_l (CreateBy x c n) vs p k o l = creates_l x c (popped n [] vs) p (k, l)
  performs_l (Open xs body) vs p k o l = opens_l xs body (popped (length xs) [] vs) p (k, l)
  performs_l (Leave depth) vs p k o l = (known_less s routine depth p.environment o k, l)
  performs_l (Required q) (u ∷ vs) p k o l = required_l q u.value (record p { values = vs }) (k, l)
  performs_l KeepOld (u ∷ vs) p k o l = (k, l)
  performs_l Ensured (u ∷ vs) p k o l = tests_l cause.Postcondition u.value (record p { values = vs }) (k, l)
  performs_l (ApplyUnary op) (u ∷ vs) p k o l = unary_l op u.value (record p { values = vs }) (k, l)
  performs_l (EvalRight op i right) (u ∷ vs) p k o l = right_l (decided_by op u.value) (is_short op) op i right u (record p { values = vs }) (k, l)
  performs_l (ApplyBinary op) (u ∷ vs) p k o l = applies_l op u.value vs (record p { values = vs }) (k, l)
  performs_l Conclude (u ∷ vs) p k o l = concludes_l u.value (record p { values = vs }) (k, l)
  performs_l (Bind d x) (u ∷ vs) p k o l = binds_l d x u.value (test_type (place_in s p.text) d (Some u.type)) (record p { values = vs }) (k, l)
  performs_l (AssignTo x) (u ∷ vs) p k o l = assigns_l x (assigned_at s x (record p { values = vs })) u.value (record p { values = vs }) (k, l)
  performs_l Print (u ∷ vs) p k o l = prints_l u.value (record p { values = vs }) (k, l)
  performs_l (Choose depth body bs other) (u ∷ vs) p k o l = chooses_l depth u.value body bs other (record p { values = vs }) o (k, l)
  performs_l (EndLoop until body) (u ∷ vs) p k o l = ends_loop_l u.value until body (record p { values = vs }) (k, l)
  performs_l Checked (u ∷ vs) p k o l = tests_l cause.Check u.value (record p { values = vs }) (k, l)
  performs_l t [] p k o l = tt

  pub step_at_l : (ts : List Task) (p : Point) → p.tasks ≡ ts → Left p → Leaves (step_at s me ts p)
  step_at_l [] p e l = l
  step_at_l (t ∷ ts) p e l =
      let are : AreOf routine p.text (t ∷ ts) = subst (AreOf routine p.text) e l.1 in performs_l t p.values (record p { tasks = ts }) l.0 are.0 are.1
