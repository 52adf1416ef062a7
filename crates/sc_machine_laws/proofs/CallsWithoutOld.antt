-- Values, object tests, calls and creations without `old` leave tasks without it.
use Rattle.std.proofs.Common.{arith, ◌≡◌, ◌+◌, ℕ, ℤ, List, [], ◌∷◌, ◌++◌, Option, Some, None, Ok, Err, Bool, true, false, refl}
use Rattle.std.specs.Prelude.{if◌then◌else◌, length, nat_lt, ◌==◌}
use Rattle.sc_formula.specs.declared.arithmetic.ArithmeticFault.TheVariants as fault
use Rattle.sc_formula.specs.declared.arithmetic.ArithmeticOperator.{ArithmeticOperator}
use Rattle.sc_formula.specs.declared.comparison.Comparison.{Comparison}
use Rattle.sc_formula.specs.declared.connective.Connective.{Connective}
use Rattle.sc_formula.specs.Arithmetic.{ArithmeticResult, opposite_of, result_of}
use Rattle.sc_tree.specs.declared.expression.UnaryOperator.{UnaryOperator}
use Rattle.sc_tree.specs.declared.expression.UnaryOperator.TheVariants as unary
use Rattle.sc_tree.specs.declared.expression.BinaryOperator.{BinaryOperator}
use Rattle.sc_tree.specs.Plain as tree
use Rattle.sc_tree.specs.Plain.{System, FeatureKind, DeclaredType, Clause, Head, Variable, Exprs, no_exprs, expr_then}
use Rattle.sc_class.specs.declared.identity.ClassId.{ClassId}
use Rattle.sc_class.specs.declared.identity.ClassId.TheVariants as class
use Rattle.sc_class.specs.Tables.Features.{DeclaredFeature, feature_named}
use Rattle.sc_rules.specs.declared.entity_types.tag.Tag.{Tag}
use Rattle.sc_rules.specs.declared.entity_types.tag.Tag.TheVariants as tag
use Rattle.sc_rules.specs.declared.entity_types.entity_type.EntityType.{EntityType}
use Rattle.sc_rules.specs.Names.{assignee_type, Signature, signature_of, current}
use Rattle.sc_model.specs.declared.cause.Cause.TheVariants as cause
use Rattle.sc_model.specs.Values.{Reference, Value, Integer, Boolean, Void, Attached, Operand}
use Rattle.sc_model.specs.Environments.{Binding, binding_named, handler_named}
use Rattle.sc_model.specs.Objects.{Object, object_numbered, fresh_object}
use Rattle.sc_model.specs.Invariants.{meets_invariant}
use Rattle.sc_model.specs.Operators.{arithmetic_of, comparison_of, connective_of, identity_of}
use Rattle.sc_model.specs.Routines.{place_in, version_of}
use Rattle.sc_model.specs.Olds.{olds_in, olds_of, olds_of_each}
use Rattle.sc_model.specs.Limits.{max_objects}
use Rattle.sc_model.specs.Tasks.{Task, AssignTo, evals, head_evals, checks}
use Rattle.sc_model.specs.Steps.{Point, Step, fails, gives, reads_as, reads_attribute}
use Rattle.sc_model.specs.Calls.{given_by, passes_rights, enters_unqualified, calls_own, calls_unqualified, calls_kind, calls_version, requests, calls_object, calls_on, calls_qualified}
use Rattle.sc_model.specs.Creations.{creates_object, creates_here, creates_at, creates_as, creates, assigned_at}
use Rattle.sc_model.specs.ObjectTests.{is_tested, binds_if, binds}
use Rattle.sc_model.specs.Expressions.{gives_outcome, gives_truth, apply_unary, apply_to_integers, apply_to_booleans, is_same_object, apply_binary, applies, evals_right, concludes}
use Rattle.sc_machine_laws.specs.ClauseLaws.{point_after}
use Rattle.sc_machine_laws.specs.states.Points.{Each}
use Rattle.sc_machine_laws.proofs.states.Lists.{each_append}
use Rattle.sc_machine_laws.specs.Texts.{HasNoOld, HaveNoOld, ClauseHasNoOld, HeadHasNoOld, TaskHasNoOld}

pub left_none : {A : Type 0} (xs ys : List A) → length (xs ++ ys) ≡ 0 → length xs ≡ 0
left_none [] ys e = refl
left_none (x ∷ xs) ys e = absurd (omega (arith, e))

pub right_none : {A : Type 0} (xs ys : List A) → length (xs ++ ys) ≡ 0 → length ys ≡ 0
right_none [] ys e = e
right_none (x ∷ xs) ys e = absurd (omega (arith, e))

-- ---- tasks that constructs set out

pub evals_without_old : (i : ℕ) (es : Exprs) → HaveNoOld es → Each TaskHasNoOld (evals i es)
evals_without_old i no_exprs o = tt
evals_without_old i (expr_then e es) o = (
  left_none (olds_of e) (olds_of_each es) o,
  evals_without_old (i + olds_in e) es
      (right_none (olds_of e) (olds_of_each es) o),
)

pub heads_without_old : (ds : List Head) → Each HeadHasNoOld ds → Each TaskHasNoOld (head_evals ds)
heads_without_old [] o = tt
heads_without_old (d ∷ ds) o = (o.0, heads_without_old ds o.1)

pub checks_without_old : (ks : List Clause) → Each ClauseHasNoOld ks → Each TaskHasNoOld (checks ks)
checks_without_old [] o = tt
checks_without_old (k ∷ ks) o = (o.0, (tt, checks_without_old ks o.1))

-- these, one more, and the others
pub behind_these : (us : List Task) (t : Task) (ts : List Task) → Each TaskHasNoOld us → TaskHasNoOld t → Each TaskHasNoOld ts →
    Each TaskHasNoOld ((us ++ t ∷ []) ++ ts)
behind_these us t ts o a l = each_append TaskHasNoOld (us ++ t ∷ []) ts (each_append TaskHasNoOld us (t ∷ []) o (a, tt)) l

module _ (s : System) (me : Reference) where
  abbrev Left : Point → Type 0
  Left p = Each TaskHasNoOld p.tasks

  abbrev Leaves : Step → Type 0
  Leaves st = Each TaskHasNoOld (point_after st).tasks

  if_l : (b : Bool) (x y : Step) → Leaves x → Leaves y → Leaves (if b then x else y)
  if_l true x y h k = h
  if_l false x y h k = k

  -- ---- values

  pub reads_as_l : (d : EntityType) (v : Value) (t : EntityType) (p : Point) → Left p → Leaves (reads_as d v t p)
  reads_as_l d Void t p l = if_l d.attached (fails cause.UnsetEntity p) (gives Void t p) tt l
  reads_as_l d (Integer z) t p l = l
  reads_as_l d (Boolean b) t p l = l
  reads_as_l d (Attached r) t p l = l

  pub attribute_l : (b : Option Binding) (t : EntityType) (p : Point) → Left p → Leaves (reads_attribute b t p)
  attribute_l None t p l = tt
  attribute_l (Some b) t p l = reads_as_l t b.value t p l

  outcome_l : (o : ArithmeticResult) (p : Point) → Left p → Leaves (gives_outcome o p)
  outcome_l (Ok z) p l = l
  outcome_l (Err fault.Overflow) p l = tt
  outcome_l (Err fault.DivideByZero) p l = tt

  truth_l : (b : Option Bool) (p : Point) → Left p → Leaves (gives_truth b p)
  truth_l None p l = tt
  truth_l (Some b) p l = l

  pub unary_l : (op : UnaryOperator) (v : Value) (p : Point) → Left p → Leaves (apply_unary op v p)
  unary_l unary.Minus (Integer z) p l = outcome_l (opposite_of z) p l
  unary_l unary.Minus (Boolean b) p l = tt
  unary_l unary.Minus Void p l = tt
  unary_l unary.Minus (Attached r) p l = tt
  unary_l unary.Not (Boolean b) p l = l
  unary_l unary.Not (Integer z) p l = tt
  unary_l unary.Not Void p l = tt
  unary_l unary.Not (Attached r) p l = tt
  unary_l unary.Plus (Integer z) p l = l
  unary_l unary.Plus (Boolean b) p l = tt
  unary_l unary.Plus Void p l = tt
  unary_l unary.Plus (Attached r) p l = tt
  unary_l unary.Old v p l = tt

  integers_l : (o : Option ArithmeticOperator) (c : Option Comparison) (a b : ℤ) (p : Point) → Left p →
      Leaves (apply_to_integers o c a b p)
  integers_l (Some o) c a b p l = outcome_l (result_of o a b) p l
  integers_l None (Some c) a b p l = l
  integers_l None None a b p l = tt

  booleans_l : (o : Option Connective) (a b : Bool) (p : Point) → Left p → Leaves (apply_to_booleans o a b p)
  booleans_l (Some o) a b p l = l
  booleans_l None a b p l = tt

  binary_l : (op : BinaryOperator) (v w : Value) (p : Point) → Left p → Leaves (apply_binary op v w p)
  binary_l op (Integer a) (Integer b) p l = integers_l (arithmetic_of op) (comparison_of op) a b p l
  binary_l op (Boolean a) (Boolean b) p l = booleans_l (connective_of op) a b p l
  binary_l op (Attached r) (Attached q) p l = truth_l (identity_of op (is_same_object r q)) p l
  binary_l op (Attached r) Void p l = truth_l (identity_of op false) p l
  binary_l op Void (Attached q) p l = truth_l (identity_of op false) p l
  binary_l op Void Void p l = truth_l (identity_of op true) p l
  binary_l op v w p l = tt

  pub applies_l : (op : BinaryOperator) (v : Value) (vs : List Operand) (p : Point) → Left p → Leaves (applies op v vs p)
  applies_l op v [] p l = tt
  applies_l op v (u ∷ vs) p l = binary_l op u.value v (record p { values = vs }) l

  pub right_l : (d : Option Bool) (short : Bool) (op : BinaryOperator) (i : ℕ) (e : tree.Expr) (u : Operand) (p : Point) →
      HasNoOld e → Left p →
      Leaves (evals_right d short op i e u p)
  right_l (Some b) short op i e u p o l = l
  right_l None true op i e u p o l = (o, (tt, l))
  right_l None false op i e u p o l = (o, (tt, l))

  pub concludes_l : (v : Value) (p : Point) → Left p → Leaves (concludes v p)
  concludes_l (Boolean b) p l = l
  concludes_l v p l = tt

  -- ---- object tests

  binds_if_l : (b : Bool) (x : List ℕ) (v : Value) (t : EntityType) (p : Point) → Left p → Leaves (binds_if b x v t p)
  binds_if_l true x v t p l = l
  binds_if_l false x v t p l = l

  pub binds_l : (d : Option DeclaredType) (x : List ℕ) (v : Value) (t : Option EntityType) (p : Point) → Left p →
      Leaves (binds s me.handler d x v t p)
  binds_l d x v None p l = tt
  binds_l d x v (Some t) p l = binds_if_l (is_tested s me.handler (handler_named p.environment) v d t) x v t p l

  -- ---- calls

  enters_l : (x : List ℕ) (us : List Operand) (g : Option (Option EntityType)) (p : Point) → Left p →
      Leaves (enters_unqualified me x us g p)
  enters_l x us None p l = tt
  enters_l x us (Some g) p l = l

  own_l : (x : List ℕ) (f : Option DeclaredFeature) (us : List Operand) (p : Point) → Left p →
      Leaves (calls_own s me x f us p)
  own_l x None us p l = tt
  own_l x (Some f) us p l = enters_l x us (given_by (signature_of s (current (place_in s p.text)) f).gives) p l

  pub unqualified_l : (x : List ℕ) (us : Option (List Operand × List Operand)) (p : Point) → Left p →
      Leaves (calls_unqualified s me x us p)
  unqualified_l x None p l = tt
  unqualified_l x (Some (us, vs)) p l = own_l x (feature_named s (class.Declared p.text.class) x) us
      (record p { values = vs }) l

  kind_l : (r : Reference) (x : List ℕ) (us : List Operand) (g : Option EntityType) (o : Object) (k : FeatureKind)
      (p : Point) → Left p →
      Leaves (calls_kind r x us g o k p)
  kind_l r x us (Some t) o (tree.Attribute d) p l = attribute_l (binding_named x o.attributes) t p l
  kind_l r x us None o (tree.Attribute d) p l = tt
  kind_l r x us (Some t) o (tree.Routine c) p l = l
  kind_l r x us None o (tree.Routine c) p l = l

  version_l : (r : Reference) (x : List ℕ) (us : List Operand) (g : Option EntityType) (o : Option Object)
      (f : Option DeclaredFeature) (p : Point) → Left p →
      Leaves (calls_version r x us g o f p)
  version_l r x us g (Some o) (Some f) p l = kind_l r x us g o f.feature.kind p l
  version_l r x us g (Some o) None p l = tt
  version_l r x us g None f p l = tt

  requests_l : (r : Reference) (t : Tag) (x : List ℕ) (us : List Operand) (g : Option EntityType) (b : Bool)
      (p : Point) → Left p →
      Leaves (requests r t x us g b p)
  requests_l r tag.Own x us g b p l = tt
  requests_l r (tag.With y) x us g b p l = l
  requests_l r tag.Any x us g b p l = l
  requests_l r tag.None x us g b p l = l

  object_l : (r : Reference) (t : EntityType) (x : List ℕ) (us : List Operand) (g : Signature)
      (gives : Option (Option EntityType)) (p : Point) → Left p →
      Leaves (calls_object s me r t x us g gives p)
  object_l r t x us g None p l = tt
  object_l r t x us g (Some gives) p l =
      if_l (r.handler == me.handler)
      (calls_version r x us gives (object_numbered r.number p.objects) (version_of s r.class x) p)
      (requests r t.tag x us gives (passes_rights g.formals us) p)
      (version_l r x us gives (object_numbered r.number p.objects) (version_of s r.class x) p l)
      (requests_l r t.tag x us gives (passes_rights g.formals us) p l)

  on_value_l : (x : List ℕ) (v : Value) (t : EntityType) (f : Option DeclaredFeature) (us : List Operand)
      (p : Point) → Left p →
      Leaves (calls_on s me x v t f us p)
  on_value_l x Void t f us p l = tt
  on_value_l x (Integer z) t f us p l = tt
  on_value_l x (Boolean b) t f us p l = tt
  on_value_l x (Attached r) t None us p l = tt
  on_value_l x (Attached r) t (Some f) us p l = object_l r t x us (signature_of s t f)
      (given_by (signature_of s t f).gives) p l

  pub qualified_l : (x : List ℕ) (us : Option (List Operand × List Operand)) (p : Point) → Left p →
      Leaves (calls_qualified s me x us p)
  qualified_l x None p l = tt
  qualified_l x (Some (us, [])) p l = tt
  qualified_l x (Some (us, v ∷ vs)) p l = on_value_l x v.value v.type (feature_named s v.type.class x) us
      (record p { values = vs }) l

  -- ---- creations

  made_l : (r : Reference) (t : EntityType) (call : Option (List ℕ)) (us : List Operand) (p : Point) → Left p →
      Leaves (creates_object s r t call us p)
  made_l r t (Some x) us p l = l
  made_l r t None us p l = if_l (meets_invariant s (fresh_object s r.class)) _ (fails cause.Invariant p) l tt

  here_l : (k : ℕ) (t : EntityType) (call : Option (List ℕ)) (us : List Operand) (p : Point) → Left p →
      Leaves (creates_here s me k t call us p)
  here_l k t call us p l = if_l (nat_lt (length p.objects) max_objects) _ (fails cause.TooManyObjects p)
      (made_l (record { handler = me.handler; number = length p.objects + 1; class = k }) t call us
      (record p { objects = p.objects ++ fresh_object s k ∷ [] }) l) tt

  creates_at_l : (call : Option (List ℕ)) (t : EntityType) (g : Tag) (c : ClassId) (us : List Operand)
      (p : Point) → Left p →
      Leaves (creates_at s me call t g c us p)
  creates_at_l call t tag.Own (class.Declared k) us p l = here_l k t call us p l
  creates_at_l call t tag.Any (class.Declared k) us p l = l
  creates_at_l call t g c us p l = tt

  creates_as_l : (call : Option (List ℕ)) (t : Option EntityType) (us : List Operand) (p : Point) → Left p →
      Leaves (creates_as s me call t us p)
  creates_as_l call None us p l = tt
  creates_as_l call (Some t) us p l = creates_at_l call t t.tag t.class us p l

  pub creates_l : (v : Variable) (call : Option (List ℕ)) (us : Option (List Operand × List Operand)) (p : Point) → Left p →
      Leaves (creates s me v call us p)
  creates_l v call None p l = tt
  creates_l v call (Some (us, vs)) p l =
      creates_as_l call (assignee_type (assigned_at s v p)) us
      (record p { tasks = AssignTo v ∷ p.tasks; values = vs }) (tt, l)
