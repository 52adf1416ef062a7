-- Values, object tests, calls and creations are the same whatever stands after them.
use Rattle.std.proofs.Common.{◌≡◌, ◌+◌, ℕ, ℤ, List, [], ◌∷◌, ◌++◌, Option, Some, None, Ok, Err, Bool, true, false, refl, sym, ap, append_assoc}
use Rattle.std.specs.Prelude.{if◌then◌else◌, length, nat_lt, ◌==◌}
use Rattle.sc_formula.specs.declared.arithmetic.ArithmeticFault.TheVariants as fault
use Rattle.sc_formula.specs.declared.arithmetic.ArithmeticOperator.{ArithmeticOperator}
use Rattle.sc_formula.specs.declared.comparison.Comparison.{Comparison}
use Rattle.sc_formula.specs.declared.connective.Connective.{Connective}
use Rattle.sc_formula.specs.Arithmetic.{ArithmeticResult, opposite_of, result_of}
use Rattle.sc_tree.specs.declared.expression.UnaryOperator.{UnaryOperator}
use Rattle.sc_tree.specs.declared.expression.UnaryOperator.TheVariants as unary
use Rattle.sc_tree.specs.declared.expression.BinaryOperator.{BinaryOperator}
use Rattle.sc_tree.specs.Plain as tree
use Rattle.sc_tree.specs.Plain.{System, FeatureKind, DeclaredType, Variable}
use Rattle.sc_class.specs.declared.identity.ClassId.{ClassId}
use Rattle.sc_class.specs.declared.identity.ClassId.TheVariants as class
use Rattle.sc_class.specs.Tables.Features.{DeclaredFeature, feature_named}
use Rattle.sc_rules.specs.declared.entity_types.tag.Tag.{Tag}
use Rattle.sc_rules.specs.declared.entity_types.tag.Tag.TheVariants as tag
use Rattle.sc_rules.specs.declared.entity_types.entity_type.EntityType.{EntityType}
use Rattle.sc_rules.specs.Names.{assignee_type, Signature, signature_of, current}
use Rattle.sc_model.specs.declared.cause.Cause.TheVariants as cause
use Rattle.sc_model.specs.Values.{Reference, Value, Integer, Boolean, Void, Attached, Operand}
use Rattle.sc_model.specs.Environments.{Binding, binding_named, handler_named}
use Rattle.sc_model.specs.Objects.{Object, object_numbered, fresh_object}
use Rattle.sc_model.specs.Invariants.{meets_invariant}
use Rattle.sc_model.specs.Operators.{arithmetic_of, comparison_of, connective_of, identity_of}
use Rattle.sc_model.specs.Routines.{place_in, version_of}
use Rattle.sc_model.specs.Limits.{max_objects}
use Rattle.sc_model.specs.Tasks.{Task, AssignTo}
use Rattle.sc_model.specs.Steps.{Point, Step, Goes, fails, gives, comes, reads_as, reads_attribute}
use Rattle.sc_model.specs.Calls.{given_by, passes_rights, enters_unqualified, calls_own, calls_unqualified, calls_kind, calls_version, requests, calls_object, calls_on, calls_qualified}
use Rattle.sc_model.specs.Creations.{creates_object, creates_here, creates_at, creates_as, creates, assigned_at}
use Rattle.sc_model.specs.ObjectTests.{is_tested, binds_if, binds}
use Rattle.sc_model.specs.Expressions.{gives_outcome, gives_truth, apply_unary, apply_to_integers, apply_to_booleans, is_same_object, apply_binary, applies, evals_right, concludes}
use Rattle.sc_machine_laws.specs.Evaluating.{extended, extended_step}

module _ (s : System) (me : Reference) (os : List Operand) (ts : List Task) where
  -- the point, and the step, with more after it
  abbrev X : Point → Point
  X p = extended os ts p

  abbrev XS : Step → Step
  XS st = extended_step os ts st

  pub comes_x : (us : List Task) (p : Point) → comes us (X p) ≡ XS (comes us p)
  comes_x us p = ap (λ l. Goes (record (X p) { tasks = l })) (sym (append_assoc us p.tasks ts))

  if_x : (b : Bool) (x y x' y' : Step) → x ≡ XS x' → y ≡ XS y' → (if b then x else y) ≡ XS (if b then x' else y')
  if_x true x y x' y' e f = e
  if_x false x y x' y' e f = f

  -- ---- values

  pub reads_as_x : (d : EntityType) (v : Value) (t : EntityType) (p : Point) → reads_as d v t (X p) ≡ XS (reads_as d v t p)
  reads_as_x d Void t p = if_x d.attached (fails cause.UnsetEntity (X p)) (gives Void t (X p))
      (fails cause.UnsetEntity p) (gives Void t p) refl refl
  reads_as_x d (Integer z) t p = refl
  reads_as_x d (Boolean b) t p = refl
  reads_as_x d (Attached r) t p = refl

  pub attribute_x : (b : Option Binding) (t : EntityType) (p : Point) → reads_attribute b t (X p) ≡ XS
      (reads_attribute b t p)
  attribute_x None t p = refl
  attribute_x (Some b) t p = reads_as_x t b.value t p

  outcome_x : (o : ArithmeticResult) (p : Point) → gives_outcome o (X p) ≡ XS (gives_outcome o p)
  outcome_x (Ok z) p = refl
  outcome_x (Err fault.Overflow) p = refl
  outcome_x (Err fault.DivideByZero) p = refl

  truth_x : (b : Option Bool) (p : Point) → gives_truth b (X p) ≡ XS (gives_truth b p)
  truth_x None p = refl
  truth_x (Some b) p = refl

  pub unary_x : (op : UnaryOperator) (v : Value) (p : Point) → apply_unary op v (X p) ≡ XS (apply_unary op v p)
  unary_x unary.Minus (Integer z) p = outcome_x (opposite_of z) p
  unary_x unary.Minus (Boolean b) p = refl
  unary_x unary.Minus Void p = refl
  unary_x unary.Minus (Attached r) p = refl
  unary_x unary.Not (Boolean b) p = refl
  unary_x unary.Not (Integer z) p = refl
  unary_x unary.Not Void p = refl
  unary_x unary.Not (Attached r) p = refl
  unary_x unary.Plus (Integer z) p = refl
  unary_x unary.Plus (Boolean b) p = refl
  unary_x unary.Plus Void p = refl
  unary_x unary.Plus (Attached r) p = refl
  unary_x unary.Old v p = refl

  integers_x : (o : Option ArithmeticOperator) (c : Option Comparison) (a b : ℤ) (p : Point) →
      apply_to_integers o c a b (X p) ≡ XS (apply_to_integers o c a b p)
  integers_x (Some o) c a b p = outcome_x (result_of o a b) p
  integers_x None (Some c) a b p = refl
  integers_x None None a b p = refl

  booleans_x : (o : Option Connective) (a b : Bool) (p : Point) → apply_to_booleans o a b (X p) ≡ XS
      (apply_to_booleans o a b p)
  booleans_x (Some o) a b p = refl
  booleans_x None a b p = refl

  binary_x : (op : BinaryOperator) (v w : Value) (p : Point) → apply_binary op v w (X p) ≡ XS (apply_binary op v w p)
  binary_x op (Integer a) (Integer b) p = integers_x (arithmetic_of op) (comparison_of op) a b p
  binary_x op (Boolean a) (Boolean b) p = booleans_x (connective_of op) a b p
  binary_x op (Attached r) (Attached q) p = truth_x (identity_of op (is_same_object r q)) p
  binary_x op (Attached r) Void p = truth_x (identity_of op false) p
  binary_x op Void (Attached q) p = truth_x (identity_of op false) p
  binary_x op Void Void p = truth_x (identity_of op true) p
  binary_x op v w p = refl

  pub applies_x : (op : BinaryOperator) (v : Value) (vs : List Operand) (p : Point) →
      applies op v vs (X p) ≡ XS (applies op v vs p)
  applies_x op v [] p = refl
  applies_x op v (u ∷ vs) p = binary_x op u.value v (record p { values = vs })

  pub right_x : (d : Option Bool) (short : Bool) (op : BinaryOperator) (i : ℕ) (e : tree.Expr) (u : Operand) (p : Point) →
      evals_right d short op i e u (X p) ≡ XS (evals_right d short op i e u p)
  right_x (Some b) short op i e u p = refl
  right_x None true op i e u p = refl
  right_x None false op i e u p = refl

  pub concludes_x : (v : Value) (p : Point) → concludes v (X p) ≡ XS (concludes v p)
  concludes_x (Boolean b) p = refl
  concludes_x v p = refl

  -- ---- object tests

  binds_if_x : (b : Bool) (x : List ℕ) (v : Value) (t : EntityType) (p : Point) → binds_if b x v t (X p) ≡ XS
      (binds_if b x v t p)
  binds_if_x true x v t p = refl
  binds_if_x false x v t p = refl

  pub binds_x : (d : Option DeclaredType) (x : List ℕ) (v : Value) (t : Option EntityType) (p : Point) →
      binds s me.handler d x v t (X p) ≡ XS (binds s me.handler d x v t p)
  binds_x d x v None p = refl
  binds_x d x v (Some t) p = binds_if_x (is_tested s me.handler (handler_named p.environment) v d t) x v t p

  -- ---- calls

  enters_x : (x : List ℕ) (us : List Operand) (g : Option (Option EntityType)) (p : Point) →
      enters_unqualified me x us g (X p) ≡ XS (enters_unqualified me x us g p)
  enters_x x us None p = refl
  enters_x x us (Some g) p = refl

  own_x : (x : List ℕ) (f : Option DeclaredFeature) (us : List Operand) (p : Point) → calls_own s me x f us (X p) ≡ XS
      (calls_own s me x f us p)
  own_x x None us p = refl
  own_x x (Some f) us p = enters_x x us (given_by (signature_of s (current (place_in s p.text)) f).gives) p

  pub unqualified_x : (x : List ℕ) (us : Option (List Operand × List Operand)) (p : Point) → calls_unqualified s me x us
      (X p) ≡ XS (calls_unqualified s me x us p)
  unqualified_x x None p = refl
  unqualified_x x (Some (us, vs)) p = own_x x (feature_named s (class.Declared p.text.class) x) us
      (record p { values = vs })

  kind_x : (r : Reference) (x : List ℕ) (us : List Operand) (g : Option EntityType) (o : Object)
      (k : FeatureKind) (p : Point) →
      calls_kind r x us g o k (X p) ≡ XS (calls_kind r x us g o k p)
  kind_x r x us (Some t) o (tree.Attribute d) p = attribute_x (binding_named x o.attributes) t p
  kind_x r x us None o (tree.Attribute d) p = refl
  kind_x r x us (Some t) o (tree.Routine c) p = refl
  kind_x r x us None o (tree.Routine c) p = refl

  version_x : (r : Reference) (x : List ℕ) (us : List Operand) (g : Option EntityType) (o : Option Object)
      (f : Option DeclaredFeature) (p : Point) →
      calls_version r x us g o f (X p) ≡ XS (calls_version r x us g o f p)
  version_x r x us g (Some o) (Some f) p = kind_x r x us g o f.feature.kind p
  version_x r x us g (Some o) None p = refl
  version_x r x us g None f p = refl

  requests_x : (r : Reference) (t : Tag) (x : List ℕ) (us : List Operand) (g : Option EntityType)
      (b : Bool) (p : Point) →
      requests r t x us g b (X p) ≡ XS (requests r t x us g b p)
  requests_x r tag.Own x us g b p = refl
  requests_x r (tag.With y) x us g b p = refl
  requests_x r tag.Any x us g b p = refl
  requests_x r tag.None x us g b p = refl

  object_x : (r : Reference) (t : EntityType) (x : List ℕ) (us : List Operand) (g : Signature)
      (gives : Option (Option EntityType)) (p : Point) →
      calls_object s me r t x us g gives (X p) ≡ XS (calls_object s me r t x us g gives p)
  object_x r t x us g None p = refl
  object_x r t x us g (Some gives) p =
      if_x (r.handler == me.handler)
      (calls_version r x us gives (object_numbered r.number p.objects) (version_of s r.class x) (X p))
      (requests r t.tag x us gives (passes_rights g.formals us) (X p))
      (calls_version r x us gives (object_numbered r.number p.objects) (version_of s r.class x) p)
      (requests r t.tag x us gives (passes_rights g.formals us) p)
      (version_x r x us gives (object_numbered r.number p.objects) (version_of s r.class x) p)
      (requests_x r t.tag x us gives (passes_rights g.formals us) p)

  on_value_x : (x : List ℕ) (v : Value) (t : EntityType) (f : Option DeclaredFeature) (us : List Operand) (p : Point) →
      calls_on s me x v t f us (X p) ≡ XS (calls_on s me x v t f us p)
  on_value_x x Void t f us p = refl
  on_value_x x (Integer z) t f us p = refl
  on_value_x x (Boolean b) t f us p = refl
  on_value_x x (Attached r) t None us p = refl
  on_value_x x (Attached r) t (Some f) us p = object_x r t x us (signature_of s t f)
      (given_by (signature_of s t f).gives) p

  pub qualified_x : (x : List ℕ) (us : Option (List Operand × List Operand)) (p : Point) →
      calls_qualified s me x us (X p) ≡ XS (calls_qualified s me x us p)
  qualified_x x None p = refl
  qualified_x x (Some (us, [])) p = refl
  qualified_x x (Some (us, v ∷ vs)) p = on_value_x x v.value v.type (feature_named s v.type.class x) us
      (record p { values = vs })

  -- ---- creations

  made_x : (r : Reference) (t : EntityType) (call : Option (List ℕ)) (us : List Operand) (p : Point) →
      creates_object s r t call us (X p) ≡ XS (creates_object s r t call us p)
  made_x r t (Some x) us p = refl
  made_x r t None us p = if_x (meets_invariant s (fresh_object s r.class)) _ _ _ _ refl refl

  here_x : (k : ℕ) (t : EntityType) (call : Option (List ℕ)) (us : List Operand) (p : Point) →
      creates_here s me k t call us (X p) ≡ XS (creates_here s me k t call us p)
  here_x k t call us p = if_x (nat_lt (length p.objects) max_objects) _ _ _ _
      (made_x (record { handler = me.handler; number = length p.objects + 1; class = k }) t call us
      (record p { objects = p.objects ++ fresh_object s k ∷ [] })) refl

  creates_at_x : (call : Option (List ℕ)) (t : EntityType) (g : Tag) (c : ClassId) (us : List Operand) (p : Point) →
      creates_at s me call t g c us (X p) ≡ XS (creates_at s me call t g c us p)
  creates_at_x call t tag.Own (class.Declared k) us p = here_x k t call us p
  creates_at_x call t tag.Any (class.Declared k) us p = refl
  creates_at_x call t g c us p = refl

  creates_as_x : (call : Option (List ℕ)) (t : Option EntityType) (us : List Operand) (p : Point) →
      creates_as s me call t us (X p) ≡ XS (creates_as s me call t us p)
  creates_as_x call None us p = refl
  creates_as_x call (Some t) us p = creates_at_x call t t.tag t.class us p

  pub creates_x : (v : Variable) (call : Option (List ℕ)) (us : Option (List Operand × List Operand)) (p : Point) →
      creates s me v call us (X p) ≡ XS (creates s me v call us p)
  creates_x v call None p = refl
  creates_x v call (Some (us, vs)) p = creates_as_x call (assignee_type (assigned_at s v p)) us
      (record p { tasks = AssignTo v ∷ p.tasks; values = vs })
