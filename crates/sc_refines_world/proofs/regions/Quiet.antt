-- What calls, creations and expressions do in a point ends no routine, and no clause is found false there.
use Rattle.std.proofs.Common.{◌≡◌, ℕ, ℤ, ◌+◌, List, [], ◌∷◌, ◌++◌, Option, Some, None, Ok, Err, Bool, true, false}
use Rattle.std.specs.Prelude.{if◌then◌else◌, slice_get, ◌==◌, length, nat_lt}
use Rattle.sc_formula.specs.declared.arithmetic.ArithmeticFault.TheVariants as fault
use Rattle.sc_formula.specs.declared.arithmetic.ArithmeticOperator.{ArithmeticOperator}
use Rattle.sc_formula.specs.declared.comparison.Comparison.{Comparison}
use Rattle.sc_formula.specs.declared.connective.Connective.{Connective}
use Rattle.sc_formula.specs.Arithmetic.{ArithmeticResult, opposite_of, result_of}
use Rattle.sc_tree.specs.declared.expression.UnaryOperator.{UnaryOperator}
use Rattle.sc_tree.specs.declared.expression.UnaryOperator.TheVariants as unary
use Rattle.sc_tree.specs.declared.expression.BinaryOperator.{BinaryOperator}
use Rattle.sc_tree.specs.Plain as tree
use Rattle.sc_tree.specs.Plain.{System, FeatureKind, DeclaredType, Clause, Variable, Exprs, Instrs}
use Rattle.sc_class.specs.declared.identity.ClassId.{ClassId}
use Rattle.sc_class.specs.declared.identity.ClassId.TheVariants as class
use Rattle.sc_class.specs.Tables.Features.{DeclaredFeature, feature_named}
use Rattle.sc_rules.specs.declared.entity_types.tag.Tag.{Tag}
use Rattle.sc_rules.specs.declared.entity_types.tag.Tag.TheVariants as tag
use Rattle.sc_rules.specs.declared.entity_types.entity_type.EntityType.{EntityType}
use Rattle.sc_rules.specs.Names.{assignee_type, Signature, signature_of, current, given_type}
use Rattle.sc_model.specs.declared.cause.Cause.TheVariants as cause
use Rattle.sc_model.specs.Values.{Reference, Value, Integer, Boolean, Void, Attached, Operand}
use Rattle.sc_model.specs.Environments.{Binding, binding_named, handler_named}
use Rattle.sc_model.specs.Objects.{Object, object_numbered, attributes_of, fresh_object}
use Rattle.sc_model.specs.Invariants.{meets_invariant}
use Rattle.sc_model.specs.Operators.{arithmetic_of, comparison_of, connective_of, identity_of}
use Rattle.sc_model.specs.Routines.{place_in, version_of}
use Rattle.sc_model.specs.Limits.{max_objects}
use Rattle.sc_model.specs.Tasks.{Task, Do, Eval, AssignTo, Leave, evals}
use Rattle.sc_model.specs.Steps.{Point, Act, Exits, Opens, Refuses, Step, Goes, Does, fails, comes, gives, reads_as, reads_attribute}
use Rattle.sc_model.specs.Calls.{given_by, passes_rights, enters_unqualified, calls_own, calls_unqualified, calls_kind, calls_version, requests, calls_object, calls_on, calls_qualified}
use Rattle.sc_model.specs.Creations.{creates_object, creates_here, creates_at, creates_as, creates, assigned_at}
use Rattle.sc_model.specs.ObjectTests.{is_tested, binds_if, binds}
use Rattle.sc_model.specs.Expressions.{gives_outcome, gives_truth, apply_unary, apply_to_integers, apply_to_booleans, is_same_object, apply_binary, applies, evals_right, concludes, gives_found, reads_result, reads_own, begins_kind, begins_feature, begins_name, evaluate}

-- The entities of a point, and its Result, are those of another one.
abbrev pub IsLike : Point → Point → Type 0
IsLike o p = (p.environment ≡ o.environment) × (p.result ≡ o.result)

-- A separate block begins: its body comes next, and at its end the entities of the first point are left.
pub record IsOpened (o p : Point) : Type 0 where
  pub body : Instrs
  pub rest : List Task
  pub tasks : p.tasks ≡ Do body ∷ Leave (length o.environment) ∷ rest

-- No routine ends, a clause that is found false leaves the entities of the first point, and a separate block that begins comes next.
unfoldable pub Quiet : Point → Step → Type 0
Quiet o (Goes p) = Unit {0}
Quiet o (Does Exits p) = ⊥
Quiet o (Does (Refuses k) p) = IsLike o p
Quiet o (Does Opens p) = IsOpened o p
Quiet o (Does a p) = Unit {0}

pub act_is : (a : Act) (p q : Point) → Does a p ≡ Does Exits q → a ≡ Exits
act_is a p q e = cc

pub point_is : (a b : Act) (p q : Point) → Does a p ≡ Does b q → p ≡ q
point_is a b p q e = cc

pub no_refusal : {A : Type 0} (k : Clause) (p q : Point) → Does Exits p ≡ Does (Refuses k) q → A
no_refusal k p q e = cc

module _ (point : Point) where
  pub comes_quiet : (n : ℕ) (ts : List Task) (p : Point) → Unit {0} → Quiet point (comes ts p)
  unfolding Quiet
  comes_quiet n ts p h = tt

  evals_quiet : (n i : ℕ) (es : Exprs) (t : Task) (p : Point) → Unit {0} → Quiet point (comes (evals i es ++ t ∷ []) p)
  evals_quiet n i es t p h = comes_quiet n (evals i es ++ t ∷ []) p h

  target_quiet : (n i j : ℕ) (a : tree.Expr) (es : Exprs) (t : Task) (p : Point) → Unit {0} → Quiet point (comes (Eval i a ∷ evals j es ++ t ∷ []) p)
  target_quiet n i j a es t p h = comes_quiet n (Eval i a ∷ evals j es ++ t ∷ []) p h

  if_quiet : (n : ℕ) (b : Bool) (x y : Step) → Quiet point x → Quiet point y → Quiet point (if b then x else y)
  if_quiet n true x y h k = h
  if_quiet n false x y h k = k

  -- ---- values

  reads_as_quiet : (n : ℕ) (d : EntityType) (v : Value) (t : EntityType) (p : Point) → Unit {0} → Quiet point (reads_as d v t p)
  unfolding Quiet
  reads_as_quiet n d Void t p h = if_quiet n d.attached (fails cause.UnsetEntity p) (gives Void t p) tt h
  reads_as_quiet n d (Integer z) t p h = h
  reads_as_quiet n d (Boolean b) t p h = h
  reads_as_quiet n d (Attached r) t p h = h

  attribute_quiet : (n : ℕ) (b : Option Binding) (t : EntityType) (p : Point) → Unit {0} → Quiet point (reads_attribute b t p)
  unfolding Quiet
  attribute_quiet n None t p h = tt
  attribute_quiet n (Some b) t p h = reads_as_quiet n t b.value t p h

  outcome_quiet : (n : ℕ) (o : ArithmeticResult) (p : Point) → Unit {0} → Quiet point (gives_outcome o p)
  unfolding Quiet
  outcome_quiet n (Ok z) p h = h
  outcome_quiet n (Err fault.Overflow) p h = tt
  outcome_quiet n (Err fault.DivideByZero) p h = tt

  truth_quiet : (n : ℕ) (b : Option Bool) (p : Point) → Unit {0} → Quiet point (gives_truth b p)
  unfolding Quiet
  truth_quiet n None p h = tt
  truth_quiet n (Some b) p h = h

  pub unary_quiet : (n : ℕ) (op : UnaryOperator) (v : Value) (p : Point) → Unit {0} → Quiet point (apply_unary op v p)
  unfolding Quiet
  unary_quiet n unary.Not (Boolean b) p h = h
  unary_quiet n unary.Plus (Integer z) p h = h
  unary_quiet n unary.Minus (Integer z) p h = outcome_quiet n (opposite_of z) p h
  unary_quiet n unary.Not (Integer z) p h = tt
  unary_quiet n unary.Not Void p h = tt
  unary_quiet n unary.Not (Attached r) p h = tt
  unary_quiet n unary.Plus (Boolean b) p h = tt
  unary_quiet n unary.Plus Void p h = tt
  unary_quiet n unary.Plus (Attached r) p h = tt
  unary_quiet n unary.Minus (Boolean b) p h = tt
  unary_quiet n unary.Minus Void p h = tt
  unary_quiet n unary.Minus (Attached r) p h = tt
  unary_quiet n unary.Old v p h = tt

  integers_quiet : (n : ℕ) (o : Option ArithmeticOperator) (c : Option Comparison) (a b : ℤ) (p : Point) → Unit {0} → Quiet point (apply_to_integers o c a b p)
  unfolding Quiet
  integers_quiet n (Some o) c a b p h = outcome_quiet n (result_of o a b) p h
  integers_quiet n None (Some c) a b p h = h
  integers_quiet n None None a b p h = tt

  booleans_quiet : (n : ℕ) (o : Option Connective) (a b : Bool) (p : Point) → Unit {0} → Quiet point (apply_to_booleans o a b p)
  unfolding Quiet
  booleans_quiet n (Some o) a b p h = h
  booleans_quiet n None a b p h = tt

  binary_quiet : (n : ℕ) (op : BinaryOperator) (v w : Value) (p : Point) → Unit {0} → Quiet point (apply_binary op v w p)
  unfolding Quiet
  binary_quiet n op (Integer a) (Integer b) p h = integers_quiet n (arithmetic_of op) (comparison_of op) a b p h
  binary_quiet n op (Boolean a) (Boolean b) p h = booleans_quiet n (connective_of op) a b p h
  binary_quiet n op (Attached r) (Attached q) p h = truth_quiet n (identity_of op (is_same_object r q)) p h
  binary_quiet n op (Attached r) Void p h = truth_quiet n (identity_of op false) p h
  binary_quiet n op Void (Attached q) p h = truth_quiet n (identity_of op false) p h
  binary_quiet n op Void Void p h = truth_quiet n (identity_of op true) p h
  binary_quiet n op (Integer a) (Boolean b) p h = tt
  binary_quiet n op (Integer a) Void p h = tt
  binary_quiet n op (Integer a) (Attached q) p h = tt
  binary_quiet n op (Boolean a) (Integer b) p h = tt
  binary_quiet n op (Boolean a) Void p h = tt
  binary_quiet n op (Boolean a) (Attached q) p h = tt
  binary_quiet n op (Attached r) (Integer b) p h = tt
  binary_quiet n op (Attached r) (Boolean b) p h = tt
  binary_quiet n op Void (Integer b) p h = tt
  binary_quiet n op Void (Boolean b) p h = tt

  pub applies_quiet : (n : ℕ) (op : BinaryOperator) (v : Value) (vs : List Operand) (p : Point) → Unit {0} → Quiet point (applies op v vs p)
  unfolding Quiet
  applies_quiet n op v [] p h = tt
  applies_quiet n op v (u ∷ vs) p h = binary_quiet n op u.value v (record p { values = vs }) h

  pub right_quiet : (d : Option Bool) (short : Bool) (op : BinaryOperator) (i : ℕ) (e : tree.Expr) (u : Operand) (p : Point) → Quiet point (evals_right d short op i e u p)
  unfolding Quiet
  right_quiet (Some b) short op i e u p = tt
  right_quiet None true op i e u p = tt
  right_quiet None false op i e u p = tt

  pub concludes_quiet : (n : ℕ) (v : Value) (p : Point) → Unit {0} → Quiet point (concludes v p)
  unfolding Quiet
  concludes_quiet n (Boolean b) p h = h
  concludes_quiet n (Integer z) p h = tt
  concludes_quiet n Void p h = tt
  concludes_quiet n (Attached r) p h = tt

  -- ---- object tests

  binds_if_quiet : (n : ℕ) (b : Bool) (x : List ℕ) (v : Value) (t : EntityType) (p : Point) → Unit {0} → Quiet point (binds_if b x v t p)
  unfolding Quiet
  binds_if_quiet n true x v t p h = h
  binds_if_quiet n false x v t p h = h

  pub binds_quiet : (n : ℕ) (s : System) (me : ℕ) (d : Option DeclaredType) (x : List ℕ) (v : Value) (t : Option EntityType) (p : Point) → Unit {0} → Quiet point (binds s me d x v t p)
  unfolding Quiet
  binds_quiet n s me d x v None p h = tt
  binds_quiet n s me d x v (Some t) p h = binds_if_quiet n (is_tested s me (handler_named p.environment) v d t) x v t p h

  -- ---- calls

  enters_quiet : (n : ℕ) (me : Reference) (x : List ℕ) (us : List Operand) (g : Option (Option EntityType)) (p : Point) → Quiet point (enters_unqualified me x us g p)
  unfolding Quiet
  enters_quiet n me x us None p = tt
  enters_quiet n me x us (Some g) p = tt

  own_quiet : (n : ℕ) (s : System) (me : Reference) (x : List ℕ) (f : Option DeclaredFeature) (us : List Operand) (p : Point) → Quiet point (calls_own s me x f us p)
  unfolding Quiet
  own_quiet n s me x None us p = tt
  own_quiet n s me x (Some f) us p = enters_quiet n me x us (given_by (signature_of s (current (place_in s p.text)) f).gives) p

  pub unqualified_quiet : (n : ℕ) (s : System) (me : Reference) (x : List ℕ) (us : Option (List Operand × List Operand)) (p : Point) → Quiet point (calls_unqualified s me x us p)
  unfolding Quiet
  unqualified_quiet n s me x None p = tt
  unqualified_quiet n s me x (Some (us, vs)) p = own_quiet n s me x (feature_named s (class.Declared p.text.class) x) us (record p { values = vs })

  kind_quiet : (n : ℕ) (r : Reference) (x : List ℕ) (us : List Operand) (g : Option EntityType) (o : Object) (k : FeatureKind) (p : Point) → Unit {0} → Quiet point (calls_kind r x us g o k p)
  unfolding Quiet
  kind_quiet n r x us (Some t) o (tree.Attribute d) p h = attribute_quiet n (binding_named x o.attributes) t p h
  kind_quiet n r x us None o (tree.Attribute d) p h = tt
  kind_quiet n r x us (Some t) o (tree.Routine c) p h = tt
  kind_quiet n r x us None o (tree.Routine c) p h = tt

  version_quiet : (n : ℕ) (r : Reference) (x : List ℕ) (us : List Operand) (g : Option EntityType) (o : Option Object) (f : Option DeclaredFeature) (p : Point) → Unit {0} → Quiet point (calls_version r x us g o f p)
  unfolding Quiet
  version_quiet n r x us g (Some o) (Some f) p h = kind_quiet n r x us g o f.feature.kind p h
  version_quiet n r x us g (Some o) None p h = tt
  version_quiet n r x us g None f p h = tt

  requests_quiet : (n : ℕ) (r : Reference) (t : Tag) (x : List ℕ) (us : List Operand) (g : Option EntityType) (b : Bool) (p : Point) → Quiet point (requests r t x us g b p)
  unfolding Quiet
  requests_quiet n r tag.Own x us g b p = tt
  requests_quiet n r (tag.With y) x us g b p = tt
  requests_quiet n r tag.Any x us g b p = tt
  requests_quiet n r tag.None x us g b p = tt

  object_quiet : (n : ℕ) (s : System) (me r : Reference) (t : EntityType) (x : List ℕ) (us : List Operand) (g : Signature) (gives : Option (Option EntityType)) (p : Point) → Unit {0} → Quiet point (calls_object s me r t x us g gives p)
  unfolding Quiet
  object_quiet n s me r t x us g None p h = tt
  object_quiet n s me r t x us g (Some gives) p h =
      if_quiet n (r.handler == me.handler) (calls_version r x us gives (object_numbered r.number p.objects) (version_of s r.class x) p) (requests r t.tag x us gives (passes_rights g.formals us) p)
      (version_quiet n r x us gives (object_numbered r.number p.objects) (version_of s r.class x) p h)
      (requests_quiet n r t.tag x us gives (passes_rights g.formals us) p)

  on_value_quiet : (n : ℕ) (s : System) (me : Reference) (x : List ℕ) (v : Value) (t : EntityType) (f : Option DeclaredFeature) (us : List Operand) (p : Point) → Unit {0} → Quiet point (calls_on s me x v t f us p)
  unfolding Quiet
  on_value_quiet n s me x Void t f us p h = tt
  on_value_quiet n s me x (Integer z) t f us p h = tt
  on_value_quiet n s me x (Boolean b) t f us p h = tt
  on_value_quiet n s me x (Attached r) t None us p h = tt
  on_value_quiet n s me x (Attached r) t (Some f) us p h = object_quiet n s me r t x us (signature_of s t f) (given_by (signature_of s t f).gives) p h

  pub qualified_quiet : (n : ℕ) (s : System) (me : Reference) (x : List ℕ) (us : Option (List Operand × List Operand)) (p : Point) → Unit {0} → Quiet point (calls_qualified s me x us p)
  unfolding Quiet
  qualified_quiet n s me x None p h = tt
  qualified_quiet n s me x (Some (us, [])) p h = tt
  qualified_quiet n s me x (Some (us, v ∷ vs)) p h = on_value_quiet n s me x v.value v.type (feature_named s v.type.class x) us (record p { values = vs }) h

  -- ---- creations

  new_object_quiet : (n : ℕ) (s : System) (r : Reference) (t : EntityType) (k : Option (List ℕ)) (us : List Operand) (p : Point) → Quiet point (creates_object s r t k us p)
  unfolding Quiet
  new_object_quiet n s r t (Some x) us p = tt
  new_object_quiet n s r t None us p = if_quiet n (meets_invariant s (fresh_object s r.class)) _ (fails cause.Invariant p) tt tt

  here_quiet : (n : ℕ) (s : System) (me : Reference) (k : ℕ) (t : EntityType) (call : Option (List ℕ)) (us : List Operand) (p : Point) → Quiet point (creates_here s me k t call us p)
  unfolding Quiet
  here_quiet n s me k t call us p =
      if_quiet n (nat_lt (length p.objects) max_objects)
      (creates_object s (record { handler = me.handler; number = length p.objects + 1; class = k }) t call us (record p { objects = p.objects ++ fresh_object s k ∷ [] }))
      (fails cause.TooManyObjects p)
      (new_object_quiet n s (record { handler = me.handler; number = length p.objects + 1; class = k }) t call us (record p { objects = p.objects ++ fresh_object s k ∷ [] })) tt

  creates_at_quiet : (n : ℕ) (s : System) (me : Reference) (call : Option (List ℕ)) (t : EntityType) (g : Tag) (c : ClassId) (us : List Operand) (p : Point) → Quiet point (creates_at s me call t g c us p)
  unfolding Quiet
  creates_at_quiet n s me call t tag.Own (class.Declared k) us p = here_quiet n s me k t call us p
  creates_at_quiet n s me call t tag.Any (class.Declared k) us p = tt
  creates_at_quiet n s me call t tag.Own class.Any us p = tt
  creates_at_quiet n s me call t tag.Own class.None us p = tt
  creates_at_quiet n s me call t tag.Own class.Integer us p = tt
  creates_at_quiet n s me call t tag.Own class.Boolean us p = tt
  creates_at_quiet n s me call t tag.Any class.Any us p = tt
  creates_at_quiet n s me call t tag.Any class.None us p = tt
  creates_at_quiet n s me call t tag.Any class.Integer us p = tt
  creates_at_quiet n s me call t tag.Any class.Boolean us p = tt
  creates_at_quiet n s me call t (tag.With x) c us p = tt
  creates_at_quiet n s me call t tag.None c us p = tt

  creates_as_quiet : (n : ℕ) (s : System) (me : Reference) (call : Option (List ℕ)) (t : Option EntityType) (us : List Operand) (p : Point) → Quiet point (creates_as s me call t us p)
  unfolding Quiet
  creates_as_quiet n s me call None us p = tt
  creates_as_quiet n s me call (Some t) us p = creates_at_quiet n s me call t t.tag t.class us p

  pub creates_quiet : (n : ℕ) (s : System) (me : Reference) (x : Variable) (call : Option (List ℕ)) (us : Option (List Operand × List Operand)) (p : Point) → Quiet point (creates s me x call us p)
  unfolding Quiet
  creates_quiet n s me x call None p = tt
  creates_quiet n s me x call (Some (us, vs)) p = creates_as_quiet n s me call (assignee_type (assigned_at s x p)) us (record p { tasks = AssignTo x ∷ p.tasks; values = vs })

  -- ---- expressions

  found_quiet : (n : ℕ) (u : Option Operand) (p : Point) → Unit {0} → Quiet point (gives_found u p)
  unfolding Quiet
  found_quiet n None p h = tt
  found_quiet n (Some u) p h = h

  result_quiet : (n : ℕ) (u : Option Operand) (t : Option (Option EntityType)) (p : Point) → Unit {0} → Quiet point (reads_result u t p)
  unfolding Quiet
  result_quiet n (Some u) (Some (Some t)) p h = reads_as_quiet n u.type u.value t p h
  result_quiet n (Some u) (Some None) p h = tt
  result_quiet n (Some u) None p h = tt
  result_quiet n None t p h = tt

  reads_own_quiet : (n : ℕ) (t : Option EntityType) (b : Option Binding) (p : Point) → Unit {0} → Quiet point (reads_own t b p)
  unfolding Quiet
  reads_own_quiet n None b p h = tt
  reads_own_quiet n (Some t) b p h = attribute_quiet n b t p h

  begins_kind_quiet : (s : System) (me : Reference) (x : List ℕ) (k : FeatureKind) (i : ℕ) (es : Exprs) (p : Point) → Quiet point (begins_kind s me x k i es p)
  unfolding Quiet
  begins_kind_quiet s me x (tree.Attribute d) i es p =
      reads_own_quiet 0 (given_type s (current (place_in s p.text)) d) (binding_named x (attributes_of me.number p.objects)) p (tt)
  begins_kind_quiet s me x (tree.Routine c) i es p = tt

  begins_feature_quiet : (s : System) (me : Reference) (x : List ℕ) (f : Option DeclaredFeature) (i : ℕ) (es : Exprs) (p : Point) → Quiet point (begins_feature s me x f i es p)
  unfolding Quiet
  begins_feature_quiet s me x None i es p = tt
  begins_feature_quiet s me x (Some f) i es p = begins_kind_quiet s me x f.feature.kind i es p

  begins_name_quiet : (s : System) (me : Reference) (x : List ℕ) (b : Option Binding) (i : ℕ) (es : Exprs) (p : Point) → Quiet point (begins_name s me x b i es p)
  unfolding Quiet
  begins_name_quiet s me x (Some b) i es p = reads_as_quiet 0 b.type b.value b.type p (tt)
  begins_name_quiet s me x None i es p = begins_feature_quiet s me x (feature_named s (class.Declared p.text.class) x) i es p

  pub evaluate_quiet : (s : System) (me : Reference) (i : ℕ) (e : tree.Expr) (p : Point) → Quiet point (evaluate s me i e p)
  unfolding Quiet
  evaluate_quiet s me i (tree.Integer q z) p = tt
  evaluate_quiet s me i (tree.Boolean q b) p = tt
  evaluate_quiet s me i (tree.Void q) p = tt
  evaluate_quiet s me i (tree.Current q) p = tt
  evaluate_quiet s me i (tree.Result q) p = result_quiet 0 p.result p.text.result p (tt)
  evaluate_quiet s me i (tree.Call q tree.no_target x es) p = begins_name_quiet s me x.text (binding_named x.text p.environment) i es p
  evaluate_quiet s me i (tree.Call q (tree.target a) x es) p = tt
  evaluate_quiet s me i (tree.Unary q unary.Old a) p = found_quiet 0 (slice_get p.olds i) p (tt)
  evaluate_quiet s me i (tree.Unary q unary.Not a) p = tt
  evaluate_quiet s me i (tree.Unary q unary.Plus a) p = tt
  evaluate_quiet s me i (tree.Unary q unary.Minus a) p = tt
  evaluate_quiet s me i (tree.Binary q op a b) p = tt
  evaluate_quiet s me i (tree.ObjectTest q d a x) p = tt
