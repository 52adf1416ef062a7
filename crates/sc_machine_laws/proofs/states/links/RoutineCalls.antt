-- Values, object tests, calls and creations keep a routine's point well.
use Rattle.std.proofs.Common.{◌≡◌, ◌≢◌, ℕ, ℤ, ◌+◌, ◌==◌, Bool, true, false, List, [], ◌∷◌, ◌++◌, Option, Some, None, Ok, Err, length, refl, sym, subst}
use Rattle.std.specs.Prelude.{nat_lt, bytes_eq, if◌then◌else◌}
use Rattle.std.proofs.lemmas.Bool.{eqb-true, eqb-false}
use Rattle.sc_formula.specs.declared.arithmetic.ArithmeticFault.TheVariants as fault
use Rattle.sc_formula.specs.declared.arithmetic.ArithmeticOperator.{ArithmeticOperator}
use Rattle.sc_formula.specs.declared.comparison.Comparison.{Comparison}
use Rattle.sc_formula.specs.declared.connective.Connective.{Connective}
use Rattle.sc_formula.specs.Arithmetic.{ArithmeticResult, opposite_of, result_of}
use Rattle.sc_tree.specs.declared.expression.UnaryOperator.{UnaryOperator}
use Rattle.sc_tree.specs.declared.expression.UnaryOperator.TheVariants as unary
use Rattle.sc_tree.specs.declared.expression.BinaryOperator.{BinaryOperator}
use Rattle.sc_tree.specs.Plain as tree
use Rattle.sc_tree.specs.Plain.{System, FeatureKind, DeclaredType, Variable}
use Rattle.sc_class.specs.declared.identity.ClassId.{ClassId}
use Rattle.sc_class.specs.declared.identity.ClassId.TheVariants as class
use Rattle.sc_class.specs.Tables.Features.{DeclaredFeature, feature_named}
use Rattle.sc_rules.specs.declared.entity_types.tag.Tag.{Tag}
use Rattle.sc_rules.specs.declared.entity_types.tag.Tag.TheVariants as tag
use Rattle.sc_rules.specs.declared.entity_types.entity_type.EntityType.{EntityType}
use Rattle.sc_rules.specs.declared.position.Role.TheVariants as role
use Rattle.sc_rules.specs.Names.{assignee_type, Signature, signature_of, current}
use Rattle.sc_model.specs.declared.cause.Cause.TheVariants as cause
use Rattle.sc_model.specs.Values.{Reference, Value, Integer, Boolean, Void, Attached, Operand, operand}
use Rattle.sc_model.specs.Environments.{Binding, binding_named, handler_named}
use Rattle.sc_model.specs.Objects.{Object, object_numbered, fresh_object}
use Rattle.sc_model.specs.Invariants.{meets_invariant}
use Rattle.sc_model.specs.Operators.{arithmetic_of, comparison_of, connective_of, identity_of}
use Rattle.sc_model.specs.Routines.{place_in, version_of}
use Rattle.sc_model.specs.Limits.{max_objects}
use Rattle.sc_model.specs.Tasks.{Eval, ApplyBinary, Conclude, AssignTo}
use Rattle.sc_model.specs.Steps.{Point, Step, fails, gives, reads_as, reads_attribute}
use Rattle.sc_model.specs.Calls.{given_by, passes_rights, enters_unqualified, calls_own, calls_unqualified, calls_kind, calls_version, requests, calls_object, calls_on, calls_qualified}
use Rattle.sc_model.specs.Creations.{creates_object, creates_here, creates_at, creates_as, creates, assigned_at}
use Rattle.sc_model.specs.ObjectTests.{is_tested, binds_if, binds}
use Rattle.sc_model.specs.Expressions.{gives_outcome, gives_truth, apply_unary, apply_to_integers, apply_to_booleans, is_same_object, apply_binary, applies, evals_right, concludes}
use Rattle.sc_machine_laws.proofs.states.links.Points.{Formals, Known, Every, OperandKnown, BindingKnown, ObjectKnown, IfSome, IsWell, StepsWell}
use Rattle.sc_machine_laws.proofs.states.links.KnownValues.{every_append, every_find, fresh_known, object_known}
use Rattle.sc_machine_laws.proofs.states.links.KeptFormals.{kept_end}
use Rattle.sc_machine_laws.proofs.states.links.PointChanges.{with_value, with_values, with_environment, with_objects, light}

module _ (K : ℕ → Type 0) (fm : Formals) (s : System) (me : Reference) (there : K me.handler) where
  if_well : (n : ℕ) (b : Bool) (x y : Step) → (b ≡ true → StepsWell K fm me.handler n x) → (b ≡ false → StepsWell K fm me.handler n y)
      → StepsWell K fm me.handler n (if b then x else y)
  if_well n true x y f g = f refl
  if_well n false x y f g = g refl

  -- ---- values

  pub reads_well : (n : ℕ) (d : EntityType) (v : Value) (t : EntityType) (p : Point) → IsWell K fm n p → Known K v
      → StepsWell K fm me.handler n (reads_as d v t p)
  reads_well n d Void t p w is = if_well n d.attached (fails cause.UnsetEntity p) (gives Void t p) (λ e. (w.objects, refl))
      (λ e. with_value K fm n p (operand Void t) w tt)
  reads_well n d (Integer z) t p w is = with_value K fm n p (operand (Integer z) t) w tt
  reads_well n d (Boolean b) t p w is = with_value K fm n p (operand (Boolean b) t) w tt
  reads_well n d (Attached r) t p w is = with_value K fm n p (operand (Attached r) t) w is

  pub attribute_well : (n : ℕ) (b : Option Binding) (t : EntityType) (p : Point) → IsWell K fm n p → IfSome (BindingKnown K) b
      → StepsWell K fm me.handler n (reads_attribute b t p)
  attribute_well n None t p w is = (w.objects, refl)
  attribute_well n (Some b) t p w is = reads_well n t b.value t p w is

  outcome_well : (n : ℕ) (o : ArithmeticResult) (p : Point) → IsWell K fm n p → StepsWell K fm me.handler n (gives_outcome o p)
  outcome_well n (Ok z) p w = with_value K fm n p _ w tt
  outcome_well n (Err fault.Overflow) p w = (w.objects, refl)
  outcome_well n (Err fault.DivideByZero) p w = (w.objects, refl)

  truth_well : (n : ℕ) (b : Option Bool) (p : Point) → IsWell K fm n p → StepsWell K fm me.handler n (gives_truth b p)
  truth_well n None p w = (w.objects, refl)
  truth_well n (Some b) p w = with_value K fm n p _ w tt

  pub unary_well : (n : ℕ) (op : UnaryOperator) (v : Value) (p : Point) → IsWell K fm n p → StepsWell K fm me.handler n (apply_unary op v p)
  unary_well n unary.Not (Boolean b) p w = with_value K fm n p _ w tt
  unary_well n unary.Plus (Integer z) p w = with_value K fm n p _ w tt
  unary_well n unary.Minus (Integer z) p w = outcome_well n (opposite_of z) p w
  unary_well n unary.Not (Integer z) p w = (w.objects, refl)
  unary_well n unary.Not Void p w = (w.objects, refl)
  unary_well n unary.Not (Attached r) p w = (w.objects, refl)
  unary_well n unary.Plus (Boolean b) p w = (w.objects, refl)
  unary_well n unary.Plus Void p w = (w.objects, refl)
  unary_well n unary.Plus (Attached r) p w = (w.objects, refl)
  unary_well n unary.Minus (Boolean b) p w = (w.objects, refl)
  unary_well n unary.Minus Void p w = (w.objects, refl)
  unary_well n unary.Minus (Attached r) p w = (w.objects, refl)
  unary_well n unary.Old v p w = (w.objects, refl)

  integers_well : (n : ℕ) (o : Option ArithmeticOperator) (c : Option Comparison) (a b : ℤ) (p : Point) → IsWell K fm n p
      → StepsWell K fm me.handler n (apply_to_integers o c a b p)
  integers_well n (Some o) c a b p w = outcome_well n (result_of o a b) p w
  integers_well n None (Some c) a b p w = with_value K fm n p _ w tt
  integers_well n None None a b p w = (w.objects, refl)

  booleans_well : (n : ℕ) (o : Option Connective) (a b : Bool) (p : Point) → IsWell K fm n p → StepsWell K fm me.handler n (apply_to_booleans o a b p)
  booleans_well n (Some o) a b p w = with_value K fm n p _ w tt
  booleans_well n None a b p w = (w.objects, refl)

  binary_well : (n : ℕ) (op : BinaryOperator) (v u : Value) (p : Point) → IsWell K fm n p → StepsWell K fm me.handler n (apply_binary op v u p)
  binary_well n op (Integer a) (Integer b) p w = integers_well n (arithmetic_of op) (comparison_of op) a b p w
  binary_well n op (Boolean a) (Boolean b) p w = booleans_well n (connective_of op) a b p w
  binary_well n op (Attached r) (Attached q) p w = truth_well n (identity_of op (is_same_object r q)) p w
  binary_well n op (Attached r) Void p w = truth_well n (identity_of op false) p w
  binary_well n op Void (Attached q) p w = truth_well n (identity_of op false) p w
  binary_well n op Void Void p w = truth_well n (identity_of op true) p w
  binary_well n op (Integer a) (Boolean b) p w = (w.objects, refl)
  binary_well n op (Integer a) Void p w = (w.objects, refl)
  binary_well n op (Integer a) (Attached q) p w = (w.objects, refl)
  binary_well n op (Boolean a) (Integer b) p w = (w.objects, refl)
  binary_well n op (Boolean a) Void p w = (w.objects, refl)
  binary_well n op (Boolean a) (Attached q) p w = (w.objects, refl)
  binary_well n op (Attached r) (Integer b) p w = (w.objects, refl)
  binary_well n op (Attached r) (Boolean b) p w = (w.objects, refl)
  binary_well n op Void (Integer b) p w = (w.objects, refl)
  binary_well n op Void (Boolean b) p w = (w.objects, refl)

  pub applies_well : (n : ℕ) (op : BinaryOperator) (v : Value) (vs : List Operand) (p : Point) → IsWell K fm n p → Every (OperandKnown K) vs
      → StepsWell K fm me.handler n (applies op v vs p)
  applies_well n op v [] p w is = (w.objects, refl)
  applies_well n op v (u ∷ vs) p w is = binary_well n op u.value v (record p { values = vs }) (with_values K fm n p vs w is.1)

  pub right_well : (n : ℕ) (d : Option Bool) (short : Bool) (op : BinaryOperator) (i : ℕ) (e : tree.Expr) (u : Operand) (p : Point) → IsWell K fm n p
      → OperandKnown K u → StepsWell K fm me.handler n (evals_right d short op i e u p)
  right_well n (Some b) short op i e u p w is = with_value K fm n p _ w tt
  right_well n None true op i e u p w is = light K fm n (Eval i e ∷ Conclude ∷ []) p (refl, refl, (refl, refl, tt)) w
  right_well n None false op i e u p w is = light K fm n (Eval i e ∷ ApplyBinary op ∷ []) (record p { values = u ∷ p.values })
      (refl, refl, (refl, refl, tt)) (with_value K fm n p u w is)

  pub concludes_well : (n : ℕ) (v : Value) (p : Point) → IsWell K fm n p → StepsWell K fm me.handler n (concludes v p)
  concludes_well n (Boolean b) p w = with_value K fm n p _ w tt
  concludes_well n (Integer z) p w = (w.objects, refl)
  concludes_well n Void p w = (w.objects, refl)
  concludes_well n (Attached r) p w = (w.objects, refl)

  -- ---- object tests

  binds_if_well : (n : ℕ) (b : Bool) (x : List ℕ) (v : Value) (t : EntityType) (p : Point) → IsWell K fm n p → Known K v
      → StepsWell K fm me.handler n (binds_if b x v t p)
  binds_if_well n true x v t p w is =
      let bs : List Binding = p.environment ++ record { name = x; type = t; role = role.Test; value = v } ∷ [] in
      with_value K fm n (record p { environment = bs }) _
      (with_environment K fm n p bs w (every_append (BindingKnown K) p.environment
      (record { name = x; type = t; role = role.Test; value = v } ∷ []) w.environment (is, tt))
      (kept_end fm p.environment (record { name = x; type = t; role = role.Test; value = v } ∷ []) p.tasks w.formals (refl, tt) (refl, tt))) tt
  binds_if_well n false x v t p w is = with_value K fm n p _ w tt

  pub binds_well : (n : ℕ) (d : Option DeclaredType) (x : List ℕ) (v : Value) (t : Option EntityType) (p : Point) → IsWell K fm n p → Known K v
      → StepsWell K fm me.handler n (binds s me.handler d x v t p)
  binds_well n d x v None p w is = (w.objects, refl)
  binds_well n d x v (Some t) p w is = binds_if_well n (is_tested s me.handler (handler_named p.environment) v d t) x v t p w is

  -- ---- calls

  enters_well : (n : ℕ) (x : List ℕ) (us : List Operand) (g : Option (Option EntityType)) (p : Point) → IsWell K fm n p → Every (OperandKnown K) us
      → StepsWell K fm me.handler n (enters_unqualified me x us g p)
  enters_well n x us None p w is = (w.objects, refl)
  enters_well n x us (Some g) p w is = (refl, is, w)

  own_well : (n : ℕ) (x : List ℕ) (f : Option DeclaredFeature) (us : List Operand) (p : Point) → IsWell K fm n p → Every (OperandKnown K) us
      → StepsWell K fm me.handler n (calls_own s me x f us p)
  own_well n x None us p w is = (w.objects, refl)
  own_well n x (Some f) us p w is = enters_well n x us (given_by (signature_of s (current (place_in s p.text)) f).gives) p w is

  pub unqualified_well : (n : ℕ) (x : List ℕ) (us : Option (List Operand × List Operand)) (p : Point) → IsWell K fm n p
      → IfSome (λ (y : List Operand × List Operand). Every (OperandKnown K) y.0 × Every (OperandKnown K) y.1) us
      → StepsWell K fm me.handler n (calls_unqualified s me x us p)
  unqualified_well n x None p w is = (w.objects, refl)
  unqualified_well n x (Some (us, vs)) p w is = own_well n x (feature_named s (class.Declared p.text.class) x) us (record p { values = vs })
      (with_values K fm n p vs w is.1) is.0

  kind_well : (n : ℕ) (r : Reference) (x : List ℕ) (us : List Operand) (g : Option EntityType) (o : Object) (k : FeatureKind) (p : Point)
      → IsWell K fm n p → Every (OperandKnown K) us → ObjectKnown K o → r.handler ≡ me.handler
      → StepsWell K fm me.handler n (calls_kind r x us g o k p)
  kind_well n r x us (Some t) o (tree.Attribute d) p w is known same = attribute_well n (binding_named x o.attributes) t p w
      (every_find (BindingKnown K) (λ (b : Binding). bytes_eq b.name x) o.attributes known)
  kind_well n r x us None o (tree.Attribute d) p w is known same = (w.objects, refl)
  kind_well n r x us (Some t) o (tree.Routine c) p w is known same = (same, is, w)
  kind_well n r x us None o (tree.Routine c) p w is known same = (same, is, w)

  version_well : (n : ℕ) (r : Reference) (x : List ℕ) (us : List Operand) (g : Option EntityType) (o : Option Object) (f : Option DeclaredFeature)
      (p : Point) → IsWell K fm n p → Every (OperandKnown K) us → IfSome (ObjectKnown K) o → r.handler ≡ me.handler
      → StepsWell K fm me.handler n (calls_version r x us g o f p)
  version_well n r x us g (Some o) (Some f) p w is known same = kind_well n r x us g o f.feature.kind p w is known same
  version_well n r x us g (Some o) None p w is known same = (w.objects, refl)
  version_well n r x us g None f p w is known same = (w.objects, refl)

  requests_well : (n : ℕ) (r : Reference) (t : Tag) (x : List ℕ) (us : List Operand) (g : Option EntityType) (b : Bool) (p : Point) → IsWell K fm n p
      → Every (OperandKnown K) us → r.handler ≢ me.handler → StepsWell K fm me.handler n (requests r t x us g b p)
  requests_well n r tag.Own x us g b p w is other = (w.objects, refl)
  requests_well n r (tag.With y) x us g b p w is other = (other, is, w)
  requests_well n r tag.Any x us g b p w is other = (other, is, w)
  requests_well n r tag.None x us g b p w is other = (other, is, w)

  object_well : (n : ℕ) (r : Reference) (t : EntityType) (x : List ℕ) (us : List Operand) (g : Signature) (gives : Option (Option EntityType))
      (p : Point) → IsWell K fm n p → Every (OperandKnown K) us → StepsWell K fm me.handler n (calls_object s me r t x us g gives p)
  object_well n r t x us g None p w is = (w.objects, refl)
  object_well n r t x us g (Some gives) p w is =
      if_well n (r.handler == me.handler) (calls_version r x us gives (object_numbered r.number p.objects) (version_of s r.class x) p)
      (requests r t.tag x us gives (passes_rights g.formals us) p)
      (λ e. version_well n r x us gives (object_numbered r.number p.objects) (version_of s r.class x) p w is
      (object_known K r.number p.objects w.objects) (eqb-true r.handler me.handler e))
      (λ e. requests_well n r t.tag x us gives (passes_rights g.formals us) p w is (eqb-false r.handler me.handler e))

  on_value_well : (n : ℕ) (x : List ℕ) (v : Value) (t : EntityType) (f : Option DeclaredFeature) (us : List Operand) (p : Point) → IsWell K fm n p
      → Every (OperandKnown K) us → StepsWell K fm me.handler n (calls_on s me x v t f us p)
  on_value_well n x Void t f us p w is = (w.objects, refl)
  on_value_well n x (Integer z) t f us p w is = (w.objects, refl)
  on_value_well n x (Boolean b) t f us p w is = (w.objects, refl)
  on_value_well n x (Attached r) t None us p w is = (w.objects, refl)
  on_value_well n x (Attached r) t (Some f) us p w is = object_well n r t x us (signature_of s t f) (given_by (signature_of s t f).gives) p w is

  pub qualified_well : (n : ℕ) (x : List ℕ) (us : Option (List Operand × List Operand)) (p : Point) → IsWell K fm n p
      → IfSome (λ (y : List Operand × List Operand). Every (OperandKnown K) y.0 × Every (OperandKnown K) y.1) us
      → StepsWell K fm me.handler n (calls_qualified s me x us p)
  qualified_well n x None p w is = (w.objects, refl)
  qualified_well n x (Some (us, [])) p w is = (w.objects, refl)
  qualified_well n x (Some (us, v ∷ vs)) p w is = on_value_well n x v.value v.type (feature_named s v.type.class x) us (record p { values = vs })
      (with_values K fm n p vs w is.1.1) is.0

  -- ---- creations

  new_object_well : (n : ℕ) (r : Reference) (t : EntityType) (k : Option (List ℕ)) (us : List Operand) (p : Point) → IsWell K fm n p
      → Every (OperandKnown K) us → r.handler ≡ me.handler → StepsWell K fm me.handler n (creates_object s r t k us p)
  new_object_well n r t (Some x) us p w is same = (same, is, with_value K fm n p _ w (subst K (sym same) there))
  new_object_well n r t None us p w is same = if_well n (meets_invariant s (fresh_object s r.class)) _ (fails cause.Invariant p)
      (λ e. with_value K fm n p _ w (subst K (sym same) there)) (λ e. (w.objects, refl))

  here_well : (n k : ℕ) (t : EntityType) (call : Option (List ℕ)) (us : List Operand) (p : Point) → IsWell K fm n p → Every (OperandKnown K) us
      → StepsWell K fm me.handler n (creates_here s me k t call us p)
  here_well n k t call us p w is =
      let os : List Object = p.objects ++ fresh_object s k ∷ [] in
      if_well n (nat_lt (length p.objects) max_objects)
      (creates_object s (record { handler = me.handler; number = length p.objects + 1; class = k }) t call us
      (record p { objects = p.objects ++ fresh_object s k ∷ [] }))
      (fails cause.TooManyObjects p)
      (λ e. new_object_well n (record { handler = me.handler; number = length p.objects + 1; class = k }) t call us
      (record p { objects = p.objects ++ fresh_object s k ∷ [] })
      (with_objects K fm n p os w (every_append (ObjectKnown K) p.objects (fresh_object s k ∷ []) w.objects (fresh_known K s k, tt))) is refl)
      (λ e. (w.objects, refl))

  creates_at_well : (n : ℕ) (call : Option (List ℕ)) (t : EntityType) (g : Tag) (c : ClassId) (us : List Operand) (p : Point) → IsWell K fm n p
      → Every (OperandKnown K) us → StepsWell K fm me.handler n (creates_at s me call t g c us p)
  creates_at_well n call t tag.Own (class.Declared k) us p w is = here_well n k t call us p w is
  creates_at_well n call t tag.Any (class.Declared k) us p w is = (is, w)
  creates_at_well n call t tag.Own class.Any us p w is = (w.objects, refl)
  creates_at_well n call t tag.Own class.None us p w is = (w.objects, refl)
  creates_at_well n call t tag.Own class.Integer us p w is = (w.objects, refl)
  creates_at_well n call t tag.Own class.Boolean us p w is = (w.objects, refl)
  creates_at_well n call t tag.Any class.Any us p w is = (w.objects, refl)
  creates_at_well n call t tag.Any class.None us p w is = (w.objects, refl)
  creates_at_well n call t tag.Any class.Integer us p w is = (w.objects, refl)
  creates_at_well n call t tag.Any class.Boolean us p w is = (w.objects, refl)
  creates_at_well n call t (tag.With x) c us p w is = (w.objects, refl)
  creates_at_well n call t tag.None c us p w is = (w.objects, refl)

  creates_as_well : (n : ℕ) (call : Option (List ℕ)) (t : Option EntityType) (us : List Operand) (p : Point) → IsWell K fm n p
      → Every (OperandKnown K) us → StepsWell K fm me.handler n (creates_as s me call t us p)
  creates_as_well n call None us p w is = (w.objects, refl)
  creates_as_well n call (Some t) us p w is = creates_at_well n call t t.tag t.class us p w is

  pub creates_well : (n : ℕ) (x : Variable) (call : Option (List ℕ)) (us : Option (List Operand × List Operand)) (p : Point) → IsWell K fm n p
      → IfSome (λ (y : List Operand × List Operand). Every (OperandKnown K) y.0 × Every (OperandKnown K) y.1) us
      → StepsWell K fm me.handler n (creates s me x call us p)
  creates_well n x call None p w is = (w.objects, refl)
  creates_well n x call (Some (us, vs)) p w is =
      creates_as_well n call (assignee_type (assigned_at s x p)) us (record p { tasks = AssignTo x ∷ p.tasks; values = vs })
      (light K fm n (AssignTo x ∷ []) (record p { values = vs }) (refl, refl, tt) (with_values K fm n p vs w is.1)) is.0
