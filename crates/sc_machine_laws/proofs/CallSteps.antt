-- Values, object tests, calls and creations of a routine, where the names that are called and assigned are such.
use Rattle.std.proofs.Common.{◌≡◌, ◌⊎◌, ℕ, ℤ, ◌+◌, List, [], ◌∷◌, ◌++◌, Option, Some, None, Ok, Err, Bool, true, false, refl}
use Rattle.std.specs.Prelude.{if◌then◌else◌, ◌==◌, length, nat_lt}
use Rattle.sc_formula.specs.declared.arithmetic.ArithmeticFault.TheVariants as fault
use Rattle.sc_formula.specs.declared.arithmetic.ArithmeticOperator.{ArithmeticOperator}
use Rattle.sc_formula.specs.declared.comparison.Comparison.{Comparison}
use Rattle.sc_formula.specs.declared.connective.Connective.{Connective}
use Rattle.sc_formula.specs.Arithmetic.{ArithmeticResult, opposite_of, result_of}
use Rattle.sc_tree.specs.declared.expression.UnaryOperator.{UnaryOperator}
use Rattle.sc_tree.specs.declared.expression.UnaryOperator.TheVariants as unary
use Rattle.sc_tree.specs.declared.expression.BinaryOperator.{BinaryOperator}
use Rattle.sc_tree.specs.Plain as tree
use Rattle.sc_tree.specs.Plain.{System, FeatureKind, DeclaredType, Clause, Head, Variable, Exprs, no_exprs, expr_then}
use Rattle.sc_class.specs.declared.identity.ClassId.{ClassId}
use Rattle.sc_class.specs.declared.identity.ClassId.TheVariants as class
use Rattle.sc_class.specs.Tables.Features.{DeclaredFeature, feature_named}
use Rattle.sc_rules.specs.declared.entity_types.tag.Tag.{Tag}
use Rattle.sc_rules.specs.declared.entity_types.tag.Tag.TheVariants as tag
use Rattle.sc_rules.specs.declared.entity_types.entity_type.EntityType.{EntityType}
use Rattle.sc_rules.specs.Names.{assignee_type, Signature, signature_of, current}
use Rattle.sc_model.specs.declared.cause.Cause.TheVariants as cause
use Rattle.sc_model.specs.Values.{Reference, Value, Integer, Boolean, Void, Attached, Operand}
use Rattle.sc_model.specs.Environments.{Binding, binding_named, handler_named, assigned_to}
use Rattle.sc_model.specs.Objects.{Object, object_numbered, attributes_of, with_attributes, fresh_object}
use Rattle.sc_model.specs.Invariants.{meets_invariant}
use Rattle.sc_model.specs.Operators.{arithmetic_of, comparison_of, connective_of, identity_of}
use Rattle.sc_model.specs.Routines.{place_in, version_of}
use Rattle.sc_model.specs.Olds.{olds_in}
use Rattle.sc_model.specs.Limits.{max_objects}
use Rattle.sc_model.specs.Tasks.{Task, AssignTo, evals, head_evals, checks}
use Rattle.sc_model.specs.Steps.{Point, Unqualified, Qualified, Creation, Act, Prints, Until, Creates, CreatesHandler, Enters, Requests, Starts, Refuses, Opens, Leaves, Exits, Fails, Step, Goes, Does, fails, gives, reads_as, reads_attribute}
use Rattle.sc_model.specs.Calls.{given_by, passes_rights, enters_unqualified, calls_own, calls_unqualified, calls_kind, calls_version, requests, calls_object, calls_on, calls_qualified}
use Rattle.sc_model.specs.Creations.{creates_object, creates_here, creates_at, creates_as, creates, assigned_at}
use Rattle.sc_model.specs.ObjectTests.{is_tested, binds_if, binds}
use Rattle.sc_model.specs.Expressions.{gives_outcome, gives_truth, apply_unary, apply_to_integers, apply_to_booleans, is_same_object, apply_binary, applies, evals_right, concludes}
use Rattle.sc_machine_laws.proofs.Tasks.{OfTasks}
use Rattle.sc_machine_laws.proofs.Texts.{OfExpr, OfExprs, OfClauses, OfHeads, OfVariable}

-- the objects are such and, after them, a new one of the class, which has this number
pub record HasMade (O : List Object → Type 0) (s : System) (class number : ℕ) (objects : List Object) : Type 0 where
  pub before : List Object
  pub such : O before
  pub objects_are : objects ≡ before ++ fresh_object s class ∷ []
  pub is_next : number ≡ length before + 1

-- An attribute of the name may be assigned, where objects are such.
abbrev pub MayAssign : System → Reference → (ℕ → List ℕ → Type 0) → (List Object → Type 0) → Type 0
MayAssign s me A O = (k : ℕ) (x : List ℕ) (f : DeclaredFeature) (d : DeclaredType) (v : Value) (objects : List Object) → A k x →
    feature_named s (class.Declared k) x ≡ Some f → f.feature.kind ≡ tree.Attribute d → O objects →
    O (with_attributes me.number (assigned_to x v (attributes_of me.number objects)) objects)

module _ (s : System) (me : Reference) (C A : ℕ → List ℕ → Type 0) (E K End : Type 0) (F : List Task → Type 0) (O : List Object → Type 0)
    (may_assign : MayAssign s me A O) where
  abbrev Left : Point → Type 0
  Left p = OfTasks C A E K End F p.text.class p.tasks

  -- A call without a target is of Current and of a name that is such; a new object is tested, or Current of a routine that makes it.
  abbrev pub DoneSo : Act → Point → Type 0
  DoneSo (Enters Unqualified o x us g) p =
      O p.objects × (Left p × ((o ≡ me) × (C p.text.class x × ((f : DeclaredFeature) × (feature_named s (class.Declared p.text.class) x ≡ Some f)))))
  DoneSo (Enters Qualified o x us g) p = O p.objects × Left p
  DoneSo (Enters Creation o x us g) p = E × (HasMade O s o.class o.number p.objects × Left p)
  DoneSo Creates p = E × (((k : ℕ) × (n : ℕ) × HasMade O s k n p.objects × (meets_invariant s (fresh_object s k) ≡ true)) × Left p)
  DoneSo (CreatesHandler class procedure us t passes) p = E × (O p.objects × Left p)
  DoneSo (Prints text) p = O p.objects × Left p
  DoneSo Until p = O p.objects × Left p
  DoneSo (Requests o x us g passes) p = O p.objects × Left p
  DoneSo Starts p = K × (O p.objects × (Left p ⊎ F p.tasks))
  DoneSo (Refuses k) p = K × O p.objects
  DoneSo Opens p = O p.objects × Left p
  DoneSo Leaves p = O p.objects × Left p
  DoneSo Exits p = End × O p.objects
  DoneSo (Fails why) p = Unit {0}

  abbrev pub SteppedSo : Step → Type 0
  SteppedSo (Goes p) = O p.objects × Left p
  SteppedSo (Does a p) = DoneSo a p

  abbrev Such : ℕ → List Task → Type 0
  Such k ts = OfTasks C A E K End F k ts

  -- ---- tasks that constructs set out

  pub actuals_left : (k i : ℕ) (es : Exprs) (t : Task) (ts : List Task) → OfExprs (C k) es → Such k (t ∷ ts) → Such k ((evals i es ++ t ∷ []) ++ ts)
  actuals_left k i no_exprs t ts e l = l
  actuals_left k i (expr_then a es) t ts e l = (e.0, actuals_left k (i + olds_in a) es t ts e.1 l)

  pub heads_left : (k : ℕ) (ds : List Head) (t : Task) (ts : List Task) → OfHeads (C k) ds → Such k (t ∷ ts) → Such k ((head_evals ds ++ t ∷ []) ++ ts)
  heads_left k [] t ts e l = l
  heads_left k (d ∷ ds) t ts e l = (e.0, heads_left k ds t ts e.1 l)

  pub checks_left : (k : ℕ) (ks : List Clause) (ts : List Task) → OfClauses (C k) ks → Such k ts → Such k (checks ks ++ ts)
  checks_left k [] ts e l = l
  checks_left k (q ∷ ks) ts e l = (e.0, (tt, checks_left k ks ts e.1 l))

  if_so : (b : Bool) (x y : Step) → SteppedSo x → SteppedSo y → SteppedSo (if b then x else y)
  if_so true x y h k = h
  if_so false x y h k = k

  if_tested : (b : Bool) (x y : Step) → (b ≡ true → SteppedSo x) → SteppedSo y → SteppedSo (if b then x else y)
  if_tested true x y h k = h refl
  if_tested false x y h k = k

  -- ---- values

  pub reads_as_so : (d : EntityType) (v : Value) (t : EntityType) (p : Point) → O p.objects → Left p → SteppedSo (reads_as d v t p)
  reads_as_so d Void t p h l = if_so d.attached (fails cause.UnsetEntity p) (gives Void t p) tt (h, l)
  reads_as_so d (Integer z) t p h l = (h, l)
  reads_as_so d (Boolean b) t p h l = (h, l)
  reads_as_so d (Attached r) t p h l = (h, l)

  pub attribute_so : (b : Option Binding) (t : EntityType) (p : Point) → O p.objects → Left p → SteppedSo (reads_attribute b t p)
  attribute_so None t p h l = tt
  attribute_so (Some b) t p h l = reads_as_so t b.value t p h l

  outcome_so : (o : ArithmeticResult) (p : Point) → O p.objects → Left p → SteppedSo (gives_outcome o p)
  outcome_so (Ok z) p h l = (h, l)
  outcome_so (Err fault.Overflow) p h l = tt
  outcome_so (Err fault.DivideByZero) p h l = tt

  truth_so : (b : Option Bool) (p : Point) → O p.objects → Left p → SteppedSo (gives_truth b p)
  truth_so None p h l = tt
  truth_so (Some b) p h l = (h, l)

  pub unary_so : (op : UnaryOperator) (v : Value) (p : Point) → O p.objects → Left p → SteppedSo (apply_unary op v p)
  unary_so unary.Not (Boolean b) p h l = (h, l)
  unary_so unary.Plus (Integer z) p h l = (h, l)
  unary_so unary.Minus (Integer z) p h l = outcome_so (opposite_of z) p h l
  unary_so unary.Not (Integer z) p h l = tt
  unary_so unary.Not Void p h l = tt
  unary_so unary.Not (Attached r) p h l = tt
  unary_so unary.Plus (Boolean b) p h l = tt
  unary_so unary.Plus Void p h l = tt
  unary_so unary.Plus (Attached r) p h l = tt
  unary_so unary.Minus (Boolean b) p h l = tt
  unary_so unary.Minus Void p h l = tt
  unary_so unary.Minus (Attached r) p h l = tt
  unary_so unary.Old v p h l = tt

  integers_so : (o : Option ArithmeticOperator) (c : Option Comparison) (a b : ℤ) (p : Point) → O p.objects → Left p → SteppedSo (apply_to_integers o c a b p)
  integers_so (Some o) c a b p h l = outcome_so (result_of o a b) p h l
  integers_so None (Some c) a b p h l = (h, l)
  integers_so None None a b p h l = tt

  booleans_so : (o : Option Connective) (a b : Bool) (p : Point) → O p.objects → Left p → SteppedSo (apply_to_booleans o a b p)
  booleans_so (Some o) a b p h l = (h, l)
  booleans_so None a b p h l = tt

  binary_so : (op : BinaryOperator) (v w : Value) (p : Point) → O p.objects → Left p → SteppedSo (apply_binary op v w p)
  binary_so op (Integer a) (Integer b) p h l = integers_so (arithmetic_of op) (comparison_of op) a b p h l
  binary_so op (Boolean a) (Boolean b) p h l = booleans_so (connective_of op) a b p h l
  binary_so op (Attached r) (Attached q) p h l = truth_so (identity_of op (is_same_object r q)) p h l
  binary_so op (Attached r) Void p h l = truth_so (identity_of op false) p h l
  binary_so op Void (Attached q) p h l = truth_so (identity_of op false) p h l
  binary_so op Void Void p h l = truth_so (identity_of op true) p h l
  binary_so op (Integer a) (Boolean b) p h l = tt
  binary_so op (Integer a) Void p h l = tt
  binary_so op (Integer a) (Attached q) p h l = tt
  binary_so op (Boolean a) (Integer b) p h l = tt
  binary_so op (Boolean a) Void p h l = tt
  binary_so op (Boolean a) (Attached q) p h l = tt
  binary_so op (Attached r) (Integer b) p h l = tt
  binary_so op (Attached r) (Boolean b) p h l = tt
  binary_so op Void (Integer b) p h l = tt
  binary_so op Void (Boolean b) p h l = tt

  pub applies_so : (op : BinaryOperator) (v : Value) (vs : List Operand) (p : Point) → O p.objects → Left p → SteppedSo (applies op v vs p)
  applies_so op v [] p h l = tt
  applies_so op v (u ∷ vs) p h l = binary_so op u.value v (record p { values = vs }) h l

  pub right_so : (d : Option Bool) (short : Bool) (op : BinaryOperator) (i : ℕ) (e : tree.Expr) (u : Operand) (p : Point) → O p.objects → OfExpr (C p.text.class) e → Left p →
      SteppedSo (evals_right d short op i e u p)
  right_so (Some b) short op i e u p h o l = (h, l)
  right_so None true op i e u p h o l = (h, (o, (tt, l)))
  right_so None false op i e u p h o l = (h, (o, (tt, l)))

  pub concludes_so : (v : Value) (p : Point) → O p.objects → Left p → SteppedSo (concludes v p)
  concludes_so (Boolean b) p h l = (h, l)
  concludes_so (Integer z) p h l = tt
  concludes_so Void p h l = tt
  concludes_so (Attached r) p h l = tt

  -- ---- object tests

  binds_if_so : (b : Bool) (x : List ℕ) (v : Value) (t : EntityType) (p : Point) → O p.objects → Left p → SteppedSo (binds_if b x v t p)
  binds_if_so true x v t p h l = (h, l)
  binds_if_so false x v t p h l = (h, l)

  pub binds_so : (d : Option DeclaredType) (x : List ℕ) (v : Value) (t : Option EntityType) (p : Point) → O p.objects → Left p → SteppedSo (binds s me.handler d x v t p)
  binds_so d x v None p h l = tt
  binds_so d x v (Some t) p h l = binds_if_so (is_tested s me.handler (handler_named p.environment) v d t) x v t p h l

  -- ---- calls

  enters_so : (x : List ℕ) (us : List Operand) (g : Option (Option EntityType)) (p : Point) → O p.objects → C p.text.class x →
      ((f : DeclaredFeature) × (feature_named s (class.Declared p.text.class) x ≡ Some f)) → Left p → SteppedSo (enters_unqualified me x us g p)
  enters_so x us None p h o f l = tt
  enters_so x us (Some g) p h o f l = (h, (l, (refl, (o, f))))

  own_so : (x : List ℕ) (f : Option DeclaredFeature) (us : List Operand) (p : Point) → feature_named s (class.Declared p.text.class) x ≡ f → O p.objects → C p.text.class x →
      Left p → SteppedSo (calls_own s me x f us p)
  own_so x None us p e h o l = tt
  own_so x (Some f) us p e h o l = enters_so x us (given_by (signature_of s (current (place_in s p.text)) f).gives) p h o (f, e) l

  pub unqualified_so : (x : List ℕ) (us : Option (List Operand × List Operand)) (p : Point) → O p.objects → C p.text.class x → Left p →
      SteppedSo (calls_unqualified s me x us p)
  unqualified_so x None p h o l = tt
  unqualified_so x (Some (us, vs)) p h o l = own_so x (feature_named s (class.Declared p.text.class) x) us (record p { values = vs }) refl h o l

  kind_so : (r : Reference) (x : List ℕ) (us : List Operand) (g : Option EntityType) (o : Object) (k : FeatureKind) (p : Point) → O p.objects → Left p →
      SteppedSo (calls_kind r x us g o k p)
  kind_so r x us (Some t) o (tree.Attribute d) p h l = attribute_so (binding_named x o.attributes) t p h l
  kind_so r x us None o (tree.Attribute d) p h l = tt
  kind_so r x us (Some t) o (tree.Routine c) p h l = (h, l)
  kind_so r x us None o (tree.Routine c) p h l = (h, l)

  version_so : (r : Reference) (x : List ℕ) (us : List Operand) (g : Option EntityType) (o : Option Object) (f : Option DeclaredFeature) (p : Point) → O p.objects → Left p →
      SteppedSo (calls_version r x us g o f p)
  version_so r x us g (Some o) (Some f) p h l = kind_so r x us g o f.feature.kind p h l
  version_so r x us g (Some o) None p h l = tt
  version_so r x us g None f p h l = tt

  requests_so : (r : Reference) (t : Tag) (x : List ℕ) (us : List Operand) (g : Option EntityType) (b : Bool) (p : Point) → O p.objects → Left p →
      SteppedSo (requests r t x us g b p)
  requests_so r tag.Own x us g b p h l = tt
  requests_so r (tag.With y) x us g b p h l = (h, l)
  requests_so r tag.Any x us g b p h l = (h, l)
  requests_so r tag.None x us g b p h l = (h, l)

  object_so : (r : Reference) (t : EntityType) (x : List ℕ) (us : List Operand) (g : Signature) (gives : Option (Option EntityType)) (p : Point) → O p.objects → Left p →
      SteppedSo (calls_object s me r t x us g gives p)
  object_so r t x us g None p h l = tt
  object_so r t x us g (Some gives) p h l =
      if_so (r.handler == me.handler) (calls_version r x us gives (object_numbered r.number p.objects) (version_of s r.class x) p) (requests r t.tag x us gives (passes_rights g.formals us) p)
      (version_so r x us gives (object_numbered r.number p.objects) (version_of s r.class x) p h l)
      (requests_so r t.tag x us gives (passes_rights g.formals us) p h l)

  on_value_so : (x : List ℕ) (v : Value) (t : EntityType) (f : Option DeclaredFeature) (us : List Operand) (p : Point) → O p.objects → Left p →
      SteppedSo (calls_on s me x v t f us p)
  on_value_so x Void t f us p h l = tt
  on_value_so x (Integer z) t f us p h l = tt
  on_value_so x (Boolean b) t f us p h l = tt
  on_value_so x (Attached r) t None us p h l = tt
  on_value_so x (Attached r) t (Some f) us p h l = object_so r t x us (signature_of s t f) (given_by (signature_of s t f).gives) p h l

  pub qualified_so : (x : List ℕ) (us : Option (List Operand × List Operand)) (p : Point) → O p.objects → Left p → SteppedSo (calls_qualified s me x us p)
  qualified_so x None p h l = tt
  qualified_so x (Some (us, [])) p h l = tt
  qualified_so x (Some (us, v ∷ vs)) p h l = on_value_so x v.value v.type (feature_named s v.type.class x) us (record p { values = vs }) h l

  -- ---- creations

  made_so : (t : EntityType) (call : Option (List ℕ)) (us : List Operand) (k : ℕ) (p : Point) → O p.objects → E → Left p →
      SteppedSo (creates_object s (record { handler = me.handler; number = length p.objects + 1; class = k }) t call us (record p { objects = p.objects ++ fresh_object s k ∷ [] }))
  made_so t (Some x) us k p h o l = (o, (record { before = p.objects; such = h; objects_are = refl; is_next = refl }, l))
  made_so t None us k p h o l = if_tested (meets_invariant s (fresh_object s k)) _ (fails cause.Invariant (record p { objects = p.objects ++ fresh_object s k ∷ [] }))
      (λ e. (o, ((k, length p.objects + 1, record { before = p.objects; such = h; objects_are = refl; is_next = refl }, e), l))) tt

  here_so : (k : ℕ) (t : EntityType) (call : Option (List ℕ)) (us : List Operand) (p : Point) → O p.objects → E → Left p → SteppedSo (creates_here s me k t call us p)
  here_so k t call us p h o l = if_so (nat_lt (length p.objects) max_objects) _ (fails cause.TooManyObjects p) (made_so t call us k p h o l) tt

  creates_at_so : (call : Option (List ℕ)) (t : EntityType) (g : Tag) (c : ClassId) (us : List Operand) (p : Point) → O p.objects → E → Left p →
      SteppedSo (creates_at s me call t g c us p)
  creates_at_so call t tag.Own (class.Declared k) us p h o l = here_so k t call us p h o l
  creates_at_so call t tag.Any (class.Declared k) us p h o l = (o, (h, l))
  creates_at_so call t tag.Own class.Any us p h o l = tt
  creates_at_so call t tag.Own class.None us p h o l = tt
  creates_at_so call t tag.Own class.Integer us p h o l = tt
  creates_at_so call t tag.Own class.Boolean us p h o l = tt
  creates_at_so call t tag.Any class.Any us p h o l = tt
  creates_at_so call t tag.Any class.None us p h o l = tt
  creates_at_so call t tag.Any class.Integer us p h o l = tt
  creates_at_so call t tag.Any class.Boolean us p h o l = tt
  creates_at_so call t (tag.With x) c us p h o l = tt
  creates_at_so call t tag.None c us p h o l = tt

  creates_as_so : (call : Option (List ℕ)) (t : Option EntityType) (us : List Operand) (p : Point) → O p.objects → E → Left p → SteppedSo (creates_as s me call t us p)
  creates_as_so call None us p h o l = tt
  creates_as_so call (Some t) us p h o l = creates_at_so call t t.tag t.class us p h o l

  pub creates_so : (v : Variable) (call : Option (List ℕ)) (us : Option (List Operand × List Operand)) (p : Point) → O p.objects → E → OfVariable (A p.text.class) v → Left p →
      SteppedSo (creates s me v call us p)
  creates_so v call None p h o a l = tt
  creates_so v call (Some (us, vs)) p h o a l =
      creates_as_so call (assignee_type (assigned_at s v p)) us (record p { tasks = AssignTo v ∷ p.tasks; values = vs }) h o (a, l)
