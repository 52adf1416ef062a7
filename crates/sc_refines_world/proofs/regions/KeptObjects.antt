-- What steps of a routine leave of the objects of its handler: attributes get values, and a creation adds an object.
use Rattle.std.proofs.Common.{◌≡◌, ℕ, ℤ, ◌+◌, List, [], ◌∷◌, ◌++◌, Option, Some, None, Ok, Err, Bool, true, false}
use Rattle.std.specs.Prelude.{if◌then◌else◌, slice_get, ◌==◌, length, nat_lt}
use Rattle.sc_formula.specs.declared.arithmetic.ArithmeticFault.TheVariants as fault
use Rattle.sc_formula.specs.declared.arithmetic.ArithmeticOperator.{ArithmeticOperator}
use Rattle.sc_formula.specs.declared.comparison.Comparison.{Comparison}
use Rattle.sc_formula.specs.declared.connective.Connective.{Connective}
use Rattle.sc_formula.specs.Arithmetic.{ArithmeticResult, opposite_of, result_of}
use Rattle.sc_tree.specs.declared.expression.UnaryOperator.{UnaryOperator}
use Rattle.sc_tree.specs.declared.expression.UnaryOperator.TheVariants as unary
use Rattle.sc_tree.specs.declared.expression.BinaryOperator.{BinaryOperator}
use Rattle.sc_tree.specs.Plain as tree
use Rattle.sc_tree.specs.Plain.{System, FeatureKind, DeclaredType, Clause, Name, Variable, Named, ResultVariable, Exprs, no_exprs, expr_then, Instr, Instrs, Branches, no_branches, branch_then}
use Rattle.sc_class.specs.declared.identity.ClassId.{ClassId}
use Rattle.sc_class.specs.declared.identity.ClassId.TheVariants as class
use Rattle.sc_tree.specs.Properties.{is_print}
use Rattle.sc_class.specs.Tables.Features.{DeclaredFeature, feature_named}
use Rattle.sc_rules.specs.declared.entity_types.tag.Tag.{Tag}
use Rattle.sc_rules.specs.declared.entity_types.tag.Tag.TheVariants as tag
use Rattle.sc_rules.specs.declared.entity_types.entity_type.EntityType.{EntityType}
use Rattle.sc_rules.specs.Names.{Assignee, unknown_assignee, unassignable, to_local, to_attribute, assignee_type, Signature, signature_of, current, given_type}
use Rattle.sc_model.specs.declared.cause.Cause.{Cause}
use Rattle.sc_model.specs.declared.cause.Cause.TheVariants as cause
use Rattle.sc_model.specs.Values.{Reference, Value, Integer, Boolean, Void, Attached, Operand}
use Rattle.sc_model.specs.Environments.{Binding, assigned_to, binding_named, handler_named}
use Rattle.sc_model.specs.Objects.{Object, object_numbered, attributes_of, fresh_object, with_attributes}
use Rattle.sc_model.specs.Invariants.{meets_invariant}
use Rattle.sc_model.specs.Operators.{arithmetic_of, comparison_of, connective_of, identity_of}
use Rattle.sc_model.specs.Routines.{place_in, version_of}
use Rattle.sc_model.specs.Limits.{max_objects}
use Rattle.sc_model.specs.Tasks.{Task, AssignTo, CreateBy}
use Rattle.sc_model.specs.Steps.{Point, Creates, Fails, Step, Goes, Does, fails, gives, reads_as, reads_attribute, forgets}
use Rattle.sc_model.specs.Calls.{given_by, passes_rights, enters_unqualified, calls_own, calls_unqualified, calls_kind, calls_version, requests, calls_object, calls_on, calls_qualified}
use Rattle.sc_model.specs.Creations.{creates_object, creates_here, creates_at, creates_as, creates, assigned_at}
use Rattle.sc_model.specs.ObjectTests.{is_tested, binds_if, binds}
use Rattle.sc_model.specs.Expressions.{gives_outcome, gives_truth, apply_unary, apply_to_integers, apply_to_booleans, is_same_object, apply_binary, applies, evals_right, concludes, gives_found, reads_result, reads_own, begins_kind, begins_feature, begins_name, evaluate}
use Rattle.sc_model.specs.Instructions.{assigns, prints, chooses_other, chooses, ends_loop, tests, required, opens, begins_routine, begins}

-- The next task of the point is a creation.
pub record CreatesNext (p : Point) : Type 0 where
  pub variable : Variable
  pub procedure : Option (List ℕ)
  pub count : ℕ
  pub rest : List Task
  pub tasks : p.tasks ≡ CreateBy variable procedure count ∷ rest

-- The first holds of the objects after the step, and the second one where an object was created without a procedure. Only a creation comes to too many objects.
abbrev pub Keeps : (List Object → Type 0) → (List Object → Type 0) → Point → Step → Type 0
Keeps P Q start (Goes p) = P p.objects
Keeps P Q start (Does Creates p) = Q p.objects
Keeps P Q start (Does (Fails cause.Invariant) p) = Q p.objects
Keeps P Q start (Does (Fails cause.TooManyObjects) p) = P p.objects × CreatesNext start
Keeps P Q start (Does a p) = P p.objects

-- the same of several steps
abbrev pub Moved : (List Object → Type 0) → (List Object → Type 0) → Step → Type 0
Moved P Q (Goes p) = P p.objects
Moved P Q (Does Creates p) = Q p.objects
Moved P Q (Does (Fails cause.Invariant) p) = Q p.objects
Moved P Q (Does a p) = P p.objects

pub loosen : (P Q : List Object → Type 0) (start : Point) (st : Step) → Keeps P Q start st → Moved P Q st
loosen P Q start (Goes p) h = h
loosen P Q start (Does (Fails cause.TooManyObjects) p) h = h.0
loosen P Q start (Does a p) h = h

module _ (P Q : List Object → Type 0) (s : System) (weaker : (os : List Object) → Q os → P os)
    (assigned : (n : ℕ) (x : List ℕ) (v : Value) (os : List Object) → P os → P (with_attributes n (assigned_to x v (attributes_of n os)) os))
    (born : (k : ℕ) (os : List Object) → P os → Q (os ++ fresh_object s k ∷ [])) where
  module _ (start : Point) where
    if_kept : (b : Bool) (x y : Step) → Keeps P Q start x → Keeps P Q start y → Keeps P Q start (if b then x else y)
    if_kept true x y h k = h
    if_kept false x y h k = k

    -- ---- values

    reads_as_kept : (d : EntityType) (v : Value) (t : EntityType) (p : Point) → P p.objects → Keeps P Q start (reads_as d v t p)
    reads_as_kept d Void t p h = if_kept d.attached (fails cause.UnsetEntity p) (gives Void t p) h h
    reads_as_kept d (Integer z) t p h = h
    reads_as_kept d (Boolean b) t p h = h
    reads_as_kept d (Attached r) t p h = h

    attribute_kept : (b : Option Binding) (t : EntityType) (p : Point) → P p.objects → Keeps P Q start (reads_attribute b t p)
    attribute_kept None t p h = h
    attribute_kept (Some b) t p h = reads_as_kept t b.value t p h

    outcome_kept : (o : ArithmeticResult) (p : Point) → P p.objects → Keeps P Q start (gives_outcome o p)
    outcome_kept (Ok z) p h = h
    outcome_kept (Err fault.Overflow) p h = h
    outcome_kept (Err fault.DivideByZero) p h = h

    truth_kept : (b : Option Bool) (p : Point) → P p.objects → Keeps P Q start (gives_truth b p)
    truth_kept None p h = h
    truth_kept (Some b) p h = h

    pub unary_kept : (op : UnaryOperator) (v : Value) (p : Point) → P p.objects → Keeps P Q start (apply_unary op v p)
    unary_kept unary.Not (Boolean b) p h = h
    unary_kept unary.Plus (Integer z) p h = h
    unary_kept unary.Minus (Integer z) p h = outcome_kept (opposite_of z) p h
    unary_kept unary.Not (Integer z) p h = h
    unary_kept unary.Not Void p h = h
    unary_kept unary.Not (Attached r) p h = h
    unary_kept unary.Plus (Boolean b) p h = h
    unary_kept unary.Plus Void p h = h
    unary_kept unary.Plus (Attached r) p h = h
    unary_kept unary.Minus (Boolean b) p h = h
    unary_kept unary.Minus Void p h = h
    unary_kept unary.Minus (Attached r) p h = h
    unary_kept unary.Old v p h = h

    integers_kept : (o : Option ArithmeticOperator) (c : Option Comparison) (a b : ℤ) (p : Point) → P p.objects → Keeps P Q start (apply_to_integers o c a b p)
    integers_kept (Some o) c a b p h = outcome_kept (result_of o a b) p h
    integers_kept None (Some c) a b p h = h
    integers_kept None None a b p h = h

    booleans_kept : (o : Option Connective) (a b : Bool) (p : Point) → P p.objects → Keeps P Q start (apply_to_booleans o a b p)
    booleans_kept (Some o) a b p h = h
    booleans_kept None a b p h = h

    binary_kept : (op : BinaryOperator) (v w : Value) (p : Point) → P p.objects → Keeps P Q start (apply_binary op v w p)
    binary_kept op (Integer a) (Integer b) p h = integers_kept (arithmetic_of op) (comparison_of op) a b p h
    binary_kept op (Boolean a) (Boolean b) p h = booleans_kept (connective_of op) a b p h
    binary_kept op (Attached r) (Attached q) p h = truth_kept (identity_of op (is_same_object r q)) p h
    binary_kept op (Attached r) Void p h = truth_kept (identity_of op false) p h
    binary_kept op Void (Attached q) p h = truth_kept (identity_of op false) p h
    binary_kept op Void Void p h = truth_kept (identity_of op true) p h
    binary_kept op (Integer a) (Boolean b) p h = h
    binary_kept op (Integer a) Void p h = h
    binary_kept op (Integer a) (Attached q) p h = h
    binary_kept op (Boolean a) (Integer b) p h = h
    binary_kept op (Boolean a) Void p h = h
    binary_kept op (Boolean a) (Attached q) p h = h
    binary_kept op (Attached r) (Integer b) p h = h
    binary_kept op (Attached r) (Boolean b) p h = h
    binary_kept op Void (Integer b) p h = h
    binary_kept op Void (Boolean b) p h = h

    pub applies_kept : (op : BinaryOperator) (v : Value) (vs : List Operand) (p : Point) → P p.objects → Keeps P Q start (applies op v vs p)
    applies_kept op v [] p h = h
    applies_kept op v (u ∷ vs) p h = binary_kept op u.value v (record p { values = vs }) h

    pub right_kept : (d : Option Bool) (short : Bool) (op : BinaryOperator) (i : ℕ) (e : tree.Expr) (u : Operand) (p : Point) → P p.objects → Keeps P Q start (evals_right d short op i e u p)
    right_kept (Some b) short op i e u p h = h
    right_kept None true op i e u p h = h
    right_kept None false op i e u p h = h

    pub concludes_kept : (v : Value) (p : Point) → P p.objects → Keeps P Q start (concludes v p)
    concludes_kept (Boolean b) p h = h
    concludes_kept (Integer z) p h = h
    concludes_kept Void p h = h
    concludes_kept (Attached r) p h = h

    -- ---- object tests

    binds_if_kept : (b : Bool) (x : List ℕ) (v : Value) (t : EntityType) (p : Point) → P p.objects → Keeps P Q start (binds_if b x v t p)
    binds_if_kept true x v t p h = h
    binds_if_kept false x v t p h = h

    pub binds_kept : (me : ℕ) (d : Option DeclaredType) (x : List ℕ) (v : Value) (t : Option EntityType) (p : Point) → P p.objects → Keeps P Q start (binds s me d x v t p)
    binds_kept me d x v None p h = h
    binds_kept me d x v (Some t) p h = binds_if_kept (is_tested s me (handler_named p.environment) v d t) x v t p h

    -- ---- calls

    enters_kept : (me : Reference) (x : List ℕ) (us : List Operand) (g : Option (Option EntityType)) (p : Point) → P p.objects → Keeps P Q start (enters_unqualified me x us g p)
    enters_kept me x us None p h = h
    enters_kept me x us (Some g) p h = h

    own_kept : (me : Reference) (x : List ℕ) (f : Option DeclaredFeature) (us : List Operand) (p : Point) → P p.objects → Keeps P Q start (calls_own s me x f us p)
    own_kept me x None us p h = h
    own_kept me x (Some f) us p h = enters_kept me x us (given_by (signature_of s (current (place_in s p.text)) f).gives) p h

    pub unqualified_kept : (me : Reference) (x : List ℕ) (us : Option (List Operand × List Operand)) (p : Point) → P p.objects → Keeps P Q start (calls_unqualified s me x us p)
    unqualified_kept me x None p h = h
    unqualified_kept me x (Some (us, vs)) p h = own_kept me x (feature_named s (class.Declared p.text.class) x) us (record p { values = vs }) h

    kind_kept : (r : Reference) (x : List ℕ) (us : List Operand) (g : Option EntityType) (o : Object) (k : FeatureKind) (p : Point) → P p.objects → Keeps P Q start (calls_kind r x us g o k p)
    kind_kept r x us (Some t) o (tree.Attribute d) p h = attribute_kept (binding_named x o.attributes) t p h
    kind_kept r x us None o (tree.Attribute d) p h = h
    kind_kept r x us (Some t) o (tree.Routine c) p h = h
    kind_kept r x us None o (tree.Routine c) p h = h

    version_kept : (r : Reference) (x : List ℕ) (us : List Operand) (g : Option EntityType) (o : Option Object) (f : Option DeclaredFeature) (p : Point) → P p.objects → Keeps P Q start (calls_version r x us g o f p)
    version_kept r x us g (Some o) (Some f) p h = kind_kept r x us g o f.feature.kind p h
    version_kept r x us g (Some o) None p h = h
    version_kept r x us g None f p h = h

    requests_kept : (r : Reference) (t : Tag) (x : List ℕ) (us : List Operand) (g : Option EntityType) (b : Bool) (p : Point) → P p.objects → Keeps P Q start (requests r t x us g b p)
    requests_kept r tag.Own x us g b p h = h
    requests_kept r (tag.With y) x us g b p h = h
    requests_kept r tag.Any x us g b p h = h
    requests_kept r tag.None x us g b p h = h

    object_kept : (me r : Reference) (t : EntityType) (x : List ℕ) (us : List Operand) (g : Signature) (gives : Option (Option EntityType)) (p : Point) → P p.objects → Keeps P Q start (calls_object s me r t x us g gives p)
    object_kept me r t x us g None p h = h
    object_kept me r t x us g (Some gives) p h =
        if_kept (r.handler == me.handler) (calls_version r x us gives (object_numbered r.number p.objects) (version_of s r.class x) p) (requests r t.tag x us gives (passes_rights g.formals us) p)
        (version_kept r x us gives (object_numbered r.number p.objects) (version_of s r.class x) p h)
        (requests_kept r t.tag x us gives (passes_rights g.formals us) p h)

    on_value_kept : (me : Reference) (x : List ℕ) (v : Value) (t : EntityType) (f : Option DeclaredFeature) (us : List Operand) (p : Point) → P p.objects → Keeps P Q start (calls_on s me x v t f us p)
    on_value_kept me x Void t f us p h = h
    on_value_kept me x (Integer z) t f us p h = h
    on_value_kept me x (Boolean b) t f us p h = h
    on_value_kept me x (Attached r) t None us p h = h
    on_value_kept me x (Attached r) t (Some f) us p h = object_kept me r t x us (signature_of s t f) (given_by (signature_of s t f).gives) p h

    pub qualified_kept : (me : Reference) (x : List ℕ) (us : Option (List Operand × List Operand)) (p : Point) → P p.objects → Keeps P Q start (calls_qualified s me x us p)
    qualified_kept me x None p h = h
    qualified_kept me x (Some (us, [])) p h = h
    qualified_kept me x (Some (us, v ∷ vs)) p h = on_value_kept me x v.value v.type (feature_named s v.type.class x) us (record p { values = vs }) h

    -- ---- creations

    new_object_kept : (r : Reference) (t : EntityType) (k : Option (List ℕ)) (us : List Operand) (p : Point) → Q p.objects → Keeps P Q start (creates_object s r t k us p)
    new_object_kept r t (Some x) us p h = weaker p.objects h
    new_object_kept r t None us p h = if_kept (meets_invariant s (fresh_object s r.class)) _ (fails cause.Invariant p) h h

    here_kept : (me : Reference) (k : ℕ) (t : EntityType) (call : Option (List ℕ)) (us : List Operand) (p : Point) → CreatesNext start → P p.objects → Keeps P Q start (creates_here s me k t call us p)
    here_kept me k t call us p next h =
        let q : Point = record p { objects = p.objects ++ fresh_object s k ∷ [] } in
        let r : Reference = record { handler = me.handler; number = length p.objects + 1; class = k } in
        if_kept (nat_lt (length p.objects) max_objects) (creates_object s r t call us q) (fails cause.TooManyObjects p)
        (new_object_kept r t call us q (born k p.objects h)) (h, next)

    creates_at_kept : (me : Reference) (call : Option (List ℕ)) (t : EntityType) (g : Tag) (c : ClassId) (us : List Operand) (p : Point) → CreatesNext start → P p.objects → Keeps P Q start (creates_at s me call t g c us p)
    creates_at_kept me call t tag.Own (class.Declared k) us p next h = here_kept me k t call us p next h
    creates_at_kept me call t tag.Any (class.Declared k) us p next h = h
    creates_at_kept me call t tag.Own class.Any us p next h = h
    creates_at_kept me call t tag.Own class.None us p next h = h
    creates_at_kept me call t tag.Own class.Integer us p next h = h
    creates_at_kept me call t tag.Own class.Boolean us p next h = h
    creates_at_kept me call t tag.Any class.Any us p next h = h
    creates_at_kept me call t tag.Any class.None us p next h = h
    creates_at_kept me call t tag.Any class.Integer us p next h = h
    creates_at_kept me call t tag.Any class.Boolean us p next h = h
    creates_at_kept me call t (tag.With x) c us p next h = h
    creates_at_kept me call t tag.None c us p next h = h

    creates_as_kept : (me : Reference) (call : Option (List ℕ)) (t : Option EntityType) (us : List Operand) (p : Point) → CreatesNext start → P p.objects → Keeps P Q start (creates_as s me call t us p)
    creates_as_kept me call None us p next h = h
    creates_as_kept me call (Some t) us p next h = creates_at_kept me call t t.tag t.class us p next h

    pub creates_kept : (me : Reference) (x : Variable) (call : Option (List ℕ)) (us : Option (List Operand × List Operand)) (p : Point) → CreatesNext start → P p.objects → Keeps P Q start (creates s me x call us p)
    creates_kept me x call None p next h = h
    creates_kept me x call (Some (us, vs)) p next h = creates_as_kept me call (assignee_type (assigned_at s x p)) us (record p { tasks = AssignTo x ∷ p.tasks; values = vs }) next h

    -- ---- expressions

    found_kept : (u : Option Operand) (p : Point) → P p.objects → Keeps P Q start (gives_found u p)
    found_kept None p h = h
    found_kept (Some u) p h = h

    result_kept : (u : Option Operand) (t : Option (Option EntityType)) (p : Point) → P p.objects → Keeps P Q start (reads_result u t p)
    result_kept (Some u) (Some (Some t)) p h = reads_as_kept u.type u.value t p h
    result_kept (Some u) (Some None) p h = h
    result_kept (Some u) None p h = h
    result_kept None t p h = h

    reads_own_kept : (t : Option EntityType) (b : Option Binding) (p : Point) → P p.objects → Keeps P Q start (reads_own t b p)
    reads_own_kept None b p h = h
    reads_own_kept (Some t) b p h = attribute_kept b t p h

    begins_kind_kept : (me : Reference) (x : List ℕ) (k : FeatureKind) (i : ℕ) (es : Exprs) (p : Point) → P p.objects → Keeps P Q start (begins_kind s me x k i es p)
    begins_kind_kept me x (tree.Attribute d) i es p h =
        reads_own_kept (given_type s (current (place_in s p.text)) d) (binding_named x (attributes_of me.number p.objects)) p h
    begins_kind_kept me x (tree.Routine c) i es p h = h

    begins_feature_kept : (me : Reference) (x : List ℕ) (f : Option DeclaredFeature) (i : ℕ) (es : Exprs) (p : Point) → P p.objects → Keeps P Q start (begins_feature s me x f i es p)
    begins_feature_kept me x None i es p h = h
    begins_feature_kept me x (Some f) i es p h = begins_kind_kept me x f.feature.kind i es p h

    begins_name_kept : (me : Reference) (x : List ℕ) (b : Option Binding) (i : ℕ) (es : Exprs) (p : Point) → P p.objects → Keeps P Q start (begins_name s me x b i es p)
    begins_name_kept me x (Some b) i es p h = reads_as_kept b.type b.value b.type p h
    begins_name_kept me x None i es p h = begins_feature_kept me x (feature_named s (class.Declared p.text.class) x) i es p h

    pub evaluate_kept : (me : Reference) (i : ℕ) (e : tree.Expr) (p : Point) → P p.objects → Keeps P Q start (evaluate s me i e p)
    evaluate_kept me i (tree.Integer q z) p h = h
    evaluate_kept me i (tree.Boolean q b) p h = h
    evaluate_kept me i (tree.Void q) p h = h
    evaluate_kept me i (tree.Current q) p h = h
    evaluate_kept me i (tree.Result q) p h = result_kept p.result p.text.result p h
    evaluate_kept me i (tree.Call q tree.no_target x es) p h = begins_name_kept me x.text (binding_named x.text p.environment) i es p h
    evaluate_kept me i (tree.Call q (tree.target a) x es) p h = h
    evaluate_kept me i (tree.Unary q unary.Old a) p h = found_kept (slice_get p.olds i) p h
    evaluate_kept me i (tree.Unary q unary.Not a) p h = h
    evaluate_kept me i (tree.Unary q unary.Plus a) p h = h
    evaluate_kept me i (tree.Unary q unary.Minus a) p h = h
    evaluate_kept me i (tree.Binary q op a b) p h = h
    evaluate_kept me i (tree.ObjectTest q d a x) p h = h

    -- ---- instructions

    pub assigns_kept : (me : Reference) (x : Variable) (a : Assignee) (v : Value) (p : Point) → P p.objects → Keeps P Q start (assigns me x a v p)
    assigns_kept me (Named x) (to_local t) v p h = h
    assigns_kept me (Named x) (to_attribute t) v p h = assigned me.number x.text v p.objects h
    assigns_kept me (ResultVariable q) (to_local (Some t)) v p h = h
    assigns_kept me (Named x) unknown_assignee v p h = h
    assigns_kept me (Named x) unassignable v p h = h
    assigns_kept me (ResultVariable q) unknown_assignee v p h = h
    assigns_kept me (ResultVariable q) unassignable v p h = h
    assigns_kept me (ResultVariable q) (to_local None) v p h = h
    assigns_kept me (ResultVariable q) (to_attribute t) v p h = h

    pub prints_kept : (v : Value) (p : Point) → P p.objects → Keeps P Q start (prints v p)
    prints_kept (Integer z) p h = h
    prints_kept (Boolean b) p h = h
    prints_kept Void p h = h
    prints_kept (Attached r) p h = h

    other_kept : (depth : ℕ) (bs : Branches) (other : Instrs) (p : Point) → P p.objects → Keeps P Q start (chooses_other depth bs other p)
    other_kept depth no_branches other p h = h
    other_kept depth (branch_then e b bs) other p h = h

    pub chooses_kept : (depth : ℕ) (v : Value) (body : Instrs) (bs : Branches) (other : Instrs) (p : Point) → P p.objects → Keeps P Q start (chooses depth v body bs other p)
    chooses_kept depth (Boolean true) body bs other p h = h
    chooses_kept depth (Boolean false) body bs other p h = other_kept depth bs other (forgets depth p) h
    chooses_kept depth (Integer z) body bs other p h = h
    chooses_kept depth Void body bs other p h = h
    chooses_kept depth (Attached r) body bs other p h = h

    pub ends_loop_kept : (v : Value) (e : tree.Expr) (body : Instrs) (p : Point) → P p.objects → Keeps P Q start (ends_loop v e body p)
    ends_loop_kept (Boolean true) e body p h = h
    ends_loop_kept (Boolean false) e body p h = h
    ends_loop_kept (Integer z) e body p h = h
    ends_loop_kept Void e body p h = h
    ends_loop_kept (Attached r) e body p h = h

    pub tests_kept : (why : Cause) (v : Value) (p : Point) → Keeps P Q start (fails why p) → P p.objects → Keeps P Q start (tests why v p)
    tests_kept why (Boolean true) p f h = h
    tests_kept why (Boolean false) p f h = f
    tests_kept why (Integer z) p f h = h
    tests_kept why Void p f h = h
    tests_kept why (Attached r) p f h = h

    pub required_kept : (k : Clause) (v : Value) (p : Point) → P p.objects → Keeps P Q start (required k v p)
    required_kept k (Boolean true) p h = h
    required_kept k (Boolean false) p h = h
    required_kept k (Integer z) p h = h
    required_kept k Void p h = h
    required_kept k (Attached r) p h = h

    pub opens_kept : (xs : List Name) (body : Instrs) (us : Option (List Operand × List Operand)) (p : Point) → P p.objects → Keeps P Q start (opens xs body us p)
    opens_kept xs body None p h = h
    opens_kept xs body (Some (us, vs)) p h = h

    routine_kept : (b : Bool) (x : List ℕ) (es : Exprs) (p : Point) → P p.objects → Keeps P Q start (begins_routine b x es p)
    routine_kept true x no_exprs p h = h
    routine_kept true x (expr_then e no_exprs) p h = h
    routine_kept true x (expr_then e (expr_then f es)) p h = h
    routine_kept false x es p h = h

    pub begins_kept : (i : Instr) (p : Point) → P p.objects → Keeps P Q start (begins i p)
    begins_kept (tree.Assign q x e) p h = h
    begins_kept (tree.PrintText q text) p h = h
    begins_kept (tree.CallRoutine q tree.no_target x es) p h = routine_kept (is_print x.text) x.text es p h
    begins_kept (tree.CallRoutine q (tree.target a) x es) p h = h
    begins_kept (tree.Create q c) p h = h
    begins_kept (tree.If q e body bs other) p h = h
    begins_kept (tree.Loop q initial e body) p h = h
    begins_kept (tree.Check q ks) p h = h
    begins_kept (tree.Block q ds body) p h = h
