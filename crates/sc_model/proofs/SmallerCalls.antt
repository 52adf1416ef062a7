-- Values, object tests, calls and creations make what is left to do smaller.
use Rattle.std.proofs.Common.{◌≡◌, ℕ, ℤ, ◌+◌, ◌<◌, ◌≤◌, List, [], ◌∷◌, ◌++◌, Option, Some, None, Ok, Err, Bool, true, false, refl, arith}
use Rattle.std.specs.Prelude.{if◌then◌else◌, ◌==◌, length, nat_lt}
use Rattle.sc_formula.specs.declared.arithmetic.ArithmeticFault.TheVariants as fault
use Rattle.sc_formula.specs.declared.arithmetic.ArithmeticOperator.{ArithmeticOperator}
use Rattle.sc_formula.specs.declared.comparison.Comparison.{Comparison}
use Rattle.sc_formula.specs.declared.connective.Connective.{Connective}
use Rattle.sc_formula.specs.Arithmetic.{ArithmeticResult, opposite_of, result_of}
use Rattle.sc_tree.specs.declared.expression.UnaryOperator.{UnaryOperator}
use Rattle.sc_tree.specs.declared.expression.UnaryOperator.TheVariants as unary
use Rattle.sc_tree.specs.declared.expression.BinaryOperator.{BinaryOperator}
use Rattle.sc_tree.specs.Plain as tree
use Rattle.sc_tree.specs.Plain.{System, FeatureKind, DeclaredType, Clause, Head, Variable, CreationCall, Exprs, no_exprs, expr_then}
use Rattle.sc_class.specs.declared.identity.ClassId.{ClassId}
use Rattle.sc_class.specs.declared.identity.ClassId.TheVariants as class
use Rattle.sc_class.specs.Tables.Features.{DeclaredFeature, feature_named}
use Rattle.sc_rules.specs.declared.entity_types.tag.Tag.{Tag}
use Rattle.sc_rules.specs.declared.entity_types.tag.Tag.TheVariants as tag
use Rattle.sc_rules.specs.declared.entity_types.entity_type.EntityType.{EntityType}
use Rattle.sc_rules.specs.Names.{assignee_type, Signature, signature_of, current}
use Rattle.sc_model.specs.declared.cause.Cause.TheVariants as cause
use Rattle.sc_model.specs.Values.{Reference, Value, Integer, Boolean, Void, Attached, Operand}
use Rattle.sc_model.specs.Environments.{Binding, binding_named, handler_named}
use Rattle.sc_model.specs.Objects.{Object, object_numbered, fresh_object}
use Rattle.sc_model.specs.Invariants.{meets_invariant}
use Rattle.sc_model.specs.Operators.{arithmetic_of, comparison_of, connective_of, identity_of}
use Rattle.sc_model.specs.Routines.{place_in, version_of}
use Rattle.sc_model.specs.Olds.{olds_in}
use Rattle.sc_model.specs.Limits.{max_objects}
use Rattle.sc_model.specs.Tasks.{Task, Eval, AssignTo, evals, head_evals, checks}
use Rattle.sc_model.specs.Steps.{Point, Step, Goes, Does, fails, comes, gives, reads_as, reads_attribute}
use Rattle.sc_model.specs.Calls.{given_by, passes_rights, enters_unqualified, calls_own, calls_unqualified, calls_kind, calls_version, requests, calls_object, calls_on, calls_qualified}
use Rattle.sc_model.specs.Creations.{creates_object, creates_here, creates_at, creates_as, creates, assigned_at}
use Rattle.sc_model.specs.ObjectTests.{is_tested, binds_if, binds}
use Rattle.sc_model.specs.Expressions.{gives_outcome, gives_truth, apply_unary, apply_to_integers, apply_to_booleans, is_same_object, apply_binary, applies, evals_right, concludes}
use Rattle.sc_model.specs.Instructions.{actuals_of}
use Rattle.sc_model.specs.Sizes.{expr_size, exprs_size, clauses_size, heads_size, creation_size, task_size, size}

-- what a step leaves is smaller, unless it is visible
unfoldable pub Smaller : ℕ → Step → Type 0
Smaller n (Goes p) = size p.tasks < n
Smaller n (Does a p) = Unit {0}

-- ---- sizes of what constructs set out

pub size_append : (xs ys : List Task) → size (xs ++ ys) ≡ size xs + size ys
size_append [] ys = omega arith
size_append (t ∷ ts) ys = omega (arith, size_append ts ys)

evals_size : (i : ℕ) (es : Exprs) → size (evals i es) ≡ exprs_size es
evals_size i no_exprs = refl
evals_size i (expr_then e es) = omega (arith, evals_size (i + olds_in e) es)

pub heads_evals_size : (ds : List Head) → size (head_evals ds) ≡ heads_size ds
heads_evals_size [] = refl
heads_evals_size (d ∷ ds) = omega (arith, heads_evals_size ds)

pub checks_size : (ks : List Clause) → size (checks ks) ≤ clauses_size ks
checks_size [] = omega arith
checks_size (k ∷ ks) = omega (arith, checks_size ks)

pub actuals_size : (k : Option CreationCall) → exprs_size (actuals_of k) ≡ creation_size k
actuals_size None = refl
actuals_size (Some k) = refl

pub comes_smaller : (n : ℕ) (ts : List Task) (p : Point) → size ts + size p.tasks < n → Smaller n (comes ts p)
unfolding Smaller
comes_smaller n ts p h = omega (arith, size_append ts p.tasks)

-- actuals, and then a task of size 1
pub evals_smaller : (n i : ℕ) (es : Exprs) (t : Task) (p : Point) → task_size t ≡ 1 → exprs_size es + 1 + size p.tasks < n → Smaller n (comes (evals i es ++ t ∷ []) p)
evals_smaller n i es t p one h = comes_smaller n (evals i es ++ t ∷ []) p (omega (arith, size_append (evals i es) (t ∷ []), evals_size i es, one))

-- with a target before them
pub target_smaller : (n i j : ℕ) (a : tree.Expr) (es : Exprs) (t : Task) (p : Point) → task_size t ≡ 1 → expr_size a + exprs_size es + 1 + size p.tasks < n
    → Smaller n (comes (Eval i a ∷ evals j es ++ t ∷ []) p)
target_smaller n i j a es t p one h =
    comes_smaller n (Eval i a ∷ evals j es ++ t ∷ []) p (omega (arith, size_append (evals j es) (t ∷ []), size_append (Eval i a ∷ evals j es) (t ∷ []), evals_size j es, one))

if_smaller : (n : ℕ) (b : Bool) (x y : Step) → Smaller n x → Smaller n y → Smaller n (if b then x else y)
if_smaller n true x y h k = h
if_smaller n false x y h k = k

-- ---- values

pub reads_as_smaller : (n : ℕ) (d : EntityType) (v : Value) (t : EntityType) (p : Point) → size p.tasks < n → Smaller n (reads_as d v t p)
unfolding Smaller
reads_as_smaller n d Void t p h = if_smaller n d.attached (fails cause.UnsetEntity p) (gives Void t p) tt h
reads_as_smaller n d (Integer z) t p h = h
reads_as_smaller n d (Boolean b) t p h = h
reads_as_smaller n d (Attached r) t p h = h

pub attribute_smaller : (n : ℕ) (b : Option Binding) (t : EntityType) (p : Point) → size p.tasks < n → Smaller n (reads_attribute b t p)
unfolding Smaller
attribute_smaller n None t p h = tt
attribute_smaller n (Some b) t p h = reads_as_smaller n t b.value t p h

outcome_smaller : (n : ℕ) (o : ArithmeticResult) (p : Point) → size p.tasks < n → Smaller n (gives_outcome o p)
unfolding Smaller
outcome_smaller n (Ok z) p h = h
outcome_smaller n (Err fault.Overflow) p h = tt
outcome_smaller n (Err fault.DivideByZero) p h = tt

truth_smaller : (n : ℕ) (b : Option Bool) (p : Point) → size p.tasks < n → Smaller n (gives_truth b p)
unfolding Smaller
truth_smaller n None p h = tt
truth_smaller n (Some b) p h = h

pub unary_smaller : (n : ℕ) (op : UnaryOperator) (v : Value) (p : Point) → size p.tasks < n → Smaller n (apply_unary op v p)
unfolding Smaller
unary_smaller n unary.Not (Boolean b) p h = h
unary_smaller n unary.Plus (Integer z) p h = h
unary_smaller n unary.Minus (Integer z) p h = outcome_smaller n (opposite_of z) p h
unary_smaller n unary.Not (Integer z) p h = tt
unary_smaller n unary.Not Void p h = tt
unary_smaller n unary.Not (Attached r) p h = tt
unary_smaller n unary.Plus (Boolean b) p h = tt
unary_smaller n unary.Plus Void p h = tt
unary_smaller n unary.Plus (Attached r) p h = tt
unary_smaller n unary.Minus (Boolean b) p h = tt
unary_smaller n unary.Minus Void p h = tt
unary_smaller n unary.Minus (Attached r) p h = tt
unary_smaller n unary.Old v p h = tt

integers_smaller : (n : ℕ) (o : Option ArithmeticOperator) (c : Option Comparison) (a b : ℤ) (p : Point) → size p.tasks < n → Smaller n (apply_to_integers o c a b p)
unfolding Smaller
integers_smaller n (Some o) c a b p h = outcome_smaller n (result_of o a b) p h
integers_smaller n None (Some c) a b p h = h
integers_smaller n None None a b p h = tt

booleans_smaller : (n : ℕ) (o : Option Connective) (a b : Bool) (p : Point) → size p.tasks < n → Smaller n (apply_to_booleans o a b p)
unfolding Smaller
booleans_smaller n (Some o) a b p h = h
booleans_smaller n None a b p h = tt

binary_smaller : (n : ℕ) (op : BinaryOperator) (v w : Value) (p : Point) → size p.tasks < n → Smaller n (apply_binary op v w p)
unfolding Smaller
binary_smaller n op (Integer a) (Integer b) p h = integers_smaller n (arithmetic_of op) (comparison_of op) a b p h
binary_smaller n op (Boolean a) (Boolean b) p h = booleans_smaller n (connective_of op) a b p h
binary_smaller n op (Attached r) (Attached q) p h = truth_smaller n (identity_of op (is_same_object r q)) p h
binary_smaller n op (Attached r) Void p h = truth_smaller n (identity_of op false) p h
binary_smaller n op Void (Attached q) p h = truth_smaller n (identity_of op false) p h
binary_smaller n op Void Void p h = truth_smaller n (identity_of op true) p h
binary_smaller n op (Integer a) (Boolean b) p h = tt
binary_smaller n op (Integer a) Void p h = tt
binary_smaller n op (Integer a) (Attached q) p h = tt
binary_smaller n op (Boolean a) (Integer b) p h = tt
binary_smaller n op (Boolean a) Void p h = tt
binary_smaller n op (Boolean a) (Attached q) p h = tt
binary_smaller n op (Attached r) (Integer b) p h = tt
binary_smaller n op (Attached r) (Boolean b) p h = tt
binary_smaller n op Void (Integer b) p h = tt
binary_smaller n op Void (Boolean b) p h = tt

pub applies_smaller : (n : ℕ) (op : BinaryOperator) (v : Value) (vs : List Operand) (p : Point) → size p.tasks < n → Smaller n (applies op v vs p)
unfolding Smaller
applies_smaller n op v [] p h = tt
applies_smaller n op v (u ∷ vs) p h = binary_smaller n op u.value v (record p { values = vs }) h

pub right_smaller : (d : Option Bool) (short : Bool) (op : BinaryOperator) (i : ℕ) (e : tree.Expr) (u : Operand) (p : Point) → Smaller (expr_size e + 2 + size p.tasks) (evals_right d short op i e u p)
unfolding Smaller
right_smaller (Some b) short op i e u p = omega arith
right_smaller None true op i e u p = omega arith
right_smaller None false op i e u p = omega arith

pub concludes_smaller : (n : ℕ) (v : Value) (p : Point) → size p.tasks < n → Smaller n (concludes v p)
unfolding Smaller
concludes_smaller n (Boolean b) p h = h
concludes_smaller n (Integer z) p h = tt
concludes_smaller n Void p h = tt
concludes_smaller n (Attached r) p h = tt

-- ---- object tests

binds_if_smaller : (n : ℕ) (b : Bool) (x : List ℕ) (v : Value) (t : EntityType) (p : Point) → size p.tasks < n → Smaller n (binds_if b x v t p)
unfolding Smaller
binds_if_smaller n true x v t p h = h
binds_if_smaller n false x v t p h = h

pub binds_smaller : (n : ℕ) (s : System) (me : ℕ) (d : Option DeclaredType) (x : List ℕ) (v : Value) (t : Option EntityType) (p : Point) → size p.tasks < n → Smaller n (binds s me d x v t p)
unfolding Smaller
binds_smaller n s me d x v None p h = tt
binds_smaller n s me d x v (Some t) p h = binds_if_smaller n (is_tested s me (handler_named p.environment) v d t) x v t p h

-- ---- calls

enters_smaller : (n : ℕ) (me : Reference) (x : List ℕ) (us : List Operand) (g : Option (Option EntityType)) (p : Point) → Smaller n (enters_unqualified me x us g p)
unfolding Smaller
enters_smaller n me x us None p = tt
enters_smaller n me x us (Some g) p = tt

own_smaller : (n : ℕ) (s : System) (me : Reference) (x : List ℕ) (f : Option DeclaredFeature) (us : List Operand) (p : Point) → Smaller n (calls_own s me x f us p)
unfolding Smaller
own_smaller n s me x None us p = tt
own_smaller n s me x (Some f) us p = enters_smaller n me x us (given_by (signature_of s (current (place_in s p.text)) f).gives) p

pub unqualified_smaller : (n : ℕ) (s : System) (me : Reference) (x : List ℕ) (us : Option (List Operand × List Operand)) (p : Point) → Smaller n (calls_unqualified s me x us p)
unfolding Smaller
unqualified_smaller n s me x None p = tt
unqualified_smaller n s me x (Some (us, vs)) p = own_smaller n s me x (feature_named s (class.Declared p.text.class) x) us (record p { values = vs })

kind_smaller : (n : ℕ) (r : Reference) (x : List ℕ) (us : List Operand) (g : Option EntityType) (o : Object) (k : FeatureKind) (p : Point) → size p.tasks < n → Smaller n (calls_kind r x us g o k p)
unfolding Smaller
kind_smaller n r x us (Some t) o (tree.Attribute d) p h = attribute_smaller n (binding_named x o.attributes) t p h
kind_smaller n r x us None o (tree.Attribute d) p h = tt
kind_smaller n r x us (Some t) o (tree.Routine c) p h = tt
kind_smaller n r x us None o (tree.Routine c) p h = tt

version_smaller : (n : ℕ) (r : Reference) (x : List ℕ) (us : List Operand) (g : Option EntityType) (o : Option Object) (f : Option DeclaredFeature) (p : Point) → size p.tasks < n → Smaller n (calls_version r x us g o f p)
unfolding Smaller
version_smaller n r x us g (Some o) (Some f) p h = kind_smaller n r x us g o f.feature.kind p h
version_smaller n r x us g (Some o) None p h = tt
version_smaller n r x us g None f p h = tt

requests_smaller : (n : ℕ) (r : Reference) (t : Tag) (x : List ℕ) (us : List Operand) (g : Option EntityType) (b : Bool) (p : Point) → Smaller n (requests r t x us g b p)
unfolding Smaller
requests_smaller n r tag.Own x us g b p = tt
requests_smaller n r (tag.With y) x us g b p = tt
requests_smaller n r tag.Any x us g b p = tt
requests_smaller n r tag.None x us g b p = tt

object_smaller : (n : ℕ) (s : System) (me r : Reference) (t : EntityType) (x : List ℕ) (us : List Operand) (g : Signature) (gives : Option (Option EntityType)) (p : Point) → size p.tasks < n → Smaller n (calls_object s me r t x us g gives p)
unfolding Smaller
object_smaller n s me r t x us g None p h = tt
object_smaller n s me r t x us g (Some gives) p h =
    if_smaller n (r.handler == me.handler) (calls_version r x us gives (object_numbered r.number p.objects) (version_of s r.class x) p) (requests r t.tag x us gives (passes_rights g.formals us) p)
    (version_smaller n r x us gives (object_numbered r.number p.objects) (version_of s r.class x) p h)
    (requests_smaller n r t.tag x us gives (passes_rights g.formals us) p)

on_value_smaller : (n : ℕ) (s : System) (me : Reference) (x : List ℕ) (v : Value) (t : EntityType) (f : Option DeclaredFeature) (us : List Operand) (p : Point) → size p.tasks < n → Smaller n (calls_on s me x v t f us p)
unfolding Smaller
on_value_smaller n s me x Void t f us p h = tt
on_value_smaller n s me x (Integer z) t f us p h = tt
on_value_smaller n s me x (Boolean b) t f us p h = tt
on_value_smaller n s me x (Attached r) t None us p h = tt
on_value_smaller n s me x (Attached r) t (Some f) us p h = object_smaller n s me r t x us (signature_of s t f) (given_by (signature_of s t f).gives) p h

pub qualified_smaller : (n : ℕ) (s : System) (me : Reference) (x : List ℕ) (us : Option (List Operand × List Operand)) (p : Point) → size p.tasks < n → Smaller n (calls_qualified s me x us p)
unfolding Smaller
qualified_smaller n s me x None p h = tt
qualified_smaller n s me x (Some (us, [])) p h = tt
qualified_smaller n s me x (Some (us, v ∷ vs)) p h = on_value_smaller n s me x v.value v.type (feature_named s v.type.class x) us (record p { values = vs }) h

-- ---- creations

new_object_smaller : (n : ℕ) (s : System) (r : Reference) (t : EntityType) (k : Option (List ℕ)) (us : List Operand) (p : Point) → Smaller n (creates_object s r t k us p)
unfolding Smaller
new_object_smaller n s r t (Some x) us p = tt
new_object_smaller n s r t None us p = if_smaller n (meets_invariant s (fresh_object s r.class)) _ (fails cause.Invariant p) tt tt

here_smaller : (n : ℕ) (s : System) (me : Reference) (k : ℕ) (t : EntityType) (call : Option (List ℕ)) (us : List Operand) (p : Point) → Smaller n (creates_here s me k t call us p)
unfolding Smaller
here_smaller n s me k t call us p =
    if_smaller n (nat_lt (length p.objects) max_objects)
    (creates_object s (record { handler = me.handler; number = length p.objects + 1; class = k }) t call us (record p { objects = p.objects ++ fresh_object s k ∷ [] }))
    (fails cause.TooManyObjects p)
    (new_object_smaller n s (record { handler = me.handler; number = length p.objects + 1; class = k }) t call us (record p { objects = p.objects ++ fresh_object s k ∷ [] })) tt

creates_at_smaller : (n : ℕ) (s : System) (me : Reference) (call : Option (List ℕ)) (t : EntityType) (g : Tag) (c : ClassId) (us : List Operand) (p : Point) → Smaller n (creates_at s me call t g c us p)
unfolding Smaller
creates_at_smaller n s me call t tag.Own (class.Declared k) us p = here_smaller n s me k t call us p
creates_at_smaller n s me call t tag.Any (class.Declared k) us p = tt
creates_at_smaller n s me call t tag.Own class.Any us p = tt
creates_at_smaller n s me call t tag.Own class.None us p = tt
creates_at_smaller n s me call t tag.Own class.Integer us p = tt
creates_at_smaller n s me call t tag.Own class.Boolean us p = tt
creates_at_smaller n s me call t tag.Any class.Any us p = tt
creates_at_smaller n s me call t tag.Any class.None us p = tt
creates_at_smaller n s me call t tag.Any class.Integer us p = tt
creates_at_smaller n s me call t tag.Any class.Boolean us p = tt
creates_at_smaller n s me call t (tag.With x) c us p = tt
creates_at_smaller n s me call t tag.None c us p = tt

creates_as_smaller : (n : ℕ) (s : System) (me : Reference) (call : Option (List ℕ)) (t : Option EntityType) (us : List Operand) (p : Point) → Smaller n (creates_as s me call t us p)
unfolding Smaller
creates_as_smaller n s me call None us p = tt
creates_as_smaller n s me call (Some t) us p = creates_at_smaller n s me call t t.tag t.class us p

pub creates_smaller : (n : ℕ) (s : System) (me : Reference) (x : Variable) (call : Option (List ℕ)) (us : Option (List Operand × List Operand)) (p : Point) → Smaller n (creates s me x call us p)
unfolding Smaller
creates_smaller n s me x call None p = tt
creates_smaller n s me x call (Some (us, vs)) p = creates_as_smaller n s me call (assignee_type (assigned_at s x p)) us (record p { tasks = AssignTo x ∷ p.tasks; values = vs })
