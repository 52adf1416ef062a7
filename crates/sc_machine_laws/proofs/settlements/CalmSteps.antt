-- Where no clause of a precondition is left, a step leaves none, and none is found false.
use Rattle.std.proofs.Common.{◌≡◌, ℕ, zero, suc, ◌+◌, List, [], ◌∷◌, ◌++◌, Option, Some, None, Bool, true, false, refl, subst}
use Rattle.std.specs.Prelude.{map, slice_get, ◌==◌, length, nat_lt}
use Rattle.sc_tree.specs.declared.expression.UnaryOperator.TheVariants as unary
use Rattle.sc_tree.specs.Plain as tree
use Rattle.sc_tree.specs.Plain.{System, FeatureKind, Head, Name, Variable, Named, ResultVariable, Exprs, no_exprs, expr_then, Instr, Instrs, no_instrs, instr_then, Branches, no_branches, branch_then}
use Rattle.sc_class.specs.declared.identity.ClassId.{ClassId}
use Rattle.sc_class.specs.declared.identity.ClassId.TheVariants as class
use Rattle.sc_tree.specs.Properties.{is_print}
use Rattle.sc_class.specs.Tables.Features.{DeclaredFeature, feature_named}
use Rattle.sc_rules.specs.declared.entity_types.tag.Tag.{Tag}
use Rattle.sc_rules.specs.declared.entity_types.tag.Tag.TheVariants as tag
use Rattle.sc_rules.specs.declared.entity_types.entity_type.EntityType.{EntityType}
use Rattle.sc_rules.specs.CallRules.{count}
use Rattle.sc_rules.specs.Names.{Assignee, unknown_assignee, unassignable, to_local, to_attribute, assignee_type, Signature, signature_of, current, given_type, test_type}
use Rattle.sc_model.specs.declared.cause.Cause.{Cause}
use Rattle.sc_model.specs.declared.cause.Cause.TheVariants as cause
use Rattle.sc_model.specs.Values.{Reference, Value, Integer, Boolean, Void, Attached, Operand}
use Rattle.sc_model.specs.Environments.{Binding, binding_named}
use Rattle.sc_model.specs.Objects.{Object, object_numbered, attributes_of, fresh_object}
use Rattle.sc_model.specs.Invariants.{meets_invariant}
use Rattle.sc_model.specs.Operators.{is_short}
use Rattle.sc_model.specs.Routines.{place_in, version_of}
use Rattle.sc_model.specs.Olds.{olds_in}
use Rattle.sc_model.specs.Limits.{max_objects}
use Rattle.sc_model.specs.Tasks.{Task, Do, In, Declare, Forget, Eval, ApplyUnary, EvalRight, ApplyBinary, Conclude, Bind, CallUnqualified, CallQualified, AssignTo, Print, Choose, Repeat, EndLoop, Checked, Require, Required, KeepOld, Ensured, CreateBy, Open, Leave, head_evals, checks}
use Rattle.sc_model.specs.Steps.{Point, Step, Goes, Does, fails, gives, popped, forgets}
use Rattle.sc_model.specs.Calls.{given_by, passes_rights, enters_unqualified, calls_own, calls_unqualified, calls_kind, calls_version, requests, calls_object, calls_on, calls_qualified}
use Rattle.sc_model.specs.Creations.{creates_object, creates_here, creates_at, creates_as, creates, assigned_at}
use Rattle.sc_model.specs.Expressions.{decided_by, gives_found, reads_result, reads_own, begins_kind, begins_feature, begins_name, evaluate}
use Rattle.sc_model.specs.Instructions.{assigns, prints, chooses_other, chooses, ends_loop, tests, opens, actuals_of, procedure_of, begins_routine, begins}
use Rattle.sc_model.specs.Sizes.{size}
use Rattle.sc_model.specs.Moves.{performs_on, performs, step_at, step, then_go, first_visible}
use Rattle.sc_machine_laws.specs.settlements.Entries.{is_clause, HasStarted, RefusesNone, StartedStay}
use Rattle.sc_machine_laws.proofs.settlements.CalmValues.{applies_calm, attribute_calm, binds_calm, calm_append, checks_calm, comes_calm, concludes_calm, evals_calm, heads_calm, if_calm, reads_as_calm, right_calm, target_calm, unary_calm}

-- ---- calls

enters_calm : (me : Reference) (x : List ℕ) (us : List Operand) (g : Option (Option EntityType)) (p : Point) → HasStarted p.tasks → RefusesNone (enters_unqualified me x us g p)
enters_calm me x us None p h = tt
enters_calm me x us (Some g) p h = h

own_calm : (s : System) (me : Reference) (x : List ℕ) (f : Option DeclaredFeature) (us : List Operand) (p : Point) → HasStarted p.tasks → RefusesNone (calls_own s me x f us p)
own_calm s me x None us p h = tt
own_calm s me x (Some f) us p h = enters_calm me x us (given_by (signature_of s (current (place_in s p.text)) f).gives) p h

unqualified_calm : (s : System) (me : Reference) (x : List ℕ) (us : Option (List Operand × List Operand)) (p : Point) → HasStarted p.tasks → RefusesNone (calls_unqualified s me x us p)
unqualified_calm s me x None p h = tt
unqualified_calm s me x (Some (us, vs)) p h = own_calm s me x (feature_named s (class.Declared p.text.class) x) us (record p { values = vs }) h

kind_calm : (r : Reference) (x : List ℕ) (us : List Operand) (g : Option EntityType) (o : Object) (k : FeatureKind) (p : Point) → HasStarted p.tasks → RefusesNone (calls_kind r x us g o k p)
kind_calm r x us (Some t) o (tree.Attribute d) p h = attribute_calm (binding_named x o.attributes) t p h
kind_calm r x us None o (tree.Attribute d) p h = tt
kind_calm r x us (Some t) o (tree.Routine c) p h = h
kind_calm r x us None o (tree.Routine c) p h = h

version_calm : (r : Reference) (x : List ℕ) (us : List Operand) (g : Option EntityType) (o : Option Object) (f : Option DeclaredFeature) (p : Point) → HasStarted p.tasks → RefusesNone (calls_version r x us g o f p)
version_calm r x us g (Some o) (Some f) p h = kind_calm r x us g o f.feature.kind p h
version_calm r x us g (Some o) None p h = tt
version_calm r x us g None f p h = tt

requests_calm : (r : Reference) (t : Tag) (x : List ℕ) (us : List Operand) (g : Option EntityType) (b : Bool) (p : Point) → HasStarted p.tasks → RefusesNone (requests r t x us g b p)
requests_calm r tag.Own x us g b p h = tt
requests_calm r (tag.With y) x us g b p h = h
requests_calm r tag.Any x us g b p h = h
requests_calm r tag.None x us g b p h = h

object_calm : (s : System) (me r : Reference) (t : EntityType) (x : List ℕ) (us : List Operand) (g : Signature) (gives : Option (Option EntityType)) (p : Point) → HasStarted p.tasks → RefusesNone (calls_object s me r t x us g gives p)
object_calm s me r t x us g None p h = tt
object_calm s me r t x us g (Some gives) p h =
    if_calm (r.handler == me.handler) (calls_version r x us gives (object_numbered r.number p.objects) (version_of s r.class x) p) (requests r t.tag x us gives (passes_rights g.formals us) p)
    (version_calm r x us gives (object_numbered r.number p.objects) (version_of s r.class x) p h)
    (requests_calm r t.tag x us gives (passes_rights g.formals us) p h)

on_value_calm : (s : System) (me : Reference) (x : List ℕ) (v : Value) (t : EntityType) (f : Option DeclaredFeature) (us : List Operand) (p : Point) → HasStarted p.tasks → RefusesNone (calls_on s me x v t f us p)
on_value_calm s me x Void t f us p h = tt
on_value_calm s me x (Integer z) t f us p h = tt
on_value_calm s me x (Boolean b) t f us p h = tt
on_value_calm s me x (Attached r) t None us p h = tt
on_value_calm s me x (Attached r) t (Some f) us p h = object_calm s me r t x us (signature_of s t f) (given_by (signature_of s t f).gives) p h

qualified_calm : (s : System) (me : Reference) (x : List ℕ) (us : Option (List Operand × List Operand)) (p : Point) → HasStarted p.tasks → RefusesNone (calls_qualified s me x us p)
qualified_calm s me x None p h = tt
qualified_calm s me x (Some (us, [])) p h = tt
qualified_calm s me x (Some (us, v ∷ vs)) p h = on_value_calm s me x v.value v.type (feature_named s v.type.class x) us (record p { values = vs }) h

-- ---- creations

new_object_calm : (s : System) (r : Reference) (t : EntityType) (k : Option (List ℕ)) (us : List Operand) (p : Point) → HasStarted p.tasks → RefusesNone (creates_object s r t k us p)
new_object_calm s r t (Some x) us p h = h
new_object_calm s r t None us p h = if_calm (meets_invariant s (fresh_object s r.class)) _ (fails cause.Invariant p) h tt

here_calm : (s : System) (me : Reference) (k : ℕ) (t : EntityType) (call : Option (List ℕ)) (us : List Operand) (p : Point) → HasStarted p.tasks → RefusesNone (creates_here s me k t call us p)
here_calm s me k t call us p h =
    if_calm (nat_lt (length p.objects) max_objects)
    (creates_object s (record { handler = me.handler; number = length p.objects + 1; class = k }) t call us (record p { objects = p.objects ++ fresh_object s k ∷ [] }))
    (fails cause.TooManyObjects p)
    (new_object_calm s (record { handler = me.handler; number = length p.objects + 1; class = k }) t call us (record p { objects = p.objects ++ fresh_object s k ∷ [] }) h) tt

creates_at_calm : (s : System) (me : Reference) (call : Option (List ℕ)) (t : EntityType) (g : Tag) (c : ClassId) (us : List Operand) (p : Point) → HasStarted p.tasks → RefusesNone (creates_at s me call t g c us p)
creates_at_calm s me call t tag.Own (class.Declared k) us p h = here_calm s me k t call us p h
creates_at_calm s me call t tag.Any (class.Declared k) us p h = h
creates_at_calm s me call t tag.Own class.Any us p h = tt
creates_at_calm s me call t tag.Own class.None us p h = tt
creates_at_calm s me call t tag.Own class.Integer us p h = tt
creates_at_calm s me call t tag.Own class.Boolean us p h = tt
creates_at_calm s me call t tag.Any class.Any us p h = tt
creates_at_calm s me call t tag.Any class.None us p h = tt
creates_at_calm s me call t tag.Any class.Integer us p h = tt
creates_at_calm s me call t tag.Any class.Boolean us p h = tt
creates_at_calm s me call t (tag.With x) c us p h = tt
creates_at_calm s me call t tag.None c us p h = tt

creates_as_calm : (s : System) (me : Reference) (call : Option (List ℕ)) (t : Option EntityType) (us : List Operand) (p : Point) → HasStarted p.tasks → RefusesNone (creates_as s me call t us p)
creates_as_calm s me call None us p h = tt
creates_as_calm s me call (Some t) us p h = creates_at_calm s me call t t.tag t.class us p h

creates_calm : (s : System) (me : Reference) (x : Variable) (call : Option (List ℕ)) (us : Option (List Operand × List Operand)) (p : Point) → HasStarted p.tasks → RefusesNone (creates s me x call us p)
creates_calm s me x call None p h = tt
creates_calm s me x call (Some (us, vs)) p h = creates_as_calm s me call (assignee_type (assigned_at s x p)) us (record p { tasks = AssignTo x ∷ p.tasks; values = vs }) (refl, h)

-- ---- expressions

found_calm : (u : Option Operand) (p : Point) → HasStarted p.tasks → RefusesNone (gives_found u p)
found_calm None p h = tt
found_calm (Some u) p h = h

result_calm : (u : Option Operand) (t : Option (Option EntityType)) (p : Point) → HasStarted p.tasks → RefusesNone (reads_result u t p)
result_calm (Some u) (Some (Some t)) p h = reads_as_calm u.type u.value t p h
result_calm (Some u) (Some None) p h = tt
result_calm (Some u) None p h = tt
result_calm None t p h = tt

reads_own_calm : (t : Option EntityType) (b : Option Binding) (p : Point) → HasStarted p.tasks → RefusesNone (reads_own t b p)
reads_own_calm None b p h = tt
reads_own_calm (Some t) b p h = attribute_calm b t p h

begins_kind_calm : (s : System) (me : Reference) (x : List ℕ) (k : FeatureKind) (i : ℕ) (es : Exprs) (p : Point) → HasStarted p.tasks → RefusesNone (begins_kind s me x k i es p)
begins_kind_calm s me x (tree.Attribute d) i es p h =
    reads_own_calm (given_type s (current (place_in s p.text)) d) (binding_named x (attributes_of me.number p.objects)) p h
begins_kind_calm s me x (tree.Routine c) i es p h = evals_calm i es (CallUnqualified x (count es)) p refl h

begins_feature_calm : (s : System) (me : Reference) (x : List ℕ) (f : Option DeclaredFeature) (i : ℕ) (es : Exprs) (p : Point) → HasStarted p.tasks → RefusesNone (begins_feature s me x f i es p)
begins_feature_calm s me x None i es p h = tt
begins_feature_calm s me x (Some f) i es p h = begins_kind_calm s me x f.feature.kind i es p h

begins_name_calm : (s : System) (me : Reference) (x : List ℕ) (b : Option Binding) (i : ℕ) (es : Exprs) (p : Point) → HasStarted p.tasks → RefusesNone (begins_name s me x b i es p)
begins_name_calm s me x (Some b) i es p h = reads_as_calm b.type b.value b.type p h
begins_name_calm s me x None i es p h = begins_feature_calm s me x (feature_named s (class.Declared p.text.class) x) i es p h

evaluate_calm : (s : System) (me : Reference) (i : ℕ) (e : tree.Expr) (p : Point) → HasStarted p.tasks → RefusesNone (evaluate s me i e p)
evaluate_calm s me i (tree.Integer q z) p h = h
evaluate_calm s me i (tree.Boolean q b) p h = h
evaluate_calm s me i (tree.Void q) p h = h
evaluate_calm s me i (tree.Current q) p h = h
evaluate_calm s me i (tree.Result q) p h = result_calm p.result p.text.result p h
evaluate_calm s me i (tree.Call q tree.no_target x es) p h = begins_name_calm s me x.text (binding_named x.text p.environment) i es p h
evaluate_calm s me i (tree.Call q (tree.target a) x es) p h = target_calm i (i + olds_in a) a es (CallQualified x.text (count es)) p refl h
evaluate_calm s me i (tree.Unary q unary.Old a) p h = found_calm (slice_get p.olds i) p h
evaluate_calm s me i (tree.Unary q unary.Not a) p h = (refl, (refl, h))
evaluate_calm s me i (tree.Unary q unary.Plus a) p h = (refl, (refl, h))
evaluate_calm s me i (tree.Unary q unary.Minus a) p h = (refl, (refl, h))
evaluate_calm s me i (tree.Binary q op a b) p h = (refl, (refl, h))
evaluate_calm s me i (tree.ObjectTest q d a x) p h = (refl, (refl, h))

-- ---- instructions

assigns_calm : (me : Reference) (x : Variable) (a : Assignee) (v : Value) (p : Point) → HasStarted p.tasks → RefusesNone (assigns me x a v p)
assigns_calm me (Named x) (to_local t) v p h = h
assigns_calm me (Named x) (to_attribute t) v p h = h
assigns_calm me (ResultVariable q) (to_local (Some t)) v p h = h
assigns_calm me (Named x) unknown_assignee v p h = tt
assigns_calm me (Named x) unassignable v p h = tt
assigns_calm me (ResultVariable q) unknown_assignee v p h = tt
assigns_calm me (ResultVariable q) unassignable v p h = tt
assigns_calm me (ResultVariable q) (to_local None) v p h = tt
assigns_calm me (ResultVariable q) (to_attribute t) v p h = tt

prints_calm : (v : Value) (p : Point) → HasStarted p.tasks → RefusesNone (prints v p)
prints_calm (Integer z) p h = h
prints_calm (Boolean b) p h = h
prints_calm Void p h = tt
prints_calm (Attached r) p h = tt

other_calm : (depth : ℕ) (bs : Branches) (other : Instrs) (p : Point) → HasStarted p.tasks → RefusesNone (chooses_other depth bs other p)
other_calm depth no_branches other p h = (refl, h)
other_calm depth (branch_then e b bs) other p h = (refl, (refl, h))

chooses_calm : (depth : ℕ) (v : Value) (body : Instrs) (bs : Branches) (other : Instrs) (p : Point) → HasStarted p.tasks → RefusesNone (chooses depth v body bs other p)
chooses_calm depth (Boolean true) body bs other p h = (refl, (refl, h))
chooses_calm depth (Boolean false) body bs other p h = other_calm depth bs other (forgets depth p) h
chooses_calm depth (Integer z) body bs other p h = tt
chooses_calm depth Void body bs other p h = tt
chooses_calm depth (Attached r) body bs other p h = tt

ends_loop_calm : (v : Value) (e : tree.Expr) (body : Instrs) (p : Point) → HasStarted p.tasks → RefusesNone (ends_loop v e body p)
ends_loop_calm (Boolean true) e body p h = h
ends_loop_calm (Boolean false) e body p h = (refl, (refl, h))
ends_loop_calm (Integer z) e body p h = tt
ends_loop_calm Void e body p h = tt
ends_loop_calm (Attached r) e body p h = tt

tests_calm : (why : Cause) (v : Value) (p : Point) → HasStarted p.tasks → RefusesNone (tests why v p)
tests_calm why (Boolean true) p h = h
tests_calm why (Boolean false) p h = tt
tests_calm why (Integer z) p h = tt
tests_calm why Void p h = tt
tests_calm why (Attached r) p h = tt

opens_calm : (xs : List Name) (body : Instrs) (us : Option (List Operand × List Operand)) (p : Point) → HasStarted p.tasks → RefusesNone (opens xs body us p)
opens_calm xs body None p h = tt
opens_calm xs body (Some (us, vs)) p h = (refl, (refl, h))

routine_calm : (b : Bool) (x : List ℕ) (es : Exprs) (p : Point) → HasStarted p.tasks → RefusesNone (begins_routine b x es p)
routine_calm true x no_exprs p h = tt
routine_calm true x (expr_then e no_exprs) p h = (refl, (refl, h))
routine_calm true x (expr_then e (expr_then f es)) p h = tt
routine_calm false x es p h = evals_calm 0 es (CallUnqualified x (count es)) p refl h

begins_calm : (i : Instr) (p : Point) → HasStarted p.tasks → RefusesNone (begins i p)
begins_calm (tree.Assign q x e) p h = (refl, (refl, h))
begins_calm (tree.PrintText q text) p h = h
begins_calm (tree.CallRoutine q tree.no_target x es) p h = routine_calm (is_print x.text) x.text es p h
begins_calm (tree.CallRoutine q (tree.target a) x es) p h = target_calm 0 0 a es (CallQualified x.text (count es)) p refl h
begins_calm (tree.Create q c) p h = evals_calm 0 (actuals_of c.call) (CreateBy c.variable (procedure_of c.call) (count (actuals_of c.call))) p refl h
begins_calm (tree.If q e body bs other) p h = (refl, (refl, h))
begins_calm (tree.Loop q initial e body) p h = (refl, (refl, h))
begins_calm (tree.Check q ks) p h = comes_calm (checks ks) p (checks_calm ks) h
begins_calm (tree.Block q ds body) p h =
    let open_task : Task = Open (map (λ (d : Head). d.name) ds) body in
    comes_calm (head_evals ds ++ open_task ∷ []) p (calm_append (head_evals ds) (open_task ∷ []) (heads_calm ds) (refl, tt)) h

-- ---- tasks

on_calm : (s : System) (me : Reference) (t : Task) (u : Operand) (p : Point) → is_clause t ≡ false → HasStarted p.tasks → RefusesNone (performs_on s me t u p)
on_calm s me (ApplyUnary op) u p e h = unary_calm op u.value p h
on_calm s me (EvalRight op i right) u p e h = right_calm (decided_by op u.value) (is_short op) op i right u p h
on_calm s me (ApplyBinary op) u p e h = applies_calm op u.value p.values p h
on_calm s me Conclude u p e h = concludes_calm u.value p h
on_calm s me (Bind d x) u p e h = binds_calm s me.handler d x u.value (test_type (place_in s p.text) d (Some u.type)) p h
on_calm s me (AssignTo x) u p e h = assigns_calm me x (assigned_at s x p) u.value p h
on_calm s me Print u p e h = prints_calm u.value p h
on_calm s me (Choose depth body bs other) u p e h = chooses_calm depth u.value body bs other p h
on_calm s me (EndLoop until body) u p e h = ends_loop_calm u.value until body p h
on_calm s me Checked u p e h = tests_calm cause.Check u.value p h
on_calm s me (Required k) u p e h = cc
on_calm s me KeepOld u p e h = h
on_calm s me Ensured u p e h = tests_calm cause.Postcondition u.value p h
on_calm s me (Do b) u p e h = tt
on_calm s me (In t) u p e h = tt
on_calm s me (Declare l) u p e h = tt
on_calm s me (Forget d) u p e h = tt
on_calm s me (Eval i right) u p e h = tt
on_calm s me (CallUnqualified x n) u p e h = tt
on_calm s me (CallQualified x n) u p e h = tt
on_calm s me (Repeat until b) u p e h = tt
on_calm s me (Require ks) u p e h = tt
on_calm s me (CreateBy x k n) u p e h = tt
on_calm s me (Open xs b) u p e h = tt
on_calm s me (Leave d) u p e h = tt

-- one task, where p.tasks is what is left after it
performs_calm : (s : System) (me : Reference) (t : Task) (vs : List Operand) (p : Point) → is_clause t ≡ false → HasStarted p.tasks → RefusesNone (performs s me t vs p)
performs_calm s me (Do no_instrs) vs p e h = h
performs_calm s me (Do (instr_then i is)) vs p e h =
    begins_calm i (record p { tasks = Do is ∷ p.tasks }) (refl, h)
performs_calm s me (In text) vs p e h = h
performs_calm s me (Declare locals) vs p e h = h
performs_calm s me (Forget depth) vs p e h = h
performs_calm s me (Eval i a) vs p e h = evaluate_calm s me i a p h
performs_calm s me (CallUnqualified x n) vs p e h = unqualified_calm s me x (popped n [] vs) p h
performs_calm s me (CallQualified x n) vs p e h = qualified_calm s me x (popped n [] vs) p h
performs_calm s me (Repeat until body) vs p e h = (refl, (refl, h))
performs_calm s me (Require ks) vs p e h = cc
performs_calm s me (CreateBy x k n) vs p e h = creates_calm s me x k (popped n [] vs) p h
performs_calm s me (Open xs body) vs p e h = opens_calm xs body (popped (length xs) [] vs) p h
performs_calm s me (Leave depth) vs p e h = h
performs_calm s me (ApplyUnary op) [] p e h = tt
performs_calm s me (EvalRight op i right) [] p e h = tt
performs_calm s me (ApplyBinary op) [] p e h = tt
performs_calm s me Conclude [] p e h = tt
performs_calm s me (Bind d x) [] p e h = tt
performs_calm s me (AssignTo x) [] p e h = tt
performs_calm s me Print [] p e h = tt
performs_calm s me (Choose depth body bs other) [] p e h = tt
performs_calm s me (EndLoop until body) [] p e h = tt
performs_calm s me Checked [] p e h = tt
performs_calm s me (Required k) [] p e h = tt
performs_calm s me KeepOld [] p e h = tt
performs_calm s me Ensured [] p e h = tt
performs_calm s me (ApplyUnary op) (u ∷ vs) p e h = on_calm s me (ApplyUnary op) u (record p { values = vs }) e h
performs_calm s me (EvalRight op i right) (u ∷ vs) p e h = on_calm s me (EvalRight op i right) u (record p { values = vs }) e h
performs_calm s me (ApplyBinary op) (u ∷ vs) p e h = on_calm s me (ApplyBinary op) u (record p { values = vs }) e h
performs_calm s me Conclude (u ∷ vs) p e h = on_calm s me Conclude u (record p { values = vs }) e h
performs_calm s me (Bind d x) (u ∷ vs) p e h = on_calm s me (Bind d x) u (record p { values = vs }) e h
performs_calm s me (AssignTo x) (u ∷ vs) p e h = on_calm s me (AssignTo x) u (record p { values = vs }) e h
performs_calm s me Print (u ∷ vs) p e h = on_calm s me Print u (record p { values = vs }) e h
performs_calm s me (Choose depth body bs other) (u ∷ vs) p e h = on_calm s me (Choose depth body bs other) u (record p { values = vs }) e h
performs_calm s me (EndLoop until body) (u ∷ vs) p e h = on_calm s me (EndLoop until body) u (record p { values = vs }) e h
performs_calm s me Checked (u ∷ vs) p e h = on_calm s me Checked u (record p { values = vs }) e h
performs_calm s me (Required k) (u ∷ vs) p e h = on_calm s me (Required k) u (record p { values = vs }) e h
performs_calm s me KeepOld (u ∷ vs) p e h = on_calm s me KeepOld u (record p { values = vs }) e h
performs_calm s me Ensured (u ∷ vs) p e h = on_calm s me Ensured u (record p { values = vs }) e h

step_at_calm : (s : System) (me : Reference) (ts : List Task) (p : Point) → p.tasks ≡ ts → HasStarted p.tasks → RefusesNone (step_at s me ts p)
step_at_calm s me [] p e h = h
step_at_calm s me (t ∷ ts) p e h = let c : HasStarted (t ∷ ts) = subst HasStarted e h in performs_calm s me t p.values (record p { tasks = ts }) c.0 c.1

then_calm : (st : Step) (go : Point → Step) → RefusesNone st → ((p : Point) → HasStarted p.tasks → RefusesNone (go p)) → RefusesNone (then_go st go)
then_calm (Goes p) go h on = on p h
then_calm (Does a p) go h on = h

visible_calm : (n : ℕ) (s : System) (me : Reference) (p : Point) → HasStarted p.tasks → RefusesNone (first_visible n s me p)
visible_calm zero s me p h = h
visible_calm (suc n) s me p h = then_calm (step s me p) (first_visible n s me) (step_at_calm s me p.tasks p refl h) (λ q i. visible_calm n s me q i)

-- so does a turn's part of it
pub moves_calm : StartedStay
moves_calm s me p h = visible_calm (suc (size p.tasks)) s me p h
