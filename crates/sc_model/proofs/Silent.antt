-- Silent steps make what is left to do smaller, so the bound on them is never met.
use Rattle.std.proofs.Common.{◌≡◌, ℕ, zero, suc, ◌+◌, ◌<◌, ◌≤◌, List, [], ◌∷◌, ◌++◌, Option, Some, None, Bool, true, false, refl, subst, arith}
use Rattle.std.specs.Prelude.{map, slice_get, length}
use Rattle.sc_tree.specs.declared.expression.UnaryOperator.TheVariants as unary
use Rattle.sc_tree.specs.Plain as tree
use Rattle.sc_tree.specs.Plain.{System, FeatureKind, Clause, Head, Name, Variable, Named, ResultVariable, Exprs, no_exprs, expr_then, Instr, Instrs, no_instrs, instr_then, Branches, no_branches, branch_then}
use Rattle.sc_class.specs.declared.identity.ClassId.TheVariants as class
use Rattle.sc_tree.specs.Properties.{is_print}
use Rattle.sc_class.specs.Tables.Features.{DeclaredFeature, feature_named}
use Rattle.sc_rules.specs.declared.entity_types.entity_type.EntityType.{EntityType}
use Rattle.sc_rules.specs.Names.{Assignee, unknown_assignee, unassignable, to_local, to_attribute, current, given_type, test_type}
use Rattle.sc_model.specs.declared.cause.Cause.{Cause}
use Rattle.sc_model.specs.declared.cause.Cause.TheVariants as cause
use Rattle.sc_model.specs.Values.{Reference, Value, Integer, Boolean, Void, Attached, Operand}
use Rattle.sc_model.specs.Environments.{Binding, binding_named}
use Rattle.sc_model.specs.Objects.{attributes_of}
use Rattle.sc_model.specs.Operators.{is_short}
use Rattle.sc_model.specs.Routines.{place_in}
use Rattle.sc_model.specs.Olds.{olds_in}
use Rattle.sc_model.specs.Tasks.{Task, Do, In, Declare, Forget, Eval, ApplyUnary, EvalRight, ApplyBinary, Conclude, Bind, CallUnqualified, CallQualified, AssignTo, Print, Choose, Repeat, EndLoop, Checked, Require, Required, KeepOld, Ensured, CreateBy, Open, Leave, head_evals, checks}
use Rattle.sc_model.specs.Steps.{Point, Step, Goes, Does, popped}
use Rattle.sc_model.specs.Creations.{assigned_at}
use Rattle.sc_model.specs.Expressions.{decided_by, gives_found, reads_result, reads_own, begins_kind, begins_feature, begins_name, evaluate}
use Rattle.sc_model.specs.Instructions.{assigns, prints, chooses_other, chooses, ends_loop, tests, required, opens, actuals_of, begins_routine, begins}
use Rattle.sc_model.specs.Sizes.{expr_size, exprs_size, instr_size, instrs_size, branches_size, task_size, size}
use Rattle.sc_model.specs.Moves.{performs_on, performs, step_at, step, then_go, first_visible, moves}
use Rattle.sc_model.specs.Laws.{IsVisible}
use Rattle.sc_model.proofs.SmallerCalls.{Smaller, actuals_size, applies_smaller, attribute_smaller, binds_smaller, checks_size, comes_smaller, concludes_smaller, creates_smaller, evals_smaller, heads_evals_size, qualified_smaller, reads_as_smaller, right_smaller, size_append, target_smaller, unary_smaller, unqualified_smaller}

-- ---- expressions

found_smaller : (n : ℕ) (u : Option Operand) (p : Point) → size p.tasks < n → Smaller n (gives_found u p)
unfolding Smaller
found_smaller n None p h = tt
found_smaller n (Some u) p h = h

result_smaller : (n : ℕ) (u : Option Operand) (t : Option (Option EntityType)) (p : Point) → size p.tasks < n → Smaller n (reads_result u t p)
unfolding Smaller
result_smaller n (Some u) (Some (Some t)) p h = reads_as_smaller n u.type u.value t p h
result_smaller n (Some u) (Some None) p h = tt
result_smaller n (Some u) None p h = tt
result_smaller n None t p h = tt

reads_own_smaller : (n : ℕ) (t : Option EntityType) (b : Option Binding) (p : Point) → size p.tasks < n → Smaller n (reads_own t b p)
unfolding Smaller
reads_own_smaller n None b p h = tt
reads_own_smaller n (Some t) b p h = attribute_smaller n b t p h

begins_kind_smaller : (s : System) (me : Reference) (x : List ℕ) (k : FeatureKind) (i : ℕ) (es : Exprs) (p : Point) → Smaller (exprs_size es + 2 + size p.tasks) (begins_kind s me x k i es p)
unfolding Smaller
begins_kind_smaller s me x (tree.Attribute d) i es p =
    reads_own_smaller _ (given_type s (current (place_in s p.text)) d) (binding_named x (attributes_of me.number p.objects)) p (omega arith)
begins_kind_smaller s me x (tree.Routine c) i es p = evals_smaller _ i es _ p refl (omega arith)

begins_feature_smaller : (s : System) (me : Reference) (x : List ℕ) (f : Option DeclaredFeature) (i : ℕ) (es : Exprs) (p : Point) → Smaller (exprs_size es + 2 + size p.tasks) (begins_feature s me x f i es p)
unfolding Smaller
begins_feature_smaller s me x None i es p = tt
begins_feature_smaller s me x (Some f) i es p = begins_kind_smaller s me x f.feature.kind i es p

begins_name_smaller : (s : System) (me : Reference) (x : List ℕ) (b : Option Binding) (i : ℕ) (es : Exprs) (p : Point) → Smaller (exprs_size es + 2 + size p.tasks) (begins_name s me x b i es p)
unfolding Smaller
begins_name_smaller s me x (Some b) i es p = reads_as_smaller _ b.type b.value b.type p (omega arith)
begins_name_smaller s me x None i es p = begins_feature_smaller s me x (feature_named s (class.Declared p.text.class) x) i es p

evaluate_smaller : (s : System) (me : Reference) (i : ℕ) (e : tree.Expr) (p : Point) → Smaller (expr_size e + size p.tasks) (evaluate s me i e p)
unfolding Smaller
evaluate_smaller s me i (tree.Integer q z) p = omega arith
evaluate_smaller s me i (tree.Boolean q b) p = omega arith
evaluate_smaller s me i (tree.Void q) p = omega arith
evaluate_smaller s me i (tree.Current q) p = omega arith
evaluate_smaller s me i (tree.Result q) p = result_smaller _ p.result p.text.result p (omega arith)
evaluate_smaller s me i (tree.Call q tree.no_target x es) p = begins_name_smaller s me x.text (binding_named x.text p.environment) i es p
evaluate_smaller s me i (tree.Call q (tree.target a) x es) p = target_smaller _ i (i + olds_in a) a es _ p refl (omega arith)
evaluate_smaller s me i (tree.Unary q unary.Old a) p = found_smaller _ (slice_get p.olds i) p (omega arith)
evaluate_smaller s me i (tree.Unary q unary.Not a) p = omega arith
evaluate_smaller s me i (tree.Unary q unary.Plus a) p = omega arith
evaluate_smaller s me i (tree.Unary q unary.Minus a) p = omega arith
evaluate_smaller s me i (tree.Binary q op a b) p = omega arith
evaluate_smaller s me i (tree.ObjectTest q d a x) p = omega arith

-- ---- instructions

assigns_smaller : (n : ℕ) (me : Reference) (x : Variable) (a : Assignee) (v : Value) (p : Point) → size p.tasks < n → Smaller n (assigns me x a v p)
unfolding Smaller
assigns_smaller n me (Named x) (to_local t) v p h = h
assigns_smaller n me (Named x) (to_attribute t) v p h = h
assigns_smaller n me (ResultVariable q) (to_local (Some t)) v p h = h
assigns_smaller n me (Named x) unknown_assignee v p h = tt
assigns_smaller n me (Named x) unassignable v p h = tt
assigns_smaller n me (ResultVariable q) unknown_assignee v p h = tt
assigns_smaller n me (ResultVariable q) unassignable v p h = tt
assigns_smaller n me (ResultVariable q) (to_local None) v p h = tt
assigns_smaller n me (ResultVariable q) (to_attribute t) v p h = tt

prints_smaller : (n : ℕ) (v : Value) (p : Point) → Smaller n (prints v p)
unfolding Smaller
prints_smaller n (Integer z) p = tt
prints_smaller n (Boolean b) p = tt
prints_smaller n Void p = tt
prints_smaller n (Attached r) p = tt

other_smaller : (n depth : ℕ) (bs : Branches) (other : Instrs) (p : Point) → branches_size bs + instrs_size other + size p.tasks < n → Smaller n (chooses_other depth bs other p)
unfolding Smaller
other_smaller n depth no_branches other p h = omega arith
other_smaller n depth (branch_then e b bs) other p h = omega arith

chooses_smaller : (depth : ℕ) (v : Value) (body : Instrs) (bs : Branches) (other : Instrs) (p : Point) → Smaller (instrs_size body + branches_size bs + instrs_size other + 2 + size p.tasks) (chooses depth v body bs other p)
unfolding Smaller
chooses_smaller depth (Boolean true) body bs other p = omega arith
chooses_smaller depth (Boolean false) body bs other p = other_smaller _ depth bs other _ (omega arith)
chooses_smaller depth (Integer z) body bs other p = tt
chooses_smaller depth Void body bs other p = tt
chooses_smaller depth (Attached r) body bs other p = tt

ends_loop_smaller : (n : ℕ) (v : Value) (e : tree.Expr) (body : Instrs) (p : Point) → Smaller n (ends_loop v e body p)
unfolding Smaller
ends_loop_smaller n (Boolean true) e body p = tt
ends_loop_smaller n (Boolean false) e body p = tt
ends_loop_smaller n (Integer z) e body p = tt
ends_loop_smaller n Void e body p = tt
ends_loop_smaller n (Attached r) e body p = tt

tests_smaller : (n : ℕ) (why : Cause) (v : Value) (p : Point) → size p.tasks < n → Smaller n (tests why v p)
unfolding Smaller
tests_smaller n why (Boolean true) p h = h
tests_smaller n why (Boolean false) p h = tt
tests_smaller n why (Integer z) p h = tt
tests_smaller n why Void p h = tt
tests_smaller n why (Attached r) p h = tt

required_smaller : (n : ℕ) (k : Clause) (v : Value) (p : Point) → size p.tasks < n → Smaller n (required k v p)
unfolding Smaller
required_smaller n k (Boolean true) p h = h
required_smaller n k (Boolean false) p h = tt
required_smaller n k (Integer z) p h = tt
required_smaller n k Void p h = tt
required_smaller n k (Attached r) p h = tt

opens_smaller : (n : ℕ) (xs : List Name) (body : Instrs) (us : Option (List Operand × List Operand)) (p : Point) → Smaller n (opens xs body us p)
unfolding Smaller
opens_smaller n xs body None p = tt
opens_smaller n xs body (Some (us, vs)) p = tt

routine_smaller : (b : Bool) (x : List ℕ) (es : Exprs) (p : Point) → Smaller (exprs_size es + 2 + size p.tasks) (begins_routine b x es p)
unfolding Smaller
routine_smaller true x no_exprs p = tt
routine_smaller true x (expr_then e no_exprs) p = omega arith
routine_smaller true x (expr_then e (expr_then f es)) p = tt
routine_smaller false x es p = evals_smaller _ 0 es _ p refl (omega arith)

begins_smaller : (i : Instr) (p : Point) → Smaller (instr_size i + size p.tasks) (begins i p)
unfolding Smaller
begins_smaller (tree.Assign q x e) p = omega arith
begins_smaller (tree.PrintText q text) p = tt
begins_smaller (tree.CallRoutine q tree.no_target x es) p = routine_smaller (is_print x.text) x.text es p
begins_smaller (tree.CallRoutine q (tree.target a) x es) p = target_smaller _ 0 0 a es _ p refl (omega arith)
begins_smaller (tree.Create q c) p = evals_smaller _ 0 (actuals_of c.call) _ p refl (omega (arith, actuals_size c.call))
begins_smaller (tree.If q e body bs other) p = omega arith
begins_smaller (tree.Loop q initial e body) p = omega arith
begins_smaller (tree.Check q ks) p = comes_smaller _ (checks ks) p (omega (arith, checks_size ks))
begins_smaller (tree.Block q ds body) p =
    let open_task : Task = Open (map (λ (d : Head). d.name) ds) body in
    comes_smaller _ (head_evals ds ++ open_task ∷ []) p (omega (arith, size_append (head_evals ds) (open_task ∷ []), heads_evals_size ds))

-- ---- tasks

on_smaller : (s : System) (me : Reference) (t : Task) (u : Operand) (p : Point) → Smaller (task_size t + size p.tasks) (performs_on s me t u p)
unfolding Smaller
on_smaller s me (ApplyUnary op) u p = unary_smaller _ op u.value p (omega arith)
on_smaller s me (EvalRight op i e) u p = right_smaller (decided_by op u.value) (is_short op) op i e u p
on_smaller s me (ApplyBinary op) u p = applies_smaller _ op u.value p.values p (omega arith)
on_smaller s me Conclude u p = concludes_smaller _ u.value p (omega arith)
on_smaller s me (Bind d x) u p = binds_smaller _ s me.handler d x u.value (test_type (place_in s p.text) d (Some u.type)) p (omega arith)
on_smaller s me (AssignTo x) u p = assigns_smaller _ me x (assigned_at s x p) u.value p (omega arith)
on_smaller s me Print u p = prints_smaller _ u.value p
on_smaller s me (Choose depth body bs other) u p = chooses_smaller depth u.value body bs other p
on_smaller s me (EndLoop e body) u p = ends_loop_smaller _ u.value e body p
on_smaller s me Checked u p = tests_smaller _ cause.Check u.value p (omega arith)
on_smaller s me (Required k) u p = required_smaller _ k u.value p (omega arith)
on_smaller s me KeepOld u p = omega arith
on_smaller s me Ensured u p = tests_smaller _ cause.Postcondition u.value p (omega arith)
on_smaller s me (Do b) u p = tt
on_smaller s me (In t) u p = tt
on_smaller s me (Declare l) u p = tt
on_smaller s me (Forget d) u p = tt
on_smaller s me (Eval i e) u p = tt
on_smaller s me (CallUnqualified x n) u p = tt
on_smaller s me (CallQualified x n) u p = tt
on_smaller s me (Repeat e b) u p = tt
on_smaller s me (Require ks) u p = tt
on_smaller s me (CreateBy x k n) u p = tt
on_smaller s me (Open xs b) u p = tt
on_smaller s me (Leave d) u p = tt

weaker : (m n : ℕ) (st : Step) → m ≤ n → Smaller m st → Smaller n st
unfolding Smaller
weaker m n (Goes q) le h = omega (arith, le, h)
weaker m n (Does a q) le h = tt

-- one task, where p.tasks is what is left behind it
performs_smaller : (s : System) (me : Reference) (t : Task) (vs : List Operand) (p : Point) → Smaller (task_size t + size p.tasks) (performs s me t vs p)
unfolding Smaller
performs_smaller s me (Do no_instrs) vs p = omega arith
performs_smaller s me (Do (instr_then i is)) vs p =
    let q : Point = record p { tasks = Do is ∷ p.tasks } in
    weaker (instr_size i + size q.tasks) (instrs_size (instr_then i is) + size p.tasks) (begins i q) (omega arith) (begins_smaller i q)
performs_smaller s me (In text) vs p = omega arith
performs_smaller s me (Declare locals) vs p = omega arith
performs_smaller s me (Forget depth) vs p = omega arith
performs_smaller s me (Eval i e) vs p = evaluate_smaller s me i e p
performs_smaller s me (CallUnqualified x n) vs p = unqualified_smaller _ s me x (popped n [] vs) p
performs_smaller s me (CallQualified x n) vs p = qualified_smaller _ s me x (popped n [] vs) p (omega arith)
performs_smaller s me (Repeat e body) vs p = omega arith
performs_smaller s me (Require []) vs p = tt
performs_smaller s me (Require (k ∷ ks)) vs p = omega arith
performs_smaller s me (CreateBy x k n) vs p = creates_smaller _ s me x k (popped n [] vs) p
performs_smaller s me (Open xs body) vs p = opens_smaller _ xs body (popped (length xs) [] vs) p
performs_smaller s me (Leave depth) vs p = tt
performs_smaller s me (ApplyUnary op) [] p = tt
performs_smaller s me (EvalRight op i e) [] p = tt
performs_smaller s me (ApplyBinary op) [] p = tt
performs_smaller s me Conclude [] p = tt
performs_smaller s me (Bind d x) [] p = tt
performs_smaller s me (AssignTo x) [] p = tt
performs_smaller s me Print [] p = tt
performs_smaller s me (Choose depth body bs other) [] p = tt
performs_smaller s me (EndLoop e body) [] p = tt
performs_smaller s me Checked [] p = tt
performs_smaller s me (Required k) [] p = tt
performs_smaller s me KeepOld [] p = tt
performs_smaller s me Ensured [] p = tt
performs_smaller s me (ApplyUnary op) (u ∷ vs) p = on_smaller s me (ApplyUnary op) u (record p { values = vs })
performs_smaller s me (EvalRight op i e) (u ∷ vs) p = on_smaller s me (EvalRight op i e) u (record p { values = vs })
performs_smaller s me (ApplyBinary op) (u ∷ vs) p = on_smaller s me (ApplyBinary op) u (record p { values = vs })
performs_smaller s me Conclude (u ∷ vs) p = on_smaller s me Conclude u (record p { values = vs })
performs_smaller s me (Bind d x) (u ∷ vs) p = on_smaller s me (Bind d x) u (record p { values = vs })
performs_smaller s me (AssignTo x) (u ∷ vs) p = on_smaller s me (AssignTo x) u (record p { values = vs })
performs_smaller s me Print (u ∷ vs) p = on_smaller s me Print u (record p { values = vs })
performs_smaller s me (Choose depth body bs other) (u ∷ vs) p = on_smaller s me (Choose depth body bs other) u (record p { values = vs })
performs_smaller s me (EndLoop e body) (u ∷ vs) p = on_smaller s me (EndLoop e body) u (record p { values = vs })
performs_smaller s me Checked (u ∷ vs) p = on_smaller s me Checked u (record p { values = vs })
performs_smaller s me (Required k) (u ∷ vs) p = on_smaller s me (Required k) u (record p { values = vs })
performs_smaller s me KeepOld (u ∷ vs) p = on_smaller s me KeepOld u (record p { values = vs })
performs_smaller s me Ensured (u ∷ vs) p = on_smaller s me Ensured u (record p { values = vs })

step_at_smaller : (s : System) (me : Reference) (ts : List Task) (p : Point) → Smaller (size ts) (step_at s me ts p)
unfolding Smaller
step_at_smaller s me [] p = tt
step_at_smaller s me (t ∷ ts) p = performs_smaller s me t p.values (record p { tasks = ts })

-- ---- turns

-- a silent step makes what is left smaller
pub falls : (s : System) (me : Reference) (p q : Point) → step s me p ≡ Goes q → size q.tasks < size p.tasks
unfolding Smaller
falls s me p q e = subst (Smaller (size p.tasks)) e (step_at_smaller s me p.tasks p)

then_visible : (st : Step) (go : Point → Step) → ((q : Point) → st ≡ Goes q → IsVisible (go q)) → IsVisible (then_go st go)
then_visible (Goes q) go h = h q refl
then_visible (Does a q) go h = tt

visible_within : (n : ℕ) (s : System) (me : Reference) (p : Point) → size p.tasks < n → IsVisible (first_visible n s me p)
visible_within zero s me p h = absurd (omega arith)
visible_within (suc n) s me p h =
    then_visible (step s me p) (first_visible n s me) (λ q e. let lt = falls s me p q e in visible_within n s me q (omega arith))

-- what a turn comes to is a visible step: the bound is never met
pub moves_visible : (s : System) (me : Reference) (p : Point) → IsVisible (moves s me p)
moves_visible s me p = visible_within (suc (size p.tasks)) s me p (omega arith)
