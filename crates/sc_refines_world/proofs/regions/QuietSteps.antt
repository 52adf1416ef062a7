-- A step ends a routine only where nothing is left to do, and a clause that it finds false changes no entity.
use Rattle.std.proofs.Common.{◌≡◌, ℕ, List, [], ◌∷◌, ◌++◌, Option, Some, None, Bool, true, false, refl, sym, ap, subst}
use Rattle.std.specs.Prelude.{map, length}
use Rattle.sc_tree.specs.Plain as tree
use Rattle.sc_tree.specs.Plain.{System, Clause, Head, Name, Variable, Named, ResultVariable, Exprs, no_exprs, expr_then, Instr, Instrs, no_instrs, instr_then, Branches, no_branches, branch_then}
use Rattle.sc_tree.specs.Properties.{is_print}
use Rattle.sc_rules.specs.Names.{Assignee, unknown_assignee, unassignable, to_local, to_attribute, test_type}
use Rattle.sc_model.specs.declared.cause.Cause.{Cause}
use Rattle.sc_model.specs.declared.cause.Cause.TheVariants as cause
use Rattle.sc_model.specs.Values.{Reference, Value, Integer, Boolean, Void, Attached, Operand}
use Rattle.sc_model.specs.Operators.{is_short}
use Rattle.sc_model.specs.Routines.{place_in}
use Rattle.sc_model.specs.Tasks.{Task, Do, In, Declare, Forget, Eval, ApplyUnary, EvalRight, ApplyBinary, Conclude, Bind, CallUnqualified, CallQualified, AssignTo, Print, Choose, Repeat, EndLoop, Checked, Require, Required, KeepOld, Ensured, CreateBy, Open, Leave, head_evals, checks}
use Rattle.sc_model.specs.Steps.{Point, Act, Exits, Opens, Refuses, Step, Goes, Does, popped}
use Rattle.sc_model.specs.Creations.{assigned_at}
use Rattle.sc_model.specs.Expressions.{decided_by}
use Rattle.sc_model.specs.Instructions.{assigns, prints, chooses_other, chooses, ends_loop, tests, required, opens, begins_routine, begins}
use Rattle.sc_model.specs.Moves.{performs_on, performs, step_at, step}
use Rattle.sc_refines_world.proofs.regions.Quiet.{IsLike, IsOpened, Quiet, act_is, point_is, no_refusal, comes_quiet, unary_quiet, applies_quiet, right_quiet, concludes_quiet, binds_quiet, unqualified_quiet, qualified_quiet, creates_quiet, evaluate_quiet}

module _ (point : Point) where
  -- ---- instructions

  assigns_quiet : (n : ℕ) (me : Reference) (x : Variable) (a : Assignee) (v : Value) (p : Point) → Unit {0} → Quiet point (assigns me x a v p)
  unfolding Quiet
  assigns_quiet n me (Named x) (to_local t) v p h = h
  assigns_quiet n me (Named x) (to_attribute t) v p h = h
  assigns_quiet n me (ResultVariable q) (to_local (Some t)) v p h = h
  assigns_quiet n me (Named x) unknown_assignee v p h = tt
  assigns_quiet n me (Named x) unassignable v p h = tt
  assigns_quiet n me (ResultVariable q) unknown_assignee v p h = tt
  assigns_quiet n me (ResultVariable q) unassignable v p h = tt
  assigns_quiet n me (ResultVariable q) (to_local None) v p h = tt
  assigns_quiet n me (ResultVariable q) (to_attribute t) v p h = tt

  prints_quiet : (n : ℕ) (v : Value) (p : Point) → Quiet point (prints v p)
  unfolding Quiet
  prints_quiet n (Integer z) p = tt
  prints_quiet n (Boolean b) p = tt
  prints_quiet n Void p = tt
  prints_quiet n (Attached r) p = tt

  other_quiet : (n depth : ℕ) (bs : Branches) (other : Instrs) (p : Point) → Unit {0} → Quiet point (chooses_other depth bs other p)
  unfolding Quiet
  other_quiet n depth no_branches other p h = tt
  other_quiet n depth (branch_then e b bs) other p h = tt

  chooses_quiet : (depth : ℕ) (v : Value) (body : Instrs) (bs : Branches) (other : Instrs) (p : Point) → Quiet point (chooses depth v body bs other p)
  unfolding Quiet
  chooses_quiet depth (Boolean true) body bs other p = tt
  chooses_quiet depth (Boolean false) body bs other p = other_quiet 0 depth bs other _ (tt)
  chooses_quiet depth (Integer z) body bs other p = tt
  chooses_quiet depth Void body bs other p = tt
  chooses_quiet depth (Attached r) body bs other p = tt

  ends_loop_quiet : (n : ℕ) (v : Value) (e : tree.Expr) (body : Instrs) (p : Point) → Quiet point (ends_loop v e body p)
  unfolding Quiet
  ends_loop_quiet n (Boolean true) e body p = tt
  ends_loop_quiet n (Boolean false) e body p = tt
  ends_loop_quiet n (Integer z) e body p = tt
  ends_loop_quiet n Void e body p = tt
  ends_loop_quiet n (Attached r) e body p = tt

  tests_quiet : (n : ℕ) (why : Cause) (v : Value) (p : Point) → Unit {0} → Quiet point (tests why v p)
  unfolding Quiet
  tests_quiet n why (Boolean true) p h = h
  tests_quiet n why (Boolean false) p h = tt
  tests_quiet n why (Integer z) p h = tt
  tests_quiet n why Void p h = tt
  tests_quiet n why (Attached r) p h = tt

  required_quiet : (n : ℕ) (k : Clause) (v : Value) (p : Point) → IsLike point p → Quiet point (required k v p)
  unfolding Quiet
  required_quiet n k (Boolean true) p h = tt
  required_quiet n k (Boolean false) p h = h
  required_quiet n k (Integer z) p h = tt
  required_quiet n k Void p h = tt
  required_quiet n k (Attached r) p h = tt

  opens_quiet : (n : ℕ) (xs : List Name) (body : Instrs) (us : Option (List Operand × List Operand)) (p : Point) → IsLike point p → Quiet point (opens xs body us p)
  unfolding Quiet
  opens_quiet n xs body None p h = tt
  opens_quiet n xs body (Some (us, vs)) p h = record { body = body; rest = p.tasks; tasks = ap (λ bs. Do body ∷ Leave (length bs) ∷ p.tasks) h.0 }

  routine_quiet : (b : Bool) (x : List ℕ) (es : Exprs) (p : Point) → Quiet point (begins_routine b x es p)
  unfolding Quiet
  routine_quiet true x no_exprs p = tt
  routine_quiet true x (expr_then e no_exprs) p = tt
  routine_quiet true x (expr_then e (expr_then f es)) p = tt
  routine_quiet false x es p = tt

  begins_quiet : (i : Instr) (p : Point) → Quiet point (begins i p)
  unfolding Quiet
  begins_quiet (tree.Assign q x e) p = tt
  begins_quiet (tree.PrintText q text) p = tt
  begins_quiet (tree.CallRoutine q tree.no_target x es) p = routine_quiet (is_print x.text) x.text es p
  begins_quiet (tree.CallRoutine q (tree.target a) x es) p = tt
  begins_quiet (tree.Create q c) p = tt
  begins_quiet (tree.If q e body bs other) p = tt
  begins_quiet (tree.Loop q initial e body) p = tt
  begins_quiet (tree.Check q ks) p = comes_quiet point 0 (checks ks) p (tt)
  begins_quiet (tree.Block q ds body) p = comes_quiet point 0 (head_evals ds ++ Open (map (λ (d : Head). d.name) ds) body ∷ []) p tt

  -- ---- tasks

  on_quiet : (s : System) (me : Reference) (t : Task) (u : Operand) (p : Point) → IsLike point p → Quiet point (performs_on s me t u p)
  unfolding Quiet
  on_quiet s me (ApplyUnary op) u p h = unary_quiet point 0 op u.value p (tt)
  on_quiet s me (EvalRight op i e) u p h = right_quiet point (decided_by op u.value) (is_short op) op i e u p
  on_quiet s me (ApplyBinary op) u p h = applies_quiet point 0 op u.value p.values p (tt)
  on_quiet s me Conclude u p h = concludes_quiet point 0 u.value p (tt)
  on_quiet s me (Bind d x) u p h = binds_quiet point 0 s me.handler d x u.value (test_type (place_in s p.text) d (Some u.type)) p (tt)
  on_quiet s me (AssignTo x) u p h = assigns_quiet 0 me x (assigned_at s x p) u.value p (tt)
  on_quiet s me Print u p h = prints_quiet 0 u.value p
  on_quiet s me (Choose depth body bs other) u p h = chooses_quiet depth u.value body bs other p
  on_quiet s me (EndLoop e body) u p h = ends_loop_quiet 0 u.value e body p
  on_quiet s me Checked u p h = tests_quiet 0 cause.Check u.value p (tt)
  on_quiet s me (Required k) u p h = required_quiet 0 k u.value p h
  on_quiet s me KeepOld u p h = tt
  on_quiet s me Ensured u p h = tests_quiet 0 cause.Postcondition u.value p (tt)
  on_quiet s me (Do b) u p h = tt
  on_quiet s me (In t) u p h = tt
  on_quiet s me (Declare l) u p h = tt
  on_quiet s me (Forget d) u p h = tt
  on_quiet s me (Eval i e) u p h = tt
  on_quiet s me (CallUnqualified x n) u p h = tt
  on_quiet s me (CallQualified x n) u p h = tt
  on_quiet s me (Repeat e b) u p h = tt
  on_quiet s me (Require ks) u p h = tt
  on_quiet s me (CreateBy x k n) u p h = tt
  on_quiet s me (Open xs b) u p h = tt
  on_quiet s me (Leave d) u p h = tt

  -- one task, where p.tasks is what is left after it
  performs_quiet : (s : System) (me : Reference) (t : Task) (vs : List Operand) (p : Point) → IsLike point p → Quiet point (performs s me t vs p)
  unfolding Quiet
  performs_quiet s me (Do no_instrs) vs p h = tt
  performs_quiet s me (Do (instr_then i is)) vs p h = begins_quiet i (record p { tasks = Do is ∷ p.tasks })
  performs_quiet s me (In text) vs p h = tt
  performs_quiet s me (Declare locals) vs p h = tt
  performs_quiet s me (Forget depth) vs p h = tt
  performs_quiet s me (Eval i e) vs p h = evaluate_quiet point s me i e p
  performs_quiet s me (CallUnqualified x n) vs p h = unqualified_quiet point 0 s me x (popped n [] vs) p
  performs_quiet s me (CallQualified x n) vs p h = qualified_quiet point 0 s me x (popped n [] vs) p (tt)
  performs_quiet s me (Repeat e body) vs p h = tt
  performs_quiet s me (Require []) vs p h = tt
  performs_quiet s me (Require (k ∷ ks)) vs p h = tt
  performs_quiet s me (CreateBy x k n) vs p h = creates_quiet point 0 s me x k (popped n [] vs) p
  performs_quiet s me (Open xs body) vs p h = opens_quiet 0 xs body (popped (length xs) [] vs) p h
  performs_quiet s me (Leave depth) vs p h = tt
  performs_quiet s me (ApplyUnary op) [] p h = tt
  performs_quiet s me (EvalRight op i e) [] p h = tt
  performs_quiet s me (ApplyBinary op) [] p h = tt
  performs_quiet s me Conclude [] p h = tt
  performs_quiet s me (Bind d x) [] p h = tt
  performs_quiet s me (AssignTo x) [] p h = tt
  performs_quiet s me Print [] p h = tt
  performs_quiet s me (Choose depth body bs other) [] p h = tt
  performs_quiet s me (EndLoop e body) [] p h = tt
  performs_quiet s me Checked [] p h = tt
  performs_quiet s me (Required k) [] p h = tt
  performs_quiet s me KeepOld [] p h = tt
  performs_quiet s me Ensured [] p h = tt
  performs_quiet s me (ApplyUnary op) (u ∷ vs) p h = on_quiet s me (ApplyUnary op) u (record p { values = vs }) h
  performs_quiet s me (EvalRight op i e) (u ∷ vs) p h = on_quiet s me (EvalRight op i e) u (record p { values = vs }) h
  performs_quiet s me (ApplyBinary op) (u ∷ vs) p h = on_quiet s me (ApplyBinary op) u (record p { values = vs }) h
  performs_quiet s me Conclude (u ∷ vs) p h = on_quiet s me Conclude u (record p { values = vs }) h
  performs_quiet s me (Bind d x) (u ∷ vs) p h = on_quiet s me (Bind d x) u (record p { values = vs }) h
  performs_quiet s me (AssignTo x) (u ∷ vs) p h = on_quiet s me (AssignTo x) u (record p { values = vs }) h
  performs_quiet s me Print (u ∷ vs) p h = on_quiet s me Print u (record p { values = vs }) h
  performs_quiet s me (Choose depth body bs other) (u ∷ vs) p h = on_quiet s me (Choose depth body bs other) u (record p { values = vs }) h
  performs_quiet s me (EndLoop e body) (u ∷ vs) p h = on_quiet s me (EndLoop e body) u (record p { values = vs }) h
  performs_quiet s me Checked (u ∷ vs) p h = on_quiet s me Checked u (record p { values = vs }) h
  performs_quiet s me (Required k) (u ∷ vs) p h = on_quiet s me (Required k) u (record p { values = vs }) h
  performs_quiet s me KeepOld (u ∷ vs) p h = on_quiet s me KeepOld u (record p { values = vs }) h
  performs_quiet s me Ensured (u ∷ vs) p h = on_quiet s me Ensured u (record p { values = vs }) h

-- ---- steps

-- a task is done
task_quiet : (s : System) (me : Reference) (t : Task) (ts : List Task) (p : Point) → Quiet p (step_at s me (t ∷ ts) p)
task_quiet s me t ts p = performs_quiet p s me t p.values (record p { tasks = ts }) (refl, refl)

no_exit : (o q : Point) (st : Step) → Quiet o st → st ≡ Does Exits q → ⊥
unfolding Quiet
no_exit o q (Goes p) h e = cc
no_exit o q (Does a p) h e = by a h (act_is a p q e)
  where
    by : (a : Act) → Quiet o (Does a p) → a ≡ Exits → ⊥
    by a h is = subst (λ a. Quiet o (Does a p)) is h

pub exits_here : (s : System) (me : Reference) (p q : Point) → step s me p ≡ Does Exits q → q ≡ p
exits_here s me p q e = by p.tasks e
  where
    by : (ts : List Task) → step_at s me ts p ≡ Does Exits q → q ≡ p
    by [] e = point_is Exits Exits q p (sym e)
    by (t ∷ ts) e = absurd (no_exit p q (step_at s me (t ∷ ts) p) (task_quiet s me t ts p) e)

pub refuses_here : (s : System) (me : Reference) (p q : Point) (k : Clause) → step s me p ≡ Does (Refuses k) q → IsLike p q
unfolding Quiet
refuses_here s me p q k e = by p.tasks e
  where
    by : (ts : List Task) → step_at s me ts p ≡ Does (Refuses k) q → IsLike p q
    by [] e = no_refusal k p q e
    by (t ∷ ts) e = subst (Quiet p) e (task_quiet s me t ts p)

no_block : {A : Type 0} (p q : Point) → Does Exits p ≡ Does Opens q → A
no_block p q e = cc

pub opens_here : (s : System) (me : Reference) (p q : Point) → step s me p ≡ Does Opens q → IsOpened p q
unfolding Quiet
opens_here s me p q e = by p.tasks e
  where
    by : (ts : List Task) → step_at s me ts p ≡ Does Opens q → IsOpened p q
    by [] e = no_block p q e
    by (t ∷ ts) e = subst (Quiet p) e (task_quiet s me t ts p)
