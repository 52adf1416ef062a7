-- What moves of a routine leave of the objects of its handler: how many there are, and their attributes.
use Rattle.std.proofs.Common.{◌≡◌, ◌≤◌, ◌<◌, ℕ, zero, suc, ◌-◌, List, [], ◌∷◌, ◌++◌, Option, Some, None, Bool, true, false, refl, sym, ap, ◌∙◌, subst, arith, length-append}
use Rattle.std.specs.Prelude.{bytes_eq, if◌then◌else◌, slice_get, slice_set, ◌==◌, length}
use Rattle.sc_tree.specs.Plain.{System, no_instrs, instr_then}
use Rattle.sc_rules.specs.Names.{test_type}
use Rattle.sc_model.specs.declared.cause.Cause.TheVariants as cause
use Rattle.sc_model.specs.Values.{Reference, Value, Operand}
use Rattle.sc_model.specs.Environments.{Binding, assigned_to}
use Rattle.sc_model.specs.Objects.{Object, object_numbered, attributes_in, attributes_of, fresh_object, with_attributes, with_object}
use Rattle.sc_model.specs.Operators.{is_short}
use Rattle.sc_model.specs.Routines.{place_in}
use Rattle.sc_model.specs.Tasks.{Task, Do, In, Declare, Forget, Eval, ApplyUnary, EvalRight, ApplyBinary, Conclude, Bind, CallUnqualified, CallQualified, AssignTo, Print, Choose, Repeat, EndLoop, Checked, Require, Required, KeepOld, Ensured, CreateBy, Open, Leave}
use Rattle.sc_model.specs.Steps.{Point, Act, Creates, Fails, Step, Goes, Does, popped}
use Rattle.sc_model.specs.Creations.{assigned_at}
use Rattle.sc_model.specs.Expressions.{decided_by}
use Rattle.sc_model.specs.Sizes.{size}
use Rattle.sc_model.specs.Moves.{performs_on, performs, step_at, step, then_go, first_visible, moves}
use Rattle.sc_acts.proofs.Options.{none_some, some_same}
use Rattle.sc_refines_world.specs.regions.Halves.{AreComplete, IsComplete}
use Rattle.sc_refines_world.proofs.regions.Slots.{set_many}
use Rattle.sc_refines_world.proofs.regions.KeptObjects.{CreatesNext, Keeps, Moved, loosen, unary_kept, applies_kept, right_kept, concludes_kept, binds_kept, unqualified_kept, qualified_kept, creates_kept, evaluate_kept, assigns_kept, prints_kept, chooses_kept, ends_loop_kept, tests_kept, required_kept, opens_kept, begins_kept}

module _ (P Q : List Object → Type 0) (s : System) (weaker : (os : List Object) → Q os → P os)
    (assigned : (n : ℕ) (x : List ℕ) (v : Value) (os : List Object) → P os → P (with_attributes n (assigned_to x v (attributes_of n os)) os))
    (born : (k : ℕ) (os : List Object) → P os → Q (os ++ fresh_object s k ∷ [])) where
  module _ (start : Point) where
    -- ---- tasks

    on_kept : (me : Reference) (t : Task) (u : Operand) (p : Point) → P p.objects → Keeps P Q start (performs_on s me t u p)
    on_kept me (ApplyUnary op) u p h = unary_kept P Q s weaker assigned born start op u.value p h
    on_kept me (EvalRight op i right) u p h = right_kept P Q s weaker assigned born start (decided_by op u.value) (is_short op) op i right u p h
    on_kept me (ApplyBinary op) u p h = applies_kept P Q s weaker assigned born start op u.value p.values p h
    on_kept me Conclude u p h = concludes_kept P Q s weaker assigned born start u.value p h
    on_kept me (Bind d x) u p h = binds_kept P Q s weaker assigned born start me.handler d x u.value (test_type (place_in s p.text) d (Some u.type)) p h
    on_kept me (AssignTo x) u p h = assigns_kept P Q s weaker assigned born start me x (assigned_at s x p) u.value p h
    on_kept me Print u p h = prints_kept P Q s weaker assigned born start u.value p h
    on_kept me (Choose depth body bs other) u p h = chooses_kept P Q s weaker assigned born start depth u.value body bs other p h
    on_kept me (EndLoop until body) u p h = ends_loop_kept P Q s weaker assigned born start u.value until body p h
    on_kept me Checked u p h = tests_kept P Q s weaker assigned born start cause.Check u.value p h h
    on_kept me (Required k) u p h = required_kept P Q s weaker assigned born start k u.value p h
    on_kept me KeepOld u p h = h
    on_kept me Ensured u p h = tests_kept P Q s weaker assigned born start cause.Postcondition u.value p h h
    on_kept me (Do b) u p h = h
    on_kept me (In t) u p h = h
    on_kept me (Declare l) u p h = h
    on_kept me (Forget d) u p h = h
    on_kept me (Eval i right) u p h = h
    on_kept me (CallUnqualified x n) u p h = h
    on_kept me (CallQualified x n) u p h = h
    on_kept me (Repeat until b) u p h = h
    on_kept me (Require ks) u p h = h
    on_kept me (CreateBy x k n) u p h = h
    on_kept me (Open xs b) u p h = h
    on_kept me (Leave d) u p h = h

    -- one task, where p.tasks is what is left after it
    performs_kept : (me : Reference) (t : Task) (vs : List Operand) (p : Point) → start.tasks ≡ t ∷ p.tasks → P p.objects → Keeps P Q start (performs s me t vs p)
    performs_kept me (Do no_instrs) vs p e h = h
    performs_kept me (Do (instr_then i is)) vs p e h =
        begins_kept P Q s weaker assigned born start i (record p { tasks = Do is ∷ p.tasks }) h
    performs_kept me (In text) vs p e h = h
    performs_kept me (Declare locals) vs p e h = h
    performs_kept me (Forget depth) vs p e h = h
    performs_kept me (Eval i a) vs p e h = evaluate_kept P Q s weaker assigned born start me i a p h
    performs_kept me (CallUnqualified x n) vs p e h = unqualified_kept P Q s weaker assigned born start me x (popped n [] vs) p h
    performs_kept me (CallQualified x n) vs p e h = qualified_kept P Q s weaker assigned born start me x (popped n [] vs) p h
    performs_kept me (Repeat until body) vs p e h = h
    performs_kept me (Require []) vs p e h = h
    performs_kept me (Require (k ∷ ks)) vs p e h = h
    performs_kept me (CreateBy x k n) vs p e h =
        creates_kept P Q s weaker assigned born start me x k (popped n [] vs) p (record { variable = x; procedure = k; count = n; rest = p.tasks; tasks = e }) h
    performs_kept me (Open xs body) vs p e h = opens_kept P Q s weaker assigned born start xs body (popped (length xs) [] vs) p h
    performs_kept me (Leave depth) vs p e h = h
    performs_kept me (ApplyUnary op) [] p e h = h
    performs_kept me (EvalRight op i right) [] p e h = h
    performs_kept me (ApplyBinary op) [] p e h = h
    performs_kept me Conclude [] p e h = h
    performs_kept me (Bind d x) [] p e h = h
    performs_kept me (AssignTo x) [] p e h = h
    performs_kept me Print [] p e h = h
    performs_kept me (Choose depth body bs other) [] p e h = h
    performs_kept me (EndLoop until body) [] p e h = h
    performs_kept me Checked [] p e h = h
    performs_kept me (Required k) [] p e h = h
    performs_kept me KeepOld [] p e h = h
    performs_kept me Ensured [] p e h = h
    performs_kept me (ApplyUnary op) (u ∷ vs) p e h = on_kept me (ApplyUnary op) u (record p { values = vs }) h
    performs_kept me (EvalRight op i right) (u ∷ vs) p e h = on_kept me (EvalRight op i right) u (record p { values = vs }) h
    performs_kept me (ApplyBinary op) (u ∷ vs) p e h = on_kept me (ApplyBinary op) u (record p { values = vs }) h
    performs_kept me Conclude (u ∷ vs) p e h = on_kept me Conclude u (record p { values = vs }) h
    performs_kept me (Bind d x) (u ∷ vs) p e h = on_kept me (Bind d x) u (record p { values = vs }) h
    performs_kept me (AssignTo x) (u ∷ vs) p e h = on_kept me (AssignTo x) u (record p { values = vs }) h
    performs_kept me Print (u ∷ vs) p e h = on_kept me Print u (record p { values = vs }) h
    performs_kept me (Choose depth body bs other) (u ∷ vs) p e h = on_kept me (Choose depth body bs other) u (record p { values = vs }) h
    performs_kept me (EndLoop until body) (u ∷ vs) p e h = on_kept me (EndLoop until body) u (record p { values = vs }) h
    performs_kept me Checked (u ∷ vs) p e h = on_kept me Checked u (record p { values = vs }) h
    performs_kept me (Required k) (u ∷ vs) p e h = on_kept me (Required k) u (record p { values = vs }) h
    performs_kept me KeepOld (u ∷ vs) p e h = on_kept me KeepOld u (record p { values = vs }) h
    performs_kept me Ensured (u ∷ vs) p e h = on_kept me Ensured u (record p { values = vs }) h

    step_at_kept : (me : Reference) (ts : List Task) → start.tasks ≡ ts → P start.objects → Keeps P Q start (step_at s me ts start)
    step_at_kept me [] e h = h
    step_at_kept me (t ∷ ts) e h = performs_kept me t start.values (record start { tasks = ts }) e h

    pub step_kept : (me : Reference) → P start.objects → Keeps P Q start (step s me start)
    step_kept me h = step_at_kept me start.tasks refl h

  then_kept : (st : Step) (go : Point → Step) → Moved P Q st → ((p : Point) → P p.objects → Moved P Q (go p)) → Moved P Q (then_go st go)
  then_kept (Goes p) go h on = on p h
  then_kept (Does a p) go h on = h

  visible_kept : (n : ℕ) (me : Reference) (p : Point) → P p.objects → Moved P Q (first_visible n s me p)
  visible_kept zero me p h = h
  visible_kept (suc n) me p h = then_kept (step s me p) (first_visible n s me) (loosen P Q p (step s me p) (step_kept p me h)) (λ q i. visible_kept n me q i)

  pub moves_kept : (me : Reference) (p : Point) → P p.objects → Moved P Q (moves s me p)
  moves_kept me p h = visible_kept (suc (size p.tasks)) me p h

-- ---- how many objects there are

length_assigned : (x : List ℕ) (v : Value) (bs : List Binding) → length (assigned_to x v bs) ≡ length bs
length_assigned x v [] = refl
length_assigned x v (b ∷ bs) = by (bytes_eq b.name x) (length_assigned x v bs)
  where
    by : (c : Bool) → length (assigned_to x v bs) ≡ length bs → length (if c then record b { value = v } ∷ bs else b ∷ assigned_to x v bs) ≡ length (b ∷ bs)
    by true rest = refl
    by false rest = ap (λ n. suc n) rest

with_many : (n : ℕ) (bs : List Binding) (os : List Object) → length (with_attributes n bs os) ≡ length os
with_many n bs os = by (object_numbered n os)
  where
    by : (o : Option Object) → length (with_object (n - 1) bs os o) ≡ length os
    by None = refl
    by (Some o) = set_many os (n - 1) (record o { attributes = bs })

-- There are no fewer objects where a routine has come to a visible step, and more where one was created without a procedure.
pub count_kept : (n : ℕ) (s : System) (me : Reference) (p : Point) → n ≤ length p.objects → Moved (λ os. n ≤ length os) (λ os. n < length os) (moves s me p)
count_kept n s me p l =
    moves_kept (λ os. n ≤ length os) (λ os. n < length os) s (λ os h. omega (arith, h)) (λ k x v os h. subst (λ m. n ≤ m) (sym (with_many k (assigned_to x v (attributes_of k os)) os)) h)
    (λ k os h. let e = length-append os (fresh_object s k ∷ []) in omega (arith, h, e)) me p l

-- ---- attributes

module _ (s : System) where
  complete_set : (os : List Object) (k : ℕ) (o : Object) → IsComplete s o → AreComplete s os → AreComplete s (slice_set os k o)
  complete_set [] k o h a = tt
  complete_set (q ∷ os) zero o h a = (h, a.1)
  complete_set (q ∷ os) (suc k) o h a = (a.0, complete_set os k o h a.1)

  complete_got : (os : List Object) (k : ℕ) (o : Object) → slice_get os k ≡ Some o → AreComplete s os → IsComplete s o
  complete_got [] k o e a = none_some o e
  complete_got (q ∷ os) zero o e a = subst (IsComplete s) (some_same q o e) a.0
  complete_got (q ∷ os) (suc k) o e a = complete_got os k o e a.1

  pub complete_numbered : (n : ℕ) (os : List Object) (o : Object) → object_numbered n os ≡ Some o → AreComplete s os → IsComplete s o
  complete_numbered n os o e a = by (n == 0) e
    where
      by : (b : Bool) → (if b then None else slice_get os (n - 1)) ≡ Some o → IsComplete s o
      by true e = none_some o e
      by false e = complete_got os (n - 1) o e a

  complete_assigned : (n : ℕ) (x : List ℕ) (v : Value) (os : List Object) → AreComplete s os → AreComplete s (with_attributes n (assigned_to x v (attributes_of n os)) os)
  complete_assigned n x v os a = by (object_numbered n os) refl
    where
      by : (o : Option Object) → object_numbered n os ≡ o → AreComplete s (with_object (n - 1) (assigned_to x v (attributes_in o)) os o)
      by None e = a
      by (Some o) e =
          complete_set os (n - 1) (record o { attributes = assigned_to x v o.attributes }) (length_assigned x v o.attributes ∙ complete_numbered n os o e a) a

  complete_more : (k : ℕ) (os : List Object) → AreComplete s os → AreComplete s (os ++ fresh_object s k ∷ [])
  complete_more k [] a = (refl, tt)
  complete_more k (o ∷ os) a = (a.0, complete_more k os a.1)

  -- Each object has as many attributes as its class where a routine has come to a visible step, if each had before.
  pub complete_kept : (me : Reference) (p : Point) → AreComplete s p.objects → Moved (AreComplete s) (AreComplete s) (moves s me p)
  complete_kept me p a = moves_kept (AreComplete s) (AreComplete s) s (λ os h. h) complete_assigned complete_more me p a

pub moved_same : (P : List Object → Type 0) (a : Act) (p : Point) → Moved P P (Does a p) → P p.objects
moved_same P Creates p h = h
moved_same P (Fails cause.Invariant) p h = h
moved_same P a p h = h

-- A routine that fails for too many objects is creating one.
pub creates_next : (s : System) (me : Reference) (p q : Point) → step s me p ≡ Does (Fails cause.TooManyObjects) q → CreatesNext p
creates_next s me p q e =
    (subst (Keeps (λ os. Unit {0}) (λ os. Unit {0}) p) e (step_kept (λ os. Unit {0}) (λ os. Unit {0}) s (λ os h. tt) (λ n x v os h. tt) (λ k os h. tt) p me tt)).1
