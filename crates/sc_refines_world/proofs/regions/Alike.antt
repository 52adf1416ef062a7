-- Handlers of the machine that a region sees alike: with the same objects, frames, output and failure.
use Rattle.std.proofs.Common.{◌≡◌, ◌==◌, ℕ, Bool, true, false, List, Option, Some, None, refl, sym, subst, ◌∙◌}
use Rattle.std.proofs.lemmas.Bool.{eqb-true, eq-eqb, ne_eqb}
use Rattle.std.specs.Prelude.{if◌then◌else◌}
use Rattle.sc_lockpass.specs.Passing.{Passed}
use Rattle.sc_lockpass.specs.declared.wait_conditions.session.Release.{Release}
use Rattle.sc_model.specs.declared.cause.Cause.{Cause}
use Rattle.sc_model.specs.Handlers.{Request, Answer, Failed, Handler, World, put}
use Rattle.sc_model.specs.Sessions.{session_ended, release}
use Rattle.sc_model.specs.Answers.{answered, answer_to, return_rights, finish}
use Rattle.sc_model.specs.Asking.{passes, placed, send}
use Rattle.sc_model.specs.Failures.{told, fallen, fails_with}
use Rattle.sc_model.specs.Preconditions.{counted_refusal}

pub record IsAlike (x y : Handler) : Type 0 where
  pub objects : y.objects ≡ x.objects
  pub stack : y.stack ≡ x.stack
  pub output : y.output ≡ x.output
  pub failure : y.failure ≡ x.failure

pub alike : (x : Handler) → IsAlike x x
alike x = record { objects = refl; stack = refl; output = refl; failure = refl }

pub alike_then : {x y z : Handler} → IsAlike x y → IsAlike y z → IsAlike x z
alike_then {x} {y} {z} p q = record {
  objects = q.objects ∙ p.objects;
  stack = q.stack ∙ p.stack;
  output = q.output ∙ p.output;
  failure = q.failure ∙ p.failure;
}

-- ---- handlers

pub session_alike : (b : Bool) (x : Handler) → IsAlike x (session_ended b x)
session_alike false x = alike x
session_alike true x = record { objects = refl; stack = refl; output = refl; failure = refl }

pub answered_alike : (a : Answer) (x : Handler) → IsAlike x (answered a x)
answered_alike a x = record { objects = refl; stack = refl; output = refl; failure = refl }

pub told_alike : (b : Bool) (x : Handler) → IsAlike x (told b x)
told_alike false x = alike x
told_alike true x = answered_alike Failed x

pub placed_alike : (b : Bool) (r : Request) (x : Handler) → IsAlike x (placed b r x)
placed_alike false r x = record { objects = refl; stack = refl; output = refl; failure = refl }
placed_alike true r x = record { objects = refl; stack = refl; output = refl; failure = refl }

pub counted_alike : (b : Bool) (x : Handler) → IsAlike x (counted_refusal b x)
counted_alike true x = alike x
counted_alike false x = record { objects = refl; stack = refl; output = refl; failure = refl }

-- ---- worlds

-- the handler that was put there
pub own : (h : ℕ) (x : Handler) (w : World) → (put h x w).handlers h ≡ x
own h x w = rw (eq-eqb h h refl) refl

-- any other one
pub other : (h : ℕ) (x : Handler) (w : World) (k : ℕ) → (k ≡ h → ⊥) → (put h x w).handlers k ≡ w.handlers k
other h x w k apart = rw (ne_eqb k h apart) refl

put_by : (k : ℕ) (x : Handler) (w : World) (j : ℕ) (b : Bool) → (j == k) ≡ b → IsAlike (w.handlers k) x → IsAlike (w.handlers j) (if b then x else w.handlers j)
put_by k x w j true e a = subst (λ (i : ℕ). IsAlike (w.handlers i) x) (sym (eqb-true j k e)) a
put_by k x w j false e a = alike (w.handlers j)

pub put_alike : (k : ℕ) (x : Handler) (w : World) (j : ℕ) → IsAlike (w.handlers k) x → IsAlike (w.handlers j) ((put k x w).handlers j)
put_alike k x w j a = put_by k x w j (j == k) refl a

pub release_alike : (how : Release) (ks : List ℕ) (w : World) (j : ℕ) → IsAlike (w.handlers j) ((release how ks w).handlers j)
release_alike how ks w j = session_alike _ (w.handlers j)

pub passes_alike : (b : Bool) (h k : ℕ) (w : World) (j : ℕ) → IsAlike (w.handlers j) ((passes b h k w).handlers j)
passes_alike false h k w j = alike (w.handlers j)
passes_alike true h k w j = alike (w.handlers j)

pub send_alike : (b : Bool) (k : ℕ) (r : Request) (w : World) (j : ℕ) → IsAlike (w.handlers j) ((send b k r w).handlers j)
send_alike b k r w j = put_alike k (placed b r (w.handlers k)) w j (placed_alike b r (w.handlers k))

returned_alike : (p : Option Passed) (w : World) (j : ℕ) → IsAlike (w.handlers j) ((return_rights p w).handlers j)
returned_alike None w j = alike (w.handlers j)
returned_alike (Some p) w j = alike (w.handlers j)

answer_alike : (b : Bool) (p : Option ℕ) (a : Answer) (w : World) (j : ℕ) → IsAlike (w.handlers j) ((answer_to b p a w).handlers j)
answer_alike true (Some p) a w j = put_alike p (answered a (w.handlers p)) w j (answered_alike a (w.handlers p))
answer_alike true None a w j = alike (w.handlers j)
answer_alike false p a w j = alike (w.handlers j)

pub finish_alike : (r : Request) (a : Answer) (w : World) (j : ℕ) → IsAlike (w.handlers j) ((finish r a w).handlers j)
finish_alike r a w j = alike_then (returned_alike r.passed w j) (answer_alike r.is_waited r.poster a (return_rights r.passed w) j)

-- ---- failures

pub fails_alike : (h : ℕ) (why : Cause) (taken : List Request) (w : World) → IsAlike (fallen why (w.handlers h)) ((fails_with h why taken w).handlers h)
fails_alike h why taken w = rw (eq-eqb h h refl) (session_alike _ _)

pub others_stay : (h : ℕ) (why : Cause) (taken : List Request) (w : World) (k : ℕ) → (k ≡ h → ⊥) → IsAlike (w.handlers k) ((fails_with h why taken w).handlers k)
others_stay h why taken w k apart = rw (ne_eqb k h apart) (alike_then (told_alike _ _) (session_alike _ _))
