-- The end of a frame and the take of an answer change no right, and keep all.
use Rattle.std.proofs.Common.{◌≡◌, ◌⊎◌, ⊎_elim, inl, inr, ℕ, List, [], ◌∷◌, Option, Some, None, true, false, refl, sym, ap, ◌∙◌, subst, arith}
use Rattle.sc_machine_laws.specs.states.World.{Wait, Request, Frame, SupplierFailed, World, has, popped, pop, take_answer, resumed, requests_of, and_this, and_begun}
use Rattle.sc_machine_laws.specs.states.Steps.{answered, waits_for, IsActive}
use Rattle.sc_machine_laws.specs.states.Consistent.{IsWait, HasWait, StackWaits, HasGrant, IsOrdered, Stuck, Told, On, IsOne, AreNumbered, IsConsistent}
use Rattle.sc_machine_laws.proofs.states.Rights.{not_some}
use Rattle.sc_machine_laws.proofs.states.Waits.{true_false, no_wait, popped_stack, lower_older}
use Rattle.sc_machine_laws.proofs.states.Simple.{Simple, simple_keeps}
use Rattle.sc_machine_laws.proofs.states.PostedRequests.{idle_asks, idle_away, no_request}

-- a frame that does not wait
not_top : (u : Wait) (fs : List Frame) → waits_for fs ≡ None → StackWaits u fs → StackWaits u (popped fs)
not_top u [] e i = i
not_top u (f ∷ fs) e (inl i) = not_some u (sym e ∙ i)
not_top u (f ∷ fs) e (inr i) = i

pub has_lower : (m : ℕ) (fs : List Frame) → waits_for fs ≡ None → HasWait m fs → HasWait m (popped fs)
has_lower m [] e i = i
has_lower m (f ∷ fs) e (inl i) = no_wait m f.waits e i
has_lower m (f ∷ fs) e (inr i) = i

lower_ordered : (fs : List Frame) → IsOrdered fs → IsOrdered (popped fs)
lower_ordered [] is = tt
lower_ordered (f ∷ fs) is = is.1

pub one_less : (r : Request) (o : Option Request) (rs : List Request) → IsOne r rs → IsOne r (and_this o rs)
one_less r None rs i = i
one_less r (Some q) rs i = inr i

one_lower : (r : Request) (fs : List Frame) (rs : List Request) → IsOne r (and_begun (popped fs) rs) → IsOne r
    (and_begun fs rs)
one_lower r [] rs i = i
one_lower r (f ∷ fs) rs i = one_less r f.origin (and_begun fs rs) i

numbered_less : (n : ℕ) (o : Option Request) (rs : List Request) → AreNumbered n (and_this o rs) → AreNumbered n rs
numbered_less n None rs is = is
numbered_less n (Some q) rs is = is.2

numbered_lower : (n : ℕ) (fs : List Frame) (rs : List Request) → AreNumbered n (and_begun fs rs) → AreNumbered n
    (and_begun (popped fs) rs)
numbered_lower n [] rs is = is
numbered_lower n (f ∷ fs) rs is = numbered_less n f.origin (and_begun fs rs) is

-- what stands at h once its topmost frame is popped stood there before
pub popping_less : (h : ℕ) (w : World) → IsActive (w.handlers h) → IsConsistent w → (r : Request) → IsOne r
    (requests_of (record (w.handlers h) { stack = popped (w.handlers h).stack })) → IsOne r
    (requests_of (w.handlers h))
popping_less h w active fine r i =
    let c = (fine.clear h active).1 in
    let g = w.handlers h in
    subst (λ o. IsOne r (and_this o (and_begun g.stack g.requests))) (sym c)
    (one_lower r g.stack g.requests
    (subst (λ o. IsOne r (and_this o (and_begun (popped g.stack) g.requests))) c i))

pub popping_simple : (h : ℕ) (w : World) → IsActive (w.handlers h) → IsConsistent w → Simple w h
    (record (w.handlers h) { stack = popped (w.handlers h).stack }) w.next
popping_simple h w active fine =
    let c = fine.clear h active in
    let g = w.handlers h in
    (record {
      lives = active.0;
      lives_on = active.0;
      later = omega arith;
      fewer = λ u i. popped_stack u g.stack i;
      kept = λ j i. inl (has_lower j g.stack active.1 i);
      told = λ t. t;
      told_back = λ t. (t, λ u i. not_top u g.stack active.1 i);
      stays = λ u o. (not_top u g.stack active.1 o.0, inl c.0);
      was = λ u o. (popped_stack u g.stack o.0, inl c.0);
      clear = λ a. c;
      ordered = lower_ordered g.stack (fine.ordered h);
      callbacks = λ r e. no_request r (sym c.1 ∙ e);
      away = λ a. idle_away g active a;
      asks = λ k lo hi a. idle_asks g k lo hi active a;
      spent = λ u at over. true_false (sym over ∙ c.0);
      requests = λ r i. inl (popping_less h w active fine r i);
      numbered = subst (λ o. AreNumbered w.next (and_this o (and_begun (popped g.stack) g.requests))) (sym c.1)
          (numbered_lower w.next g.stack g.requests
          (subst (λ o. AreNumbered w.next (and_this o (and_begun g.stack g.requests))) c.1 (fine.numbered h)));
    })

pub popping_keeps : (h : ℕ) (w : World) → IsActive (w.handlers h) → IsConsistent w → IsConsistent (pop h w)
popping_keeps h w active fine = simple_keeps w h (record (w.handlers h) { stack = popped (w.handlers h).stack })
    w.next fine (popping_simple h w active fine)

resumed_less : (u : Wait) (fs : List Frame) → StackWaits u (resumed fs) → StackWaits u (popped fs)
resumed_less u [] i = i
resumed_less u (f ∷ fs) (inl e) = not_some u e
resumed_less u (f ∷ fs) (inr i) = i

resumed_more : (u : Wait) (fs : List Frame) → StackWaits u (popped fs) → StackWaits u (resumed fs)
resumed_more u [] i = i
resumed_more u (f ∷ fs) i = inr i

pub resumed_requests : (fs : List Frame) (rs : List Request) → and_begun (resumed fs) rs ≡ and_begun fs rs
resumed_requests [] rs = refl
resumed_requests (f ∷ fs) rs = refl

resumed_ordered : (fs : List Frame) → IsOrdered fs → IsOrdered (resumed fs)
resumed_ordered [] is = tt
resumed_ordered (f ∷ fs) is = (is.0, is.1, λ u e. not_some u e)

pub resumed_free : (fs : List Frame) → waits_for (resumed fs) ≡ None
resumed_free [] = refl
resumed_free (f ∷ fs) = refl

which_wait : (m : ℕ) (o : Option Wait) → IsWait m o → (v : Wait) × (o ≡ Some v) × (v.number ≡ m)
which_wait m None i = absurd i
which_wait m (Some v) i = (v, refl, i)

-- the top wait, or a lower one
top_or_lower : (m : ℕ) (fs : List Frame) → HasWait m fs → ((v : Wait) × (waits_for fs ≡ Some v) × (v.number ≡ m))
    ⊎ HasWait m (resumed fs)
top_or_lower m [] i = absurd i
top_or_lower m (f ∷ fs) (inl i) = inl (which_wait m f.waits i)
top_or_lower m (f ∷ fs) (inr i) = inr (inr i)

none_told : {A : Type 0} → None ≡ Some SupplierFailed → A
none_told e = cc

-- a wait whose reply has come is not stuck
pub not_stuck : (h j : ℕ) (v : Wait) (w : World) → IsConsistent w → answered (w.handlers h).answer ≡ true → waits_for
    (w.handlers h).stack ≡ Some v → v.number ≡ j → Stuck w h j → ⊥
not_stuck h j v w fine over at num (Told t) = true_false (sym over ∙ ap answered t)
not_stuck h j v w fine over at num (On u i o is has lt s) = ⊎_elim
    (λ b. true_false (sym over ∙ b))
    (λ low. absurd (let older = lower_older (w.handlers h).stack v u (fine.ordered h) at low in omega
    (arith, older, is, num)))
    o.1

pub answering_simple : (h : ℕ) (w : World) → (w.handlers h).failed ≡ false → answered (w.handlers h).answer ≡ true
    → IsConsistent w → Simple w h (record (w.handlers h) { stack = resumed (w.handlers h).stack; answer = None })
    w.next
answering_simple h w alive over fine =
    let g = w.handlers h in
    let no_callback : (r : Request) → g.callback ≡ Some r → ⊥ = λ r e. true_false
    (sym over ∙ (fine.callbacks h r e).2) in
    let none : g.callback ≡ None = by g.callback no_callback in
    (record {
      lives = alive;
      lives_on = alive;
      later = omega arith;
      fewer = λ u i. popped_stack u g.stack (resumed_less u g.stack i);
      kept = λ j i. ⊎_elim
          (λ (a : (v : Wait) × (waits_for g.stack ≡ Some v) × (v.number ≡ j)). inr (
            not_stuck h j a.0 w fine over a.1 a.2,
            λ k x. subst
                (λ m. (HasGrant x m (w.queue k) → ⊥) × (HasGrant x m (w.top k) → ⊥)) a.2
                (fine.spent h a.0 a.1 over k x),
          ))
          (λ a. inl a)
          (top_or_lower j g.stack i);
      told = λ t. true_false (sym over ∙ ap answered t);
      told_back = λ t. none_told t;
      stays = λ u o. (resumed_more u g.stack (⊎_elim (λ b. true_false (sym over ∙ b)) (λ low. low) o.1), inl refl);
      was = λ u o. let low = resumed_less u g.stack o.0 in (popped_stack u g.stack low, inr low);
      clear = λ a. (refl, none);
      ordered = resumed_ordered g.stack (fine.ordered h);
      callbacks = λ r e. absurd (no_callback r e);
      away = λ a. true_false (sym over ∙ a.unanswered);
      asks = λ k lo hi a. true_false (sym over ∙ a.unanswered);
      spent = λ u at b. not_some u (sym (resumed_free g.stack) ∙ at);
      requests = λ r i. inl (subst (λ q. IsOne r (and_this g.callback q)) (resumed_requests g.stack g.requests) i);
      numbered = subst (λ q. AreNumbered w.next (and_this g.callback q)) (sym (resumed_requests g.stack g.requests))
          (fine.numbered h);
    })
  where
    by : (o : Option Request) → ((r : Request) → o ≡ Some r → ⊥) → o ≡ None
    by None not = refl
    by (Some r) not = absurd (not r refl)

pub answering_keeps : (h : ℕ) (w : World) → (w.handlers h).failed ≡ false → answered (w.handlers h).answer ≡ true
    → IsConsistent w → IsConsistent (take_answer h w)
answering_keeps h w alive over fine = simple_keeps w h
    (record (w.handlers h) { stack = resumed (w.handlers h).stack; answer = None }) w.next fine
    (answering_simple h w alive over fine)
