-- The take of a request or of a callback, and an entry, change no right, and keep all.
use Rattle.std.proofs.Common.{◌≡◌, ⊎_elim, inl, inr, ℕ, List, [], ◌∷◌, Option, Some, None, false, refl, sym, ap, ◌∙◌, subst, arith}
use Rattle.sc_machine_laws.specs.states.World.{Wait, Request, Frame, World, take_request, take_callback, enter, begun, rest_of, requests_of, and_this, and_begun}
use Rattle.sc_machine_laws.specs.states.Steps.{answered, waits_for, IsActive}
use Rattle.sc_machine_laws.specs.states.Consistent.{IsAway, Asks, HasWait, IsBegun, IsOne, AreNumbered, IsConsistent}
use Rattle.sc_machine_laws.proofs.states.Rights.{not_some}
use Rattle.sc_machine_laws.proofs.states.Waits.{true_false, some_wait}
use Rattle.sc_machine_laws.proofs.states.Simple.{Simple, simple_keeps}
use Rattle.sc_machine_laws.proofs.states.PostedRequests.{idle_asks, idle_away, no_request}

-- a frame is pushed
record Pushes (w : World) (h : ℕ) (f : Frame) (c : Option Request) (rs : List Request) : Type 0 where
  lives : (w.handlers h).failed ≡ false
  starts : f.waits ≡ None
  no_more : c ≡ None
  unanswered : answered (w.handlers h).answer ≡ false
  begun : IsBegun f.origin (w.handlers h).stack
  not_away : IsAway (w.handlers h) → ⊥
  not_asks : (k lo hi : ℕ) → Asks (w.handlers h) k lo hi → ⊥
  same : and_this c (and_this f.origin (and_begun (w.handlers h).stack rs)) ≡ requests_of (w.handlers h)

pushing : (w : World) (h : ℕ) (f : Frame) (c : Option Request) (rs : List Request) → IsConsistent w
    → Pushes w h f c rs → Simple w h
    (record (w.handlers h) { stack = f ∷ (w.handlers h).stack; callback = c; requests = rs }) w.next
pushing w h f c rs fine p = record {
  lives = p.lives;
  lives_on = p.lives;
  later = omega arith;
  fewer = λ u i. ⊎_elim (λ e. not_some u (sym p.starts ∙ e)) (λ a. a) i;
  kept = λ j i. inl (inr i);
  told = λ t. t;
  told_back = λ t. (t, λ u i. inr i);
  stays = λ u o. (inr o.0, inr o.0);
  was = λ u o. (⊎_elim (λ e. not_some u (sym p.starts ∙ e)) (λ a. a) o.0, inl p.unanswered);
  clear = λ a. (p.unanswered, p.no_more);
  ordered = (p.begun, fine.ordered h, λ u e. not_some u (sym p.starts ∙ e));
  callbacks = λ r e. no_request r (sym p.no_more ∙ e);
  away = λ a. absurd (p.not_away a);
  asks = λ k lo hi a. absurd (p.not_asks k lo hi a);
  spent = λ u at over. not_some u (sym p.starts ∙ at);
  requests = λ r i. inl (subst (IsOne r) p.same i);
  numbered = subst (AreNumbered w.next) (sym p.same) (fine.numbered h);
}

-- the first request of the queue comes onto the empty stack: what stands at h is the same
pub taking_same : (h : ℕ) (r : Request) (rs : List Request) (w : World) → (w.handlers h).failed ≡ false
    → (w.handlers h).stack ≡ [] → (w.handlers h).requests ≡ r ∷ rs → IsConsistent w
    → requests_of (record (w.handlers h) {
      stack = begun r (w.handlers h).stack;
      requests = rest_of
          (w.handlers h).requests;
    }) ≡ requests_of (w.handlers h)
taking_same h r rs w alive idle first fine =
    let c = fine.clear h (alive, ap waits_for idle) in
    ap (λ o. and_this o (r ∷ and_begun (w.handlers h).stack (rest_of (w.handlers h).requests))) c.1
    ∙ ap (λ s. r ∷ and_begun s (rest_of (w.handlers h).requests)) idle
    ∙ ap (λ q. r ∷ rest_of q) first
    ∙ sym first
    ∙ ap (λ s. and_begun s (w.handlers h).requests) (sym idle)
    ∙ ap (λ o. and_this o (and_begun (w.handlers h).stack (w.handlers h).requests)) (sym c.1)

pub taking_simple : (h : ℕ) (r : Request) (rs : List Request) (w : World) → (w.handlers h).failed ≡ false
    → (w.handlers h).stack ≡ [] → (w.handlers h).requests ≡ r ∷ rs → IsConsistent w → Simple w h
    (record (w.handlers h) { stack = begun r (w.handlers h).stack; requests = rest_of (w.handlers h).requests })
    w.next
taking_simple h r rs w alive idle first fine =
    let active : IsActive (w.handlers h) = (alive, ap waits_for idle) in
    let c = fine.clear h active in
    (pushing w h (record { origin = Some r; reserved = []; needs = []; waits = None }) (w.handlers h).callback
    (rest_of (w.handlers h).requests) fine (record {
      lives = alive;
      starts = refl;
      no_more = c.1;
      unanswered = c.0;
      begun = ((λ m i. absurd (subst (HasWait m) idle i)), inl idle);
      not_away = idle_away (w.handlers h) active;
      not_asks = λ k lo hi a. idle_asks (w.handlers h) k lo hi active a;
      same = taking_same h r rs w alive idle first fine;
    }))

pub taking_keeps : (h : ℕ) (r : Request) (rs : List Request) (w : World) → (w.handlers h).failed ≡ false
    → (w.handlers h).stack ≡ [] → (w.handlers h).requests ≡ r ∷ rs → IsConsistent w → IsConsistent
    (take_request h r w)
taking_keeps h r rs w alive idle first fine = simple_keeps w h
    (record (w.handlers h) { stack = begun r (w.handlers h).stack; requests = rest_of (w.handlers h).requests })
    w.next fine (taking_simple h r rs w alive idle first fine)

pub calling_back_simple : (h : ℕ) (r : Request) (w : World) → (w.handlers h).failed ≡ false
    → (w.handlers h).callback ≡ Some r → IsConsistent w → Simple w h
    (record (w.handlers h) { stack = begun r (w.handlers h).stack; callback = None }) w.next
calling_back_simple h r w alive waits fine =
    let c = fine.callbacks h r waits in
    (pushing w h (record { origin = Some r; reserved = []; needs = []; waits = None }) None
    (w.handlers h).requests fine (record {
      lives = alive;
      starts = refl;
      no_more = refl;
      unanswered = c.2;
      begun = (c.0, inr c.1);
      not_away = λ a. no_request r (sym a.no_callback ∙ waits);
      not_asks = λ k lo hi a. true_false
          (sym c.1.2 ∙ ap (λ (x : Wait). x.passing) (some_wait c.1.0 a.for (sym c.1.1 ∙ a.waits)) ∙ a.keeps);
      same = ap (λ o. and_this o (and_begun (w.handlers h).stack (w.handlers h).requests)) (sym waits);
    }))

pub calling_back_keeps : (h : ℕ) (r : Request) (w : World) → (w.handlers h).failed ≡ false
    → (w.handlers h).callback ≡ Some r → IsConsistent w → IsConsistent (take_callback h r w)
calling_back_keeps h r w alive waits fine = simple_keeps w h
    (record (w.handlers h) { stack = begun r (w.handlers h).stack; callback = None }) w.next fine
    (calling_back_simple h r w alive waits fine)

pub entering_simple : (h : ℕ) (w : World) → IsActive (w.handlers h) → IsConsistent w → Simple w h
    (record (w.handlers h) {
      stack = record { origin = None; reserved = []; needs = []; waits = None } ∷
          (w.handlers h).stack;
    }) w.next
entering_simple h w active fine =
    let c = fine.clear h active in
    (pushing w h (record { origin = None; reserved = []; needs = []; waits = None }) (w.handlers h).callback
    (w.handlers h).requests fine (record {
      lives = active.0;
      starts = refl;
      no_more = c.1;
      unanswered = c.0;
      begun = active.1;
      not_away = idle_away (w.handlers h) active;
      not_asks = λ k lo hi a. idle_asks (w.handlers h) k lo hi active a;
      same = refl;
    }))

pub entering_keeps : (h : ℕ) (w : World) → IsActive (w.handlers h) → IsConsistent w → IsConsistent (enter h w)
entering_keeps h w active fine = simple_keeps w h
    (record (w.handlers h) {
      stack = record { origin = None; reserved = []; needs = []; waits = None } ∷
          (w.handlers h).stack;
    }) w.next fine (entering_simple h w active fine)
