-- Each step but asks and failures keeps what was listed.
use Rattle.std.proofs.Common.{◌≡◌, ◌≢◌, ⊎_elim, inl, inr, ℕ, suc, ◌<◌, ◌≤◌, List, [], ◌∷◌, ◌++◌, Some, None, true, false, refl, sym, ap, subst, arith, Option}
use Rattle.sc_machine_laws.specs.states.World.{Grant, Reservation, Request, Frame, Answer, Handler, World, put, popped, post, take_request, take_callback, enter, take_answer, begun, rest_of, resumed, relisted, relist, reservations, reserve, settle, release, pop, back, passes, requests_of, and_this, and_begun}
use Rattle.sc_machine_laws.specs.states.Steps.{answered, IsActive, IsIdle, Ends}
use Rattle.sc_machine_laws.specs.states.Consistent.{HasWait, IsStuckFrom, IsOne, IsConsistent}
use Rattle.sc_machine_laws.specs.states.Provided.{Each, IsProvided}
use Rattle.sc_machine_laws.specs.states.Returns.{IsListed, IsReturnable}
use Rattle.sc_machine_laws.proofs.states.Forms.{exit_plain, exit_passing, exit_unheard, IsDeaf}
use Rattle.sc_machine_laws.proofs.states.Rights.{put-same, put-other}
use Rattle.sc_machine_laws.proofs.states.Shrinks.{at_each}
use Rattle.sc_machine_laws.proofs.states.PostedRequests.{posting_simple, requests_end, one_end, not_numbered}
use Rattle.sc_machine_laws.proofs.states.PushedFrames.{taking_simple, taking_same, calling_back_simple, entering_simple}
use Rattle.sc_machine_laws.proofs.states.PoppedFrames.{popping_simple, popping_less, popping_keeps, answering_simple, resumed_requests}
use Rattle.sc_machine_laws.proofs.states.AwaitedEnds.{Ended, is_ended, number_of}
use Rattle.sc_machine_laws.proofs.states.HeardClients.{heard_by, hearing_shrinks}
use Rattle.sc_machine_laws.proofs.states.PlainReplies.{heard_plain, plain_wait, plain_rest}
use Rattle.sc_machine_laws.proofs.states.UnheardReplies.{unheard_shrinks}
use Rattle.sc_machine_laws.proofs.states.PassingReplies.{heard_passing, passing_wait, passing_rest}
use Rattle.sc_machine_laws.proofs.states.Reservations.{relisting_simple, relisted_asked, stuck_same}
use Rattle.sc_machine_laws.proofs.states.ProvidedFrames.{reserved_is_own}
use Rattle.sc_machine_laws.proofs.states.ServingEnds.{heard_requests}
use Rattle.sc_machine_laws.proofs.states.ReturningSteps.{grant_of, returns_granted, listed_back, relisting_returns, shrinking_returns, quiet_returns, other_number}

pub posting_returns : (h k : ℕ) (w : World) → (w.handlers k).failed ≡ false → IsConsistent w → IsReturnable w
    → IsReturnable (post h k w)
posting_returns h k w alive fine is =
    let r : Request = record { number = w.next; poster = h; waited = false; passed = None; asked = w.asks } in
    quiet_returns w k (record (w.handlers k) {
      requests =
          (w.handlers k).requests ++ record { number = w.next; poster = h; waited = false; passed = None; asked = w.asks } ∷ [];
    })
    (suc w.next) fine (posting_simple h k w alive fine)
    (λ q one. ⊎_elim (λ old. inl old) (λ e. inr (ap (λ (x : Request). x.passed) (sym e)))
    (one_end q r (requests_of (w.handlers k)) (subst (IsOne q) (requests_end (w.handlers k) r) one))) is

pub taking_returns : (h : ℕ) (r : Request) (rs : List Request) (w : World) → (w.handlers h).failed ≡ false
    → (w.handlers h).stack ≡ [] → (w.handlers h).requests ≡ r ∷ rs → IsConsistent w → IsReturnable w → IsReturnable
    (take_request h r w)
taking_returns h r rs w alive idle first fine is =
    quiet_returns w h (record (w.handlers h) {
      stack = begun r (w.handlers h).stack;
      requests = rest_of
          (w.handlers h).requests;
    }) w.next fine (taking_simple h r rs w alive idle first fine)
    (λ q one. inl (subst (IsOne q) (taking_same h r rs w alive idle first fine) one)) is

pub calling_back_returns : (h : ℕ) (r : Request) (w : World) → (w.handlers h).failed ≡ false
    → (w.handlers h).callback ≡ Some r → IsConsistent w → IsReturnable w → IsReturnable (take_callback h r w)
calling_back_returns h r w alive waits fine is =
    quiet_returns w h (record (w.handlers h) { stack = begun r (w.handlers h).stack; callback = None }) w.next fine
    (calling_back_simple h r w alive waits fine)
    (λ q one. inl (subst (λ o. IsOne q (and_this o (and_begun (w.handlers h).stack (w.handlers h).requests)))
    (sym waits) one)) is

pub entering_returns : (h : ℕ) (w : World) → IsActive (w.handlers h) → IsConsistent w → IsReturnable w → IsReturnable
    (enter h w)
entering_returns h w active fine is =
    quiet_returns w h (record (w.handlers h)
    { stack = record { origin = None; reserved = []; needs = []; waits = None } ∷ (w.handlers h).stack }) w.next
    fine (entering_simple h w active fine) (λ q one. inl one) is

pub popping_returns : (h : ℕ) (w : World) → IsActive (w.handlers h) → IsConsistent w → IsReturnable w → IsReturnable
    (pop h w)
popping_returns h w active fine is =
    quiet_returns w h (record (w.handlers h) { stack = popped (w.handlers h).stack }) w.next fine
    (popping_simple h w active fine) (λ q one. inl (popping_less h w active fine q one)) is

pub answering_returns : (h : ℕ) (w : World) → (w.handlers h).failed ≡ false → answered (w.handlers h).answer ≡ true
    → IsConsistent w → IsReturnable w → IsReturnable (take_answer h w)
answering_returns h w alive over fine is =
    quiet_returns w h (record (w.handlers h) { stack = resumed (w.handlers h).stack; answer = None }) w.next fine
    (answering_simple h w alive over fine)
    (λ q one. inl (subst (λ l. IsOne q (and_this (w.handlers h).callback l))
    (resumed_requests (w.handlers h).stack (w.handlers h).requests) one)) is

-- ---- reserving and releasing

pub relist_returns : (h : ℕ) (r : List Reservation) (n : List ℕ) (m : ℕ) (w : World) → IsActive (w.handlers h)
    → w.next ≤ m → IsConsistent w → IsReturnable w → IsReturnable (relist h r n m w)
relist_returns h r n m w active le fine is =
    quiet_returns w h (record (w.handlers h) { stack = relisted r n (w.handlers h).stack }) m fine
    (relisting_simple h r n m w active le fine)
    (λ q one. inl (subst (λ l. IsOne q (and_this (w.handlers h).callback l))
    (relisted_asked r n (w.handlers h).stack (w.handlers h).requests) one)) is

stuck_there : (u : World) (q : ℕ → List Grant) (k n : ℕ) → IsStuckFrom u k n → IsStuckFrom
    (record u { queue = q }) k n
stuck_there u q k n (j, le, has, s) = (j, le, has, stuck_same u q k j s)

requeued_returns : (k : ℕ) (t : List Grant) (u : World)
    → ((r : Request) (o : Option (Option ℕ)) (j : ℕ) → IsOne r (requests_of (u.handlers j)) → (o ≡ Some None → ⊥)
    → IsListed r.number o (u.queue k) → IsListed r.number o t)
    → IsReturnable u → IsReturnable (record u { queue = put k t u.queue })
requeued_returns k t u listed is = relisting_returns u (record u { queue = put k t u.queue }) (record {
  requests = λ j r one. inl one;
  stuck = λ j r one x. stuck_there u (put k t u.queue) j (suc r.number) x;
  queues = λ i j r o one old waited some x. inl
      (at_each (λ y. IsListed r.number o (u.queue y) → IsListed r.number o (put k t u.queue y)) k j
      (λ a. subst (IsListed r.number o) (sym (put-same k t u.queue)) (listed r o i old some a))
      (λ ne a. subst (IsListed r.number o) (sym (put-other k t u.queue j ne)) a) x);
  tops = λ i j r o one old waited x. inl x;
  failures = is.failures;
}) is

-- a right of nobody's is granted by a reservation
listed_new : (n h i : ℕ) (o : Option (Option ℕ)) → n ≢ i → IsListed n o [] → IsListed n o
    (record { holder = h; number = i } ∷ [])
listed_new n h i None ne a = λ g. ⊎_elim (λ e. ne (sym e)) (λ b. b) g
listed_new n h i (Some x) ne a = absurd a

none_some : {A X : Type 0} (x : X) → None ≡ Some x → A
none_some x e = cc

-- a reserved right is granted by no request
listed_old : (n h i : ℕ) (o : Option (Option ℕ)) → (o ≡ Some None → ⊥) → IsListed n o
    (record { holder = h; number = i } ∷ []) → IsListed n o []
listed_old n h i None some a = λ g. g
listed_old n h i (Some None) some a = absurd (some refl)
listed_old n h i (Some (Some x)) some (inl a) = none_some x a.1
listed_old n h i (Some (Some x)) some (inr a) = a

pub reserving_returns : (h k : ℕ) (w : World) → IsActive (w.handlers h) → IsIdle k w → IsConsistent w → IsReturnable w
    → IsReturnable (reserve h k w)
reserving_returns h k w active idle fine is =
    let rs : List Reservation = record { handler = k; number = w.next } ∷ reservations (w.handlers h).stack in
    let u = relist h (record { handler = k; number = w.next } ∷ reservations (w.handlers h).stack) []
    (suc w.next) w in
    let g : Handler = record (w.handlers h) {
      stack = relisted (record { handler = k; number = w.next } ∷ reservations (w.handlers h).stack) []
          (w.handlers h).stack;
    } in
    let old : (r : Request) (j : ℕ) → IsOne r (requests_of (u.handlers j)) → IsOne r (requests_of (w.handlers j)) =
    λ r j. at_each (λ y. IsOne r (requests_of (u.handlers y)) → IsOne r (requests_of (w.handlers y))) h j
    (λ one. subst (λ l. IsOne r (and_this (w.handlers h).callback l))
    (relisted_asked rs [] (w.handlers h).stack (w.handlers h).requests)
    (subst (λ f. IsOne r (requests_of f)) (put-same h g w.handlers) one))
    (λ ne one. subst (λ f. IsOne r (requests_of f)) (put-other h g w.handlers j ne) one) in
    requeued_returns k (record { holder = h; number = w.next } ∷ []) u
    (λ r o j one some a. listed_new r.number h w.next o
    (λ e. not_numbered w.next w.next (requests_of (w.handlers j)) (fine.numbered j) (omega arith)
    (number_of r w.next (requests_of (w.handlers j)) e (old r j one)))
    (subst (IsListed r.number o) idle.nobodys a))
    (relist_returns h rs [] (suc w.next) w active (omega arith) fine is)

pub settling_returns : (h : ℕ) (ks : List ℕ) (w : World) → IsActive (w.handlers h) → IsConsistent w → IsReturnable w
    → IsReturnable (settle h ks w)
settling_returns h ks w active fine is = relist_returns h (reservations (w.handlers h).stack) ks w.next w active
    (omega arith) fine is

pub releasing_returns : (h : ℕ) (r : Reservation) (rs : List Reservation) (f : Frame) (fs : List Frame) (w : World)
    → IsActive (w.handlers h) → (w.handlers h).stack ≡ f ∷ fs → f.reserved ≡ r ∷ rs
    → IsConsistent w → IsProvided w → IsReturnable w → IsReturnable (release h r.handler rs w)
releasing_returns h r rs f fs w active at its fine provided is =
    let own = (subst (Each (λ (x : Reservation). (w.queue x.handler ≡ record { holder = h; number = x.number } ∷ []) ×
    ((m : ℕ) → HasWait m (w.handlers h).stack → m < x.number))) its
    (reserved_is_own w fine provided h f fs active at)).0.0 in
    requeued_returns r.handler [] (relist h rs [] w.next w)
    (λ q o j one some a. listed_old q.number h r.number o some (subst (IsListed q.number o) own a))
    (relist_returns h rs [] w.next w active (omega arith) fine is)

-- ---- the end of a request

listed_after : (h : ℕ) (r : Request) (u : World) → IsConsistent u → Ended h r u → (k j : ℕ) (q : Request)
    (o : Option (Option ℕ)) → IsOne q (requests_of (u.handlers k)) → q.waited ≡ true
    → (IsListed q.number o (u.queue j) → IsListed q.number o (back r.number (u.queue j))) ×
    (IsListed q.number o (u.top j) → IsListed q.number o (back r.number (u.top j)))
listed_after h r u fine e k j q o one waited = (
  (λ a. listed_back q.number r.number o (u.queue j)
      (λ x i. let g = grant_of q.number (u.queue j) (returns_granted q.number x (u.queue j) i) in other_number h k j r
      q u fine e one waited g.0 (inl g.1)) a),
  (λ a. listed_back q.number r.number o (u.top j)
      (λ x i. let g = grant_of q.number (u.top j) (returns_granted q.number x (u.top j) i) in other_number h k j r q u
      fine e one waited g.0 (inr g.1)) a),
)

pub exit_plain_returns : (a : Answer) (h : ℕ) (r : Request) (w : World) → answered (Some a) ≡ true → Ends h r w
    → passes r ≡ false → ((pop h w).handlers r.poster).failed ≡ false → ((pop h w).handlers r.poster).answer ≡ None
    → IsConsistent w → IsReturnable w → IsReturnable (exit_plain a h r.poster w)
exit_plain_returns a h r w reply ends plain alive none fine is =
    let u = pop h w in
    let g = popping_keeps h w ends.active fine in
    let e = is_ended h r w fine ends in
    let b = heard_plain h r u g e plain alive none in
    shrinking_returns u (heard_by a r u u.queue u.top) r.poster
    (hearing_shrinks a h r u u.queue u.top reply g e b (plain_rest a h r u g e b (plain_wait h r u g e plain b)))
    (λ k q one. subst (IsOne q) (heard_requests a r u k) one)
    (λ k j q o one waited some x. x) (λ k j q o one waited x. x) (popping_returns h w ends.active fine is)

pub exit_passing_returns : (a : Answer) (h : ℕ) (r : Request) (w : World) → answered (Some a) ≡ true → Ends h r w
    → passes r ≡ true → ((pop h w).handlers r.poster).failed ≡ false → ((pop h w).handlers r.poster).answer ≡ None
    → IsConsistent w → IsReturnable w → IsReturnable (exit_passing a h r.number r.poster w)
exit_passing_returns a h r w reply ends passing alive none fine is =
    let u = pop h w in
    let g = popping_keeps h w ends.active fine in
    let e = is_ended h r w fine ends in
    let b = heard_passing h r u g e passing alive none in
    shrinking_returns u (heard_by a r u (λ k. back r.number (u.queue k)) (λ k. back r.number (u.top k))) r.poster
    (hearing_shrinks a h r u (λ k. back r.number (u.queue k)) (λ k. back r.number (u.top k)) reply g e b.0
    (passing_rest a h r u g e b.0 (passing_wait h r u g e passing b.0) b.1 reply))
    (λ k q one. subst (IsOne q) (heard_requests a r u k) one)
    (λ k j q o one waited some x. (listed_after h r u g e k j q o one waited).0 x)
    (λ k j q o one waited x. (listed_after h r u g e k j q o one waited).1 x)
    (popping_returns h w ends.active fine is)

pub exit_unheard_returns : (h : ℕ) (r : Request) (w : World) → Ends h r w → IsDeaf h r.poster w → IsConsistent w
    → IsReturnable w → IsReturnable (exit_unheard h r.number w)
exit_unheard_returns h r w ends deaf fine is =
    let u = pop h w in
    let g = popping_keeps h w ends.active fine in
    let e = is_ended h r w fine ends in
    shrinking_returns u (exit_unheard h r.number w) h (unheard_shrinks h r w ends deaf fine) (λ k q one. one)
    (λ k j q o one waited some x. (listed_after h r u g e k j q o one waited).0 x)
    (λ k j q o one waited x. (listed_after h r u g e k j q o one waited).1 x)
    (popping_returns h w ends.active fine is)
