-- A reservation and a release keep all.
use Rattle.std.proofs.Common.{◌≡◌, ◌≢◌, ◌⊎◌, ⊎_elim, inl, inr, ℕ, suc, ◌<◌, ◌≤◌, List, [], ◌∷◌, false, refl, sym, ap, ◌∙◌, subst, arith}
use Rattle.sc_machine_laws.specs.states.World.{Grant, Reservation, Wait, Request, Frame, Handler, World, popped, put, relisted, relist, grant, drop, reservations, reserve, release, requests_of, and_this, and_begun}
use Rattle.sc_machine_laws.specs.states.Steps.{waits_for, IsActive, IsIdle}
use Rattle.sc_machine_laws.specs.states.Consistent.{HasWait, StackWaits, HasGrant, Nobody, IsTrail, IsOrdered, HadBefore, Stuck, Told, On, IsOne, HasNumber, AreNumbered, IsConsistent}
use Rattle.sc_machine_laws.proofs.states.Rights.{put-same, put-other}
use Rattle.sc_machine_laws.proofs.states.Waits.{waits_stack, stack_has}
use Rattle.sc_machine_laws.proofs.states.Shrinks.{at_each, shrinking_keeps, numbered_later}
use Rattle.sc_machine_laws.proofs.states.Simple.{Simple, simple_keeps}
use Rattle.sc_machine_laws.proofs.states.PostedRequests.{no_request, idle_asks, idle_away, not_numbered}
use Rattle.sc_machine_laws.proofs.states.AwaitedEnds.{number_of}

-- the top frame's lists stand for nothing else
pub relisted_stack : (r : List Reservation) (n : List ℕ) (x : Wait) (fs : List Frame)
    → (StackWaits x (relisted r n fs) → StackWaits x fs) × (StackWaits x fs → StackWaits x (relisted r n fs))
relisted_stack r n x [] = ((λ i. i), (λ i. i))
relisted_stack r n x (f ∷ fs) = ((λ i. i), (λ i. i))

pub relisted_has : (r : List Reservation) (n : List ℕ) (m : ℕ) (fs : List Frame)
    → (HasWait m (relisted r n fs) → HasWait m fs) × (HasWait m fs → HasWait m (relisted r n fs))
relisted_has r n m [] = ((λ i. i), (λ i. i))
relisted_has r n m (f ∷ fs) = ((λ i. i), (λ i. i))

relisted_popped : (r : List Reservation) (n : List ℕ) (fs : List Frame) → popped (relisted r n fs) ≡ popped fs
relisted_popped r n [] = refl
relisted_popped r n (f ∷ fs) = refl

pub relisted_top : (r : List Reservation) (n : List ℕ) (fs : List Frame) → waits_for (relisted r n fs) ≡ waits_for fs
relisted_top r n [] = refl
relisted_top r n (f ∷ fs) = refl

pub relisted_asked : (r : List Reservation) (n : List ℕ) (fs : List Frame) (rs : List Request) → and_begun
    (relisted r n fs) rs ≡ and_begun fs rs
relisted_asked r n [] rs = refl
relisted_asked r n (f ∷ fs) rs = refl

relisted_ordered : (r : List Reservation) (n : List ℕ) (fs : List Frame) → IsOrdered fs → IsOrdered (relisted r n fs)
relisted_ordered r n [] is = tt
relisted_ordered r n (f ∷ fs) is = is

pub relisting_simple : (h : ℕ) (r : List Reservation) (n : List ℕ) (m : ℕ) (w : World) → IsActive (w.handlers h)
    → w.next ≤ m → IsConsistent w → Simple w h (record (w.handlers h) { stack = relisted r n (w.handlers h).stack }) m
relisting_simple h r n m w active le fine =
    let c = fine.clear h active in
    let g = w.handlers h in
    (record {
      lives = active.0;
      lives_on = active.0;
      later = le;
      fewer = λ x i. (relisted_stack r n x g.stack).0 i;
      kept = λ j i. inl ((relisted_has r n j g.stack).1 i);
      told = λ t. t;
      told_back = λ t. (t, λ x i. (relisted_stack r n x g.stack).1 i);
      stays = λ x o. ((relisted_stack r n x g.stack).1 o.0, inl c.0);
      was = λ x o. ((relisted_stack r n x g.stack).0 o.0, inl c.0);
      clear = λ a. c;
      ordered = relisted_ordered r n g.stack (fine.ordered h);
      callbacks = λ q e. no_request q (sym c.1 ∙ e);
      away = λ a. idle_away g active a;
      asks = λ k lo hi a. idle_asks g k lo hi active a;
      spent = λ x at over. (sym (relisted_top r n g.stack) ∙ at, over);
      requests = λ q i. inl (subst (λ l. IsOne q (and_this g.callback l)) (relisted_asked r n g.stack g.requests) i);
      numbered = numbered_later w.next m (and_this g.callback (and_begun (relisted r n g.stack) g.requests)) le
          (subst (λ l. AreNumbered w.next (and_this g.callback l)) (sym (relisted_asked r n g.stack g.requests))
          (fine.numbered h));
    })

pub relisting_keeps : (h : ℕ) (r : List Reservation) (n : List ℕ) (m : ℕ) (w : World) → IsActive (w.handlers h)
    → w.next ≤ m → IsConsistent w → IsConsistent (relist h r n m w)
relisting_keeps h r n m w active le fine = simple_keeps w h
    (record (w.handlers h) { stack = relisted r n (w.handlers h).stack }) m fine
    (relisting_simple h r n m w active le fine)

-- worlds of the same handlers
pub stuck_same : (u : World) (q : ℕ → List Grant) (k m : ℕ) → Stuck u k m → Stuck (record u { queue = q }) k m
stuck_same u q k m (Told is) = Told is
stuck_same u q k m (On v j still is has lt s) = On v j still is has lt (stuck_same u q v.target j s)

no_had : {A : Type 0} (p n : ℕ) (t : List Grant) → t ≡ [] → HadBefore p n t → A
no_had p n t e had = absurd (subst (HadBefore p n) e had)

pub granting_keeps : (h k i : ℕ) (u : World) → u.queue k ≡ [] → i < u.next
    → ((q : ℕ) → HasWait i (u.handlers q).stack → ⊥) → ((j : ℕ) → HasNumber i (requests_of (u.handlers j)) → ⊥)
    → IsConsistent u → IsConsistent (grant h k i u)
granting_keeps h k i u free lt no_wait no_request fine =
    let e : Grant = record { holder = h; number = i } in
    let q = put k (record { holder = h; number = i } ∷ []) u.queue in
    let here : q k ≡ e ∷ [] = put-same k (e ∷ []) u.queue in
    let there : (j : ℕ) → j ≢ k → q j ≡ u.queue j = λ j ne. put-other k (e ∷ []) u.queue j ne in
    let only : (j x m : ℕ) → HasGrant x m (q j) → (i ≡ m) ⊎ HasGrant x m (u.queue j) = λ j x m. at_each
    (λ y. HasGrant x m (q y) → (i ≡ m) ⊎ HasGrant x m (u.queue y)) k j
    (λ a. ⊎_elim (λ b. inl b.1) (λ b. absurd b) (subst (HasGrant x m) here a))
    (λ ne a. inr (subst (HasGrant x m) (there j ne) a)) in
    record {
      tops = fine.tops;
      clear = fine.clear;
      ordered = fine.ordered;
      callbacks = fine.callbacks;
      queue_trails = λ j. at_each (λ y. IsTrail u Nobody (q y)) k j (subst (IsTrail u Nobody) (sym here) tt)
          (λ ne. subst (IsTrail u Nobody) (sym (there j ne)) (fine.queue_trails j));
      top_trails = fine.top_trails;
      based = fine.based;
      own_top = λ j v o p. ⊎_elim (λ a. inl a)
          (λ l. inr (⊎_elim (λ t. inl t) (λ s. inr (stuck_same u q j v.number s.0, s.1)) l)) (fine.own_top j v o p);
      queue_grants = λ j p x v s a. ⊎_elim
          (λ b. absurd (no_wait p (subst (λ m. HasWait m (u.handlers p).stack) (sym b)
          (stack_has v (u.handlers p).stack s)))) (λ b. fine.queue_grants j p x v s b) (only j x v.number a);
      top_grants = fine.top_grants;
      held = λ p v s. ⊎_elim
          (λ a. inl (at_each (λ y. HadBefore p v.number (u.queue y) → HadBefore p v.number (q y)) k v.target
          (λ b. no_had p v.number (u.queue k) free b)
          (λ ne b. subst (HadBefore p v.number) (sym (there v.target ne)) b) a))
          (λ o. inr (⊎_elim (λ a. inl a) (λ a. inr (a.0, a.1, a.2, stuck_same u q p a.0 a.3)) o))
          (fine.held p v s);
      one_poster = fine.one_poster;
      waits_old = fine.waits_old;
      queue_old = λ j x n a. ⊎_elim (λ b. omega (arith, b, lt)) (λ b. fine.queue_old j x n b) (only j x n a);
      top_old = fine.top_old;
      spent = λ p v at over j x.
          let s = fine.spent p v at over j x in (
            (λ a. ⊎_elim (λ b. no_wait p (subst (λ m. HasWait m (u.handlers p).stack) (sym b)
                (stack_has v (u.handlers p).stack (waits_stack (u.handlers p).stack v at)))) (λ b. s.0 b)
                (only j x v.number a)),
            s.1,
          );
      plain = λ p v st np j x.
          let s = fine.plain p v st np j x in (
            (λ a. ⊎_elim (λ b. no_wait p (subst (λ m. HasWait m (u.handlers p).stack) (sym b)
                (stack_has v (u.handlers p).stack st))) (λ b. s.0 b) (only j x v.number a)),
            s.1,
          );
      dead = fine.dead;
      failures = fine.failures;
      why_told = fine.why_told;
      clients = λ j r one waited. ⊎_elim
          (λ a. inl (
            a.0,
            a.1,
            λ y x. (
              (λ b. ⊎_elim
                  (λ c. absurd (no_request j (number_of r i (requests_of (u.handlers j)) (sym c) one)))
                  (λ c. (a.2 y x).0 c) (only y x r.number b)),
              (a.2 y x).1,
            ),
          ))
          (λ a. inr a)
          (fine.clients j r one waited);
      numbered = fine.numbered;
    }

pub dropping_keeps : (h k i : ℕ) (u : World) → (u.handlers h).failed ≡ false
    → u.queue k ≡ record { holder = h; number = i } ∷ [] → ((m : ℕ) → HasWait m (u.handlers h).stack → m < i)
    → IsConsistent u → IsConsistent (drop k u)
dropping_keeps h k i u lives is older fine =
    let q = put k [] u.queue in
    let here : q k ≡ [] = put-same k [] u.queue in
    let there : (j : ℕ) → j ≢ k → q j ≡ u.queue j = λ j ne. put-other k [] u.queue j ne in
    let less : (j x m : ℕ) → HasGrant x m (q j) → HasGrant x m (u.queue j) = λ j x m. at_each
    (λ y. HasGrant x m (q y) → HasGrant x m (u.queue y)) k j (λ a. absurd (subst (HasGrant x m) here a))
    (λ ne a. subst (HasGrant x m) (there j ne) a) in
    shrinking_keeps u (drop k u) h (record {
      lives = lives;
      lives_on = lives;
      other = λ j ne. refl;
      later = omega arith;
      fewer = λ x s. s;
      stuck_kept = λ j has st. has;
      told = λ t. t;
      told_back = λ t. (t, λ x s. s);
      stays = λ x j o has lt. o;
      was = λ x o. o;
      clear = fine.clear h;
      ordered = fine.ordered h;
      callbacks = fine.callbacks h;
      tops = fine.tops;
      queue_trails = λ j. at_each (λ y. IsTrail u Nobody (q y)) k j (subst (IsTrail u Nobody) (sym here) tt)
          (λ ne. subst (IsTrail u Nobody) (sym (there j ne)) (fine.queue_trails j));
      top_trails = fine.top_trails;
      based = fine.based;
      queue_less = less;
      top_less = λ j x m a. a;
      own = λ j x o p a. inl a;
      had_queue = λ p x s. at_each (λ y. HadBefore p x.number (u.queue y) → HadBefore p x.number (q y)) k x.target
          (λ a. absurd (none p x s (subst (HadBefore p x.number) is a)))
          (λ ne a. subst (HadBefore p x.number) (sym (there x.target ne)) a);
      had_top = λ p x s a. a;
      spent = λ p x at over j y. let s = fine.spent p x at over j y in ((λ a. s.0 (less j y x.number a)), s.1);
      requests = λ r one waited. inl one;
      client = λ j r x one o num to. o;
      numbered = fine.numbered h;
    }) fine
  where
    none : (p : ℕ) (x : Wait) → StackWaits x (u.handlers p).stack → HadBefore p x.number
        (record { holder = h; number = i } ∷ []) → ⊥
    none p x s (inl a) = absurd (let lt = older x.number
        (subst (λ y. HasWait x.number (u.handlers y).stack) (sym a.0) (stack_has x (u.handlers p).stack s)) in let b =
        a.1 in omega (arith, lt, b))
    none p x s (inr a) = a.1

-- a change of lists changes no wait and no request
relist_has : (h : ℕ) (r : List Reservation) (n : List ℕ) (m : ℕ) (w : World) (q j : ℕ) → HasWait j
    ((relist h r n m w).handlers q).stack → HasWait j (w.handlers q).stack
relist_has h r n m w q j = at_each
    (λ y. HasWait j ((relist h r n m w).handlers y).stack → HasWait j (w.handlers y).stack) h q
    (λ i. (relisted_has r n j (w.handlers h).stack).0
    (subst (λ f. HasWait j f.stack)
    (put-same h (record (w.handlers h) { stack = relisted r n (w.handlers h).stack }) w.handlers) i))
    (λ ne i. subst (λ f. HasWait j f.stack)
    (put-other h (record (w.handlers h) { stack = relisted r n (w.handlers h).stack }) w.handlers q ne) i)

relist_number : (h : ℕ) (r : List Reservation) (n : List ℕ) (m : ℕ) (w : World) (q j : ℕ) → HasNumber j
    (requests_of ((relist h r n m w).handlers q)) → HasNumber j (requests_of (w.handlers q))
relist_number h r n m w q j = at_each
    (λ y. HasNumber j (requests_of ((relist h r n m w).handlers y)) → HasNumber j (requests_of (w.handlers y))) h q
    (λ i. subst (λ l. HasNumber j (and_this (w.handlers h).callback l))
    (relisted_asked r n (w.handlers h).stack (w.handlers h).requests)
    (subst (λ f. HasNumber j (requests_of f))
    (put-same h (record (w.handlers h) { stack = relisted r n (w.handlers h).stack }) w.handlers) i))
    (λ ne i. subst (λ f. HasNumber j (requests_of f))
    (put-other h (record (w.handlers h) { stack = relisted r n (w.handlers h).stack }) w.handlers q ne) i)

pub reserving_keeps : (h k : ℕ) (w : World) → IsActive (w.handlers h) → IsIdle k w → IsConsistent w → IsConsistent
    (reserve h k w)
reserving_keeps h k w active idle fine =
    let r = record { handler = k; number = w.next } ∷ reservations (w.handlers h).stack in
    granting_keeps h k w.next (relist h (record { handler = k; number = w.next } ∷ reservations (w.handlers h).stack)
    [] (suc w.next) w) idle.nobodys (omega arith)
    (λ q i. absurd (let lt = fine.waits_old q w.next
    (relist_has h (record { handler = k; number = w.next } ∷ reservations (w.handlers h).stack) []
    (suc w.next) w q w.next i) in omega (arith, lt)))
    (λ j i. not_numbered w.next w.next (requests_of (w.handlers j)) (fine.numbered j) (omega arith)
    (relist_number h (record { handler = k; number = w.next } ∷ reservations (w.handlers h).stack) []
    (suc w.next) w j w.next i))
    (relisting_keeps h (record { handler = k; number = w.next } ∷ reservations (w.handlers h).stack) []
    (suc w.next) w active (omega arith) fine)

-- h's reservation i of k is the only grant, and newer than all that h waits for
pub releasing_keeps : (h k i : ℕ) (rs : List Reservation) (w : World) → IsActive (w.handlers h)
    → w.queue k ≡ record { holder = h; number = i } ∷ [] → ((m : ℕ) → HasWait m (w.handlers h).stack → m < i)
    → IsConsistent w → IsConsistent (release h k rs w)
releasing_keeps h k i rs w active is older fine =
    dropping_keeps h k i (relist h rs [] w.next w)
    (ap (λ (f : Handler). f.failed)
    (put-same h (record (w.handlers h) { stack = relisted rs [] (w.handlers h).stack }) w.handlers) ∙ active.0)
    is (λ m i. older m (relist_has h rs [] w.next w h m i))
    (relisting_keeps h rs [] w.next w active (omega arith) fine)
