-- The laws of states that are reached.
use Rattle.std.proofs.Common.{◌≡◌, ◌⊎◌, ⊎_elim, inl, inr, ℕ, ◌<◌, ◌≤◌, List, [], ◌∷◌, Some, None, Bool, true, false, refl, sym, ap, ◌∙◌, subst, arith, Option}
use Rattle.std.proofs.lemmas.Bool.{cases_eq}
use Rattle.sc_machine_laws.specs.states.World.{Grant, Reservation, Wait, Request, Frame, Answer, Reply, Refused, SupplierFailed, Handler, World, put, holder, has, popped, pop, request, arrive, land, begun, rest_of, resumed, relisted, reservations, requests_of, and_this, and_begun, passes}
use Rattle.sc_machine_laws.specs.states.Steps.{MayAsk, waits_for, IsActive, IsTold, answered, Holds, EachHeld, Step, Steps, Still, Then, Posts, Asks, AsksPassing, Takes, CallsBack, Enters, Answers, Reserves, Settles, Releases, Pops, Finishes, Fails}
use Rattle.sc_machine_laws.specs.states.Consistent.{HasWait, StackWaits, IsOpen, HasGrant, Lends, Nobody, IsTrail, IsBegun, IsOrdered, HadBefore, Told, On, Stuck, IsOne, IsConsistent}
use Rattle.sc_machine_laws.specs.states.Provided.{Each, HadAlone, lowest, under, IsBetween, IsAssured, KeepsReserved, AreHeld, Falling, all_reserved, IsProvided}
use Rattle.sc_machine_laws.specs.states.Served.{IsServed}
use Rattle.sc_machine_laws.specs.states.Returns.{IsReturnable}
use Rattle.sc_machine_laws.specs.states.Lawful.{root, opening, IsLawful}
use Rattle.sc_machine_laws.specs.states.Laws as laws
use Rattle.sc_machine_laws.specs.states.Laws.{RunsIn, EachGranted}
use Rattle.sc_machine_laws.proofs.states.Forms.{fail_by_waits}
use Rattle.sc_machine_laws.proofs.states.Rights.{put-same, put-other, not_some}
use Rattle.sc_machine_laws.proofs.states.Waits.{true_false, no_wait, lower_passes, same_wait}
use Rattle.sc_machine_laws.proofs.states.Shrinks.{at_each}
use Rattle.sc_machine_laws.proofs.states.PostedRequests.{requests_end, one_end}
use Rattle.sc_machine_laws.proofs.states.PushedFrames.{taking_same}
use Rattle.sc_machine_laws.proofs.states.PoppedFrames.{popping_less, popping_keeps, resumed_requests}
use Rattle.sc_machine_laws.proofs.states.AwaitedEnds.{Ended, is_ended, ended_asks, passed_top_is_here}
use Rattle.sc_machine_laws.proofs.states.HeardClients.{Client, the_client}
use Rattle.sc_machine_laws.proofs.states.Arrivals as landing
use Rattle.sc_machine_laws.proofs.states.Posters.{began, began_requests}
use Rattle.sc_machine_laws.proofs.states.Asks.{plain_calls, passing_queue, passing_top, passing_calls}
use Rattle.sc_machine_laws.proofs.states.Reservations.{relisted_asked}
use Rattle.sc_machine_laws.proofs.states.FailureSteps.{requests_same}
use Rattle.sc_machine_laws.proofs.states.ServingEnds.{heard_requests}
use Rattle.sc_machine_laws.proofs.states.Failures.{fail-here, fail_kept, fail_told, fail_new, fail_why}
use Rattle.sc_machine_laws.proofs.states.Chains.{chains_hold, none_reserves}
use Rattle.sc_machine_laws.proofs.states.Opening.{opening_fine, empty, each}
use Rattle.sc_machine_laws.proofs.states.EveryStep.{fails_alike, finish_cases, consistent_kept, provided_kept, served_kept}
use Rattle.sc_machine_laws.proofs.states.ReturningTurns.{posting_returns, taking_returns, calling_back_returns, entering_returns, popping_returns, answering_returns, reserving_returns, settling_returns, releasing_returns, exit_plain_returns, exit_passing_returns, exit_unheard_returns}
use Rattle.sc_machine_laws.proofs.states.ReturningAsks.{arrived, asking_returns, asking_passing_returns, failing_returns}

-- ---- each step

pub returnable_kept : (w v : World) → Step w v → IsConsistent w → IsProvided w → IsServed w → IsReturnable w
    → IsReturnable v
returnable_kept w v (Posts h k active holds lives) fine provided served is = posting_returns h k w lives fine is
returnable_kept w v (Asks h k may) fine provided served is = asking_returns h k w may fine is
returnable_kept w v (AsksPassing h k may) fine provided served is = asking_passing_returns h k w may fine is
returnable_kept w v (Takes h r rs alive idle first) fine provided served is =
    taking_returns h r rs w alive idle first fine is
returnable_kept w v (CallsBack h r alive waits) fine provided served is =
    calling_back_returns h r w alive waits fine is
returnable_kept w v (Enters h active) fine provided served is = entering_returns h w active fine is
returnable_kept w v (Answers h x alive at over) fine provided served is = answering_returns h w alive over fine is
returnable_kept w v (Reserves h k f fs active at idle) fine provided served is =
    reserving_returns h k w active idle fine is
returnable_kept w v (Settles h f fs ks active at holds) fine provided served is =
    settling_returns h ks w active fine is
returnable_kept w v (Releases h r rs f fs active at its) fine provided served is =
    releasing_returns h r rs f fs w active at its fine provided is
returnable_kept w v (Pops h f fs active at none free) fine provided served is = popping_returns h w active fine is
returnable_kept w v (Finishes a h r reply ends released) fine provided served is = finish_cases a h r w IsReturnable
    (λ plain hears. exit_plain_returns a h r w reply ends plain hears.0 hears.1 fine is)
    (λ passing hears. exit_passing_returns a h r w reply ends passing hears.0 hears.1 fine is)
    (λ plain deaf. popping_returns h w ends.active fine is)
    (λ passing deaf. exit_unheard_returns h r w ends deaf fine is)
returnable_kept w v (Fails h may) fine provided served is = subst IsReturnable
    (sym (fails_alike h w may.lives fine served)) (failing_returns h w may fine is)

pub steps_are_lawful : laws.StepsAreLawful
steps_are_lawful w v law step = record {
  consistent = consistent_kept w v step law.consistent law.provided law.served;
  provided = provided_kept w v step law.consistent law.provided law.served;
  served = served_kept w v step law.consistent law.provided law.served;
  returnable = returnable_kept w v step law.consistent law.provided law.served law.returnable;
}

pub rows_are_lawful : (w v : World) → Steps w v → IsLawful w → IsLawful v
rows_are_lawful w v (Still u) law = law
rows_are_lawful w v (Then x u y step more) law = rows_are_lawful u v more (steps_are_lawful w u law step)

none_some : {A X : Type 0} (x : X) → None ≡ Some x → A
none_some x e = cc

only_root : (k : ℕ) (r : Request) → IsOne r (requests_of (opening.handlers k)) → r ≡ root
only_root k r = each (λ g. IsOne r (requests_of g) → r ≡ root) k (λ i. ⊎_elim (λ e. sym e) (λ a. absurd a) i)
    (λ i. absurd i)

pub opening_is_lawful : IsLawful opening
opening_is_lawful = record {
  consistent = opening_fine;
  provided = record {
    held = λ p. subst (AreHeld (IsAssured opening p) (KeepsReserved opening p) 1) (sym (empty p)) tt;
    apart = λ p. subst (λ s. Falling 1 (all_reserved s)) (sym (empty p)) tt;
  };
  served = λ p x o lives. absurd (subst (StackWaits x) (empty p) o.0);
  returnable = record {
    listed = λ k r p one passed. none_some p (ap (λ (q : Request). q.passed) (sym (only_root k r one)) ∙ passed);
    waited = λ k r one not. ap (λ (q : Request). q.passed) (only_root k r one);
    failures = λ k r one dead. true_false (sym dead ∙ each (λ g. g.failed ≡ false) k refl refl);
  };
}

pub reached_are_lawful : laws.ReachedAreLawful
reached_are_lawful w reached = rows_are_lawful opening w reached opening_is_lawful

-- ---- the chain, and kept for the request

pub kept_for_request : laws.KeptForRequest
kept_for_request w law = none_reserves w law.consistent

pub chain_holds : laws.ChainHolds
chain_holds w law p k waits alive =
    let c = chains_hold w law.consistent p k waits in
    (c.0, ⊎_elim (λ a. inl a) (λ o. ⊎_elim (λ a. inr a) (λ f. true_false (sym f ∙ alive c.0 c.2)) o) c.1, c.2)

-- ---- held while it runs

-- all waits of p are older than m: so of those who have the right by m or later, none is over p
no_gap : (w : World) (L : ℕ → ℕ → ℕ → Type 0) (p m : ℕ) → ((j : ℕ) → HasWait j (w.handlers p).stack → j < m)
    → ((lo j : ℕ) → L p lo j → ⊥) → (w.handlers p).failed ≡ false
    → (e : Grant) (t : List Grant) → IsTrail w L (e ∷ t) → m ≤ e.number → HadBefore p m t → ⊥
no_gap w L p m old lent alive e [] is le had = had
no_gap w L p m old lent alive e (d ∷ t) is le (inr had) = no_gap w L p m old lent alive d t is.2 had.0 had.1
no_gap w L p m old lent alive e (d ∷ t) is le (inl here) = ⊎_elim
    (λ has. absurd (let lt = old e.number (subst (λ y. HasWait e.number (w.handlers y).stack) here.0 has) in omega
    (arith, lt, le)))
    (λ o. ⊎_elim (λ l. lent d.number e.number (subst (λ y. L y d.number e.number) here.0 l))
    (λ f. true_false (sym f ∙ ap (λ y. (w.handlers y).failed) here.0 ∙ alive)) o)
    is.0

holds_first : (w : World) (L : ℕ → ℕ → ℕ → Type 0) (p m : ℕ) → ((j : ℕ) → HasWait j (w.handlers p).stack → j < m)
    → ((lo j : ℕ) → L p lo j → ⊥) → (w.handlers p).failed ≡ false
    → (t : List Grant) → IsTrail w L t → HadBefore p m t → holder t ≡ Some p
holds_first w L p m old lent alive [] is had = absurd had
holds_first w L p m old lent alive (e ∷ t) is (inl a) = ap Some a.0
holds_first w L p m old lent alive (e ∷ t) is (inr a) = absurd (no_gap w L p m old lent alive e t is a.0 a.1)

pub assured_held : (w : World) → IsConsistent w → (p m k : ℕ) → IsActive (w.handlers p)
    → ((j : ℕ) → HasWait j (w.handlers p).stack → j < m) → IsAssured w p m k → Holds w p k
assured_held w fine p m k active old a = ⊎_elim
    (λ had. inl (holds_first w Nobody p m old (λ lo j l. l) active.0 (w.queue k) (fine.queue_trails k) had))
    (λ o. ⊎_elim
    (λ had. inr (holds_first w (Lends w k) p m old (λ lo j l. not_some l.0.for (sym active.1 ∙ l.0.waits)) active.0
    (w.top k) (fine.top_trails k) had))
    (λ s. absurd (let lt = old s.0 s.2 in let le = s.1 in omega (arith, lt, le)))
    o)
    a

-- the waits of the frames below are older than when those frames go on
under_newer : (fs : List Frame) (n : ℕ) (rs : List Reservation) → ((j : ℕ) → HasWait j fs → j < n) → Each
    (IsBetween fs n) rs → (j : ℕ) → HasWait j fs → j < under rs n
under_newer fs n [] old is j has = old j has
under_newer fs n (r ∷ []) old is j has = is.0.0 j has
under_newer fs n (r ∷ q ∷ rs) old is j has = under_newer fs n (q ∷ rs) old is.1 j has

each_held : (w : World) (p : ℕ) (S : ℕ → Type 0) → ((k : ℕ) → S k → Holds w p k) → (ks : List ℕ) → Each S ks
    → EachHeld w p ks
each_held w p S held [] is = tt
each_held w p S held (k ∷ ks) is = (held k is.0, each_held w p S held ks is.1)

last_had : (p n i : ℕ) (t : List Grant) → HadAlone p n i t → HadBefore p n t
last_had p n i [] had = absurd had
last_had p n i (e ∷ t) (inl a) = inl (a.0, let b = a.1 in let lt = a.2 in omega (arith, b, lt))
last_had p n i (e ∷ t) (inr a) = inr (a.0, last_had p n i t a.1)

kept_held : (w : World) → IsConsistent w → (p m : ℕ) (r : Reservation) → IsActive (w.handlers p)
    → ((j : ℕ) → HasWait j (w.handlers p).stack → j < m) → KeepsReserved w p m r → holder (w.queue r.handler) ≡ Some p
kept_held w fine p m r active old a = ⊎_elim
    (λ had. holds_first w Nobody p m old (λ lo j l. l) active.0 (w.queue r.handler) (fine.queue_trails r.handler)
    (last_had p m r.number (w.queue r.handler) had))
    (λ s. absurd (let lt = old s.0 s.2 in let le = s.1 in omega (arith, lt, le)))
    a

each_granted : (w : World) (p : ℕ) (S : Reservation → Type 0)
    → ((r : Reservation) → S r → holder (w.queue r.handler) ≡ Some p) → (rs : List Reservation) → Each S rs
    → EachGranted w p rs
each_granted w p S held [] is = tt
each_granted w p S held (r ∷ rs) is = (held r is.0, each_granted w p S held rs is.1)

-- a stack, at the number n, all of whose waits are older
running : (w : World) → IsConsistent w → (p : ℕ) → IsActive (w.handlers p) → (f : Frame) (n : ℕ) (fs : List Frame)
    → waits_for fs ≡ None → IsOrdered fs
    → ((j : ℕ) → HasWait j fs → j < n) → ((j : ℕ) → HasWait j (w.handlers p).stack → HasWait j fs) → AreHeld
    (IsAssured w p) (KeepsReserved w p) n fs → RunsIn f fs
    → EachHeld w p f.needs × EachGranted w p f.reserved
running w fine p active f n [] free ordered old all is runs = absurd runs
running w fine p active f n (g ∷ fs) free ordered old all is (inl e) =
    let held : Each (IsAssured w p n) g.needs = subst (λ o. Each (IsAssured w p (lowest o n)) g.needs) free is.1 in
    let kept : Each (KeepsReserved w p n) g.reserved = subst
    (λ o. Each (KeepsReserved w p (lowest o n)) g.reserved) free is.2 in
    subst (λ (x : Frame). EachHeld w p x.needs × EachGranted w p x.reserved) e (
      each_held w p (IsAssured w p n) (λ k a. assured_held w fine p n k active (λ j has. old j (all j has)) a) g.needs
          held,
      each_granted w p (KeepsReserved w p n) (λ r a. kept_held w fine p n r active (λ j has. old j (all j has)) a)
          g.reserved kept,
    )
running w fine p active f n (g ∷ fs) free ordered old all is (inr r) =
    let less : (j : ℕ) → HasWait j (g ∷ fs) → HasWait j fs = λ j has. ⊎_elim (λ i. no_wait j g.waits free i)
    (λ i. i) has in
    running w fine p active f (under g.reserved n) fs (subst (λ o. IsBegun o fs) r.0 ordered.0) ordered.1
    (under_newer fs n g.reserved (λ j has. old j (inr has))
    (subst (λ o. Each (IsBetween fs (lowest o n)) g.reserved) free is.3))
    (λ j has. less j (all j has))
    (subst (λ o. AreHeld (IsAssured w p) (KeepsReserved w p) (under g.reserved (lowest o n)) fs) free is.4) r.1

runs_provided : (w : World) → IsLawful w → (p : ℕ) (f : Frame) → IsActive (w.handlers p) → RunsIn f
    (w.handlers p).stack → EachHeld w p f.needs × EachGranted w p f.reserved
runs_provided w law p f active runs =
    running w law.consistent p active f w.next (w.handlers p).stack active.1 (law.consistent.ordered p)
    (λ j has. law.consistent.waits_old p j has) (λ j has. has) (law.provided.held p) runs

pub held_while_it_runs : laws.HeldWhileItRuns
held_while_it_runs w law p f active runs = (runs_provided w law p f active runs).0

pub reserved_while_it_runs : laws.ReservedWhileItRuns
reserved_while_it_runs w law p f active runs = (runs_provided w law p f active runs).1

-- ---- told

pub told : laws.Told
told w law p = ((λ v still dead. law.consistent.dead p v still dead), (λ is. law.consistent.why_told p is))

pub failure_tells : laws.FailureTells
failure_tells w law h may p ne =
    let same = fails_alike h w may.lives law.consistent law.served in (
      (λ is. fail_why h w p ne (subst (λ (v : World). IsTold (v.handlers p)) same is)),
      (λ o. subst (λ (v : World). IsTold (v.handlers p)) (sym same)
          (⊎_elim (λ is. fail_told h w p ne is)
          (λ (a : (v : Wait) × IsOpen v (w.handlers p) × (v.target ≡ h)). fail_new h w p a.0 ne a.1 a.2) o)),
    )

-- ---- one answer

pub callback_first : laws.CallbackFirst
callback_first w law k r is = (law.consistent.callbacks k r is).2

-- who has no reply has no answer, or is told
quiet : (o : Option Answer) → answered o ≡ false → (o ≡ None) ⊎ (o ≡ Some SupplierFailed)
quiet None is = inl refl
quiet (Some Reply) is = true_false is
quiet (Some Refused) is = true_false is
quiet (Some SupplierFailed) is = inr refl

pub one_answer : laws.OneAnswer
one_answer w law h r ends alive =
    let fine = law.consistent in
    let u = pop h w in
    let g = popping_keeps h w ends.active fine in
    let e = is_ended h r w fine ends in
    let there : u.handlers r.poster ≡ w.handlers r.poster = put-other h
    (record (w.handlers h) { stack = popped (w.handlers h).stack }) w.handlers r.poster e.other in
    let alive_u : (u.handlers r.poster).failed ≡ false = ap (λ (f : Handler). f.failed) there ∙ alive in
    subst (λ (f : Handler). (f.answer ≡ None) ⊎ IsTold f) there
    (at h r u g e alive_u (the_client h r u e alive_u) (passes r) refl)
  where
    stuck : (h : ℕ) (r : Request) (u : World) → IsConsistent u → Ended h r u → (c : Client h r u) → (m : ℕ)
        → c.wait.number ≡ m → Stuck u r.poster m → IsTold (u.handlers r.poster)
    stuck h r u fine e c m is (Told t) = t
    stuck h r u fine e c m is (On x j o num has lt s) =
        let same = same_wait (u.handlers r.poster).stack (fine.ordered r.poster) x c.wait o.0 c.still.0
        (num ∙ sym is) in
        let old = e.older j (subst (λ y. HasWait j (u.handlers y).stack)
        (ap (λ (i : Wait). i.target) same ∙ c.target) has) in
        let n = c.number in
        absurd (omega (arith, old, lt, is, n))

    at : (h : ℕ) (r : Request) (u : World) → IsConsistent u → Ended h r u → (u.handlers r.poster).failed ≡ false
        → Client h r u → (b : Bool) → passes r ≡ b → ((u.handlers r.poster).answer ≡ None) ⊎ IsTold
        (u.handlers r.poster)
    at h r u fine e alive c false so = quiet (u.handlers r.poster).answer (⊎_elim
        (λ un. un)
        (λ low. true_false (sym (lower_passes (u.handlers r.poster).stack (fine.ordered r.poster) c.wait low)
        ∙ c.passing ∙ so))
        c.still.1)
    at h r u fine e alive c true so = ⊎_elim
        (λ i.
        let first = passed_top_is_here h r u fine e r.poster
        (subst (λ y. HasGrant y r.number (u.top r.poster)) c.target
        (subst (λ m. HasGrant c.wait.target m (u.top r.poster)) c.number i)) in
        ⊎_elim
        (λ away. quiet (u.handlers r.poster).answer away.unanswered)
        (λ o. ⊎_elim (λ asks. ended_asks h r u e r.poster r.number u.next asks) (λ f. true_false (sym f ∙ e.lives)) o)
        (fine.tops r.poster h r.number first (λ hp. e.other (sym hp)) alive))
        (λ o. ⊎_elim (λ t. inr t) (λ s. inr (stuck h r u fine e c c.wait.number refl s.0)) o)
        (fine.own_top r.poster c.wait c.still (c.passing ∙ so))

-- ---- posted under a right

abbrev Stood : World → ℕ → Request → Type 0
Stood w k r = IsOne r (requests_of (w.handlers k)) ⊎ ((r.number ≡ w.next) × Holds w r.poster k)

stood_at : (w : World) (h : ℕ) (g : Handler) → ((r : Request) → IsOne r (requests_of g) → Stood w h r) → (k : ℕ)
    (r : Request) → IsOne r (requests_of (put h g w.handlers k)) → Stood w k r
stood_at w h g new k r = at_each (λ y. IsOne r (requests_of (put h g w.handlers y)) → Stood w y r) h k
    (λ one. new r (subst (λ f. IsOne r (requests_of f)) (put-same h g w.handlers) one))
    (λ ne one. inl (subst (λ f. IsOne r (requests_of f)) (put-other h g w.handlers k ne) one))

asked_stood : (h k : ℕ) (b : Bool) (q t : ℕ → List Grant) (w : World) (may : MayAsk h k w) → (c : Bool)
    → (c ≡ true → landing.CallsBack k (request h b w) (began h k b q t w)) → (j : ℕ) (i : Request)
    → IsOne i (requests_of ((land c k (request h b w) (began h k b q t w)).handlers j)) → Stood w j i
asked_stood h k b q t w may c calls j i =
    let u = began h k b q t w in
    let r = request h b w in
    at_each (λ y. IsOne i (requests_of (put k (arrive c r (u.handlers k)) u.handlers y)) → Stood w y i) k j
    (λ one. ⊎_elim
    (λ before. inl (subst (IsOne i) (began_requests h k b q t w may k) before))
    (λ e. inr (ap (λ (z : Request). z.number) (sym e), subst (λ (z : Request). Holds w z.poster k) e may.right))
    (arrived c r i (u.handlers k) (λ so. (calls so).away.no_callback)
    (subst (λ f. IsOne i (requests_of f)) (put-same k (arrive c r (u.handlers k)) u.handlers) one)))
    (λ ne one. inl (subst (IsOne i) (began_requests h k b q t w may j)
    (subst (λ f. IsOne i (requests_of f)) (put-other k (arrive c r (u.handlers k)) u.handlers j ne) one)))

relist_stood : (h : ℕ) (rs : List Reservation) (ns : List ℕ) (w : World) (k : ℕ) (r : Request) → IsOne r
    (requests_of (put h (record (w.handlers h) { stack = relisted rs ns (w.handlers h).stack }) w.handlers k))
    → Stood w k r
relist_stood h rs ns w = stood_at w h (record (w.handlers h) { stack = relisted rs ns (w.handlers h).stack })
    (λ r one. inl (subst (λ l. IsOne r (and_this (w.handlers h).callback l))
    (relisted_asked rs ns (w.handlers h).stack (w.handlers h).requests) one))

popped_stood : (h : ℕ) (w : World) → IsActive (w.handlers h) → IsConsistent w → (k : ℕ) (r : Request) → IsOne r
    (requests_of ((pop h w).handlers k)) → Stood w k r
popped_stood h w active fine = stood_at w h (record (w.handlers h) { stack = popped (w.handlers h).stack })
    (λ r one. inl (popping_less h w active fine r one))

pub posted_under_right : laws.PostedUnderRight
posted_under_right w v law (Posts h j active holds lives) = stood_at w j
    (arrive false (record { number = w.next; poster = h; waited = false; passed = None; asked = w.asks }) (w.handlers j))
    (λ r one. ⊎_elim
    (λ old. inl old)
    (λ e. inr (ap (λ (z : Request). z.number) (sym e), subst (λ (z : Request). Holds w z.poster j) e holds))
    (one_end r (record { number = w.next; poster = h; waited = false; passed = None; asked = w.asks }) (requests_of (w.handlers j))
    (subst (IsOne r) (requests_end (w.handlers j)
    (record { number = w.next; poster = h; waited = false; passed = None; asked = w.asks })) one)))
posted_under_right w v law (Asks h j may) = asked_stood h j false w.queue w.top w may (has h (w.top j))
    (plain_calls h j w may law.consistent)
posted_under_right w v law (AsksPassing h j may) = asked_stood h j true (passing_queue h j w)
    (passing_top h j w) w may (has h (w.top j)) (passing_calls h j w may law.consistent)
posted_under_right w v law (Takes h q rs alive idle first) = stood_at w h
    (record (w.handlers h) { stack = begun q (w.handlers h).stack; requests = rest_of (w.handlers h).requests })
    (λ r one. inl (subst (IsOne r) (taking_same h q rs w alive idle first law.consistent) one))
posted_under_right w v law (CallsBack h q alive waits) = stood_at w h
    (record (w.handlers h) { stack = begun q (w.handlers h).stack; callback = None })
    (λ r one. inl (subst (λ o. IsOne r (and_this o (and_begun (w.handlers h).stack (w.handlers h).requests)))
    (sym waits) one))
posted_under_right w v law (Enters h active) = stood_at w h
    (record (w.handlers h) {
      stack = record { origin = None; reserved = []; needs = []; waits = None } ∷
          (w.handlers h).stack;
    }) (λ r one. inl one)
posted_under_right w v law (Answers h x alive at over) = stood_at w h
    (record (w.handlers h) { stack = resumed (w.handlers h).stack; answer = None })
    (λ r one. inl (subst (λ l. IsOne r (and_this (w.handlers h).callback l))
    (resumed_requests (w.handlers h).stack (w.handlers h).requests) one))
posted_under_right w v law (Reserves h j f fs active at idle) = relist_stood h
    (record { handler = j; number = w.next } ∷ reservations (w.handlers h).stack) [] w
posted_under_right w v law (Settles h f fs ks active at holds) = relist_stood h
    (reservations (w.handlers h).stack) ks w
posted_under_right w v law (Releases h q rs f fs active at its) = relist_stood h rs [] w
posted_under_right w v law (Pops h f fs active at none free) = popped_stood h w active law.consistent
posted_under_right w v law (Finishes a h q reply ends released) = λ k r. finish_cases a h q w
    (λ x. IsOne r (requests_of (x.handlers k)) → Stood w k r)
    (λ plain hears one. popped_stood h w ends.active law.consistent k r
    (subst (IsOne r) (heard_requests a q (pop h w) k) one))
    (λ passing hears one. popped_stood h w ends.active law.consistent k r
    (subst (IsOne r) (heard_requests a q (pop h w) k) one))
    (λ plain deaf one. popped_stood h w ends.active law.consistent k r one)
    (λ passing deaf one. popped_stood h w ends.active law.consistent k r one)
posted_under_right w v law (Fails h may) = λ k r one.
    let now = subst (λ (x : World). IsOne r (requests_of (x.handlers k)))
    (fails_alike h w may.lives law.consistent law.served) one in
    ⊎_elim
    (λ kh. absurd (subst (λ (g : Handler). IsOne r (requests_of g)) (fail-here h w)
    (subst (λ y. IsOne r (requests_of ((fail_by_waits h w).handlers y))) kh now)))
    (λ ne. inl (subst (IsOne r) (requests_same (w.handlers k) ((fail_by_waits h w).handlers k) (fail_kept h w k ne))
    now))
    (cases_eq k h)
