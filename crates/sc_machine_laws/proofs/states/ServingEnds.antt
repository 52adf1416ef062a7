-- The end of a frame keeps each open wait served.
use Rattle.std.proofs.Common.{◌≡◌, ◌≢◌, ◌⊎◌, ⊎_elim, inl, inr, ℕ, List, ◌∷◌, Option, Some, None, true, false, refl, sym, ap, ◌∙◌, subst, arith}
use Rattle.std.proofs.lemmas.Bool.{cases_eq}
use Rattle.sc_machine_laws.specs.states.World.{Wait, Request, Frame, Answer, Reply, Refused, SupplierFailed, Handler, World, popped, put, pop, back, give_back, requests_of, and_this, and_begun, passes}
use Rattle.sc_machine_laws.specs.states.Steps.{answered, IsActive, IsTold, Ends}
use Rattle.sc_machine_laws.specs.states.Consistent.{HasWait, StackWaits, IsOpen, HasGrant, Stuck, Told, On, IsOne, IsConsistent}
use Rattle.sc_machine_laws.specs.states.Served.{IsServed}
use Rattle.sc_machine_laws.proofs.states.Forms.{IsDeaf, EndsFree, given_answer, exit_plain, exit_passing, exit_unheard}
use Rattle.sc_machine_laws.proofs.states.Rights.{put-same, put-other}
use Rattle.sc_machine_laws.proofs.states.Waits.{true_false, lower_older, lower_passes, same_wait}
use Rattle.sc_machine_laws.proofs.states.Shrinks.{Shrinks, at_each, grown_failed, grown_told, less_open}
use Rattle.sc_machine_laws.proofs.states.PoppedFrames.{popping_simple, popping_keeps}
use Rattle.sc_machine_laws.proofs.states.AwaitedEnds.{Ended, is_ended, ended_asks, passed_top_is_here}
use Rattle.sc_machine_laws.proofs.states.HeardClients.{Heard, the_client, heard_by, hearing_shrinks}
use Rattle.sc_machine_laws.proofs.states.PlainReplies.{heard_plain, plain_wait, plain_rest}
use Rattle.sc_machine_laws.proofs.states.UnheardReplies.{unheard_shrinks}
use Rattle.sc_machine_laws.proofs.states.PassingReplies.{heard_passing, passing_wait, passing_rest}
use Rattle.sc_machine_laws.proofs.states.FailureSteps.{lives_there}
use Rattle.sc_machine_laws.proofs.states.Served.{moved_served, simple_served}

-- what stands at h before and after its top frame is popped
popped_requests : (h : ℕ) (f : Frame) (fs : List Frame) (w : World) → IsConsistent w → IsActive (w.handlers h)
    → (w.handlers h).stack ≡ f ∷ fs
    → requests_of (w.handlers h) ≡ and_this f.origin
    (requests_of (record (w.handlers h) { stack = popped (w.handlers h).stack }))
popped_requests h f fs w fine active at =
    let c = (fine.clear h active).1 in
    let g : Handler = record (w.handlers h) { stack = popped (w.handlers h).stack } in
    let rest : requests_of g ≡ and_begun fs (w.handlers h).requests =
    ap (λ o. and_this o (and_begun (popped (w.handlers h).stack) (w.handlers h).requests)) c ∙ ap
    (λ s. and_begun (popped s) (w.handlers h).requests) at in
    ap (λ o. and_this o (and_begun (w.handlers h).stack (w.handlers h).requests)) c ∙ ap
    (λ s. and_begun s (w.handlers h).requests) at ∙ ap (and_this f.origin) (sym rest)

first_or : (o : Option Request) (r : Request) (rs : List Request) → IsOne r (and_this o rs) → (o ≡ Some r)
    ⊎ IsOne r rs
first_or None r rs i = inr i
first_or (Some q) r rs (inl e) = inl (ap Some e)
first_or (Some q) r rs (inr i) = inr i

told_or : (o : Option Answer) → (o ≡ None → ⊥) → (o ≡ Some SupplierFailed) ⊎ (answered o ≡ true)
told_or None not = absurd (not refl)
told_or (Some Reply) not = inr refl
told_or (Some Refused) not = inr refl
told_or (Some SupplierFailed) not = inl refl

-- whoever lacks an answer only below
low_only : (g : Handler) (x : Wait) → IsOpen x g → answered g.answer ≡ true → StackWaits x (popped g.stack)
low_only g x o over = ⊎_elim (λ no. true_false (sym over ∙ no)) (λ low. low) o.1

empty_open : {A : Type 0} (w : World) (p : ℕ) (x : Wait) → IsConsistent w → (w.handlers p).failed ≡ true → IsOpen x
    (w.handlers p) → A
empty_open w p x fine dead o = absurd (subst (StackWaits x) (fine.failures p dead) o.0)

ends_here : (h : ℕ) (r : Request) (f : Frame) (fs : List Frame) (w : World) → IsActive (w.handlers h)
    → (w.handlers h).stack ≡ f ∷ fs → f.origin ≡ Some r → r.waited ≡ true → Ends h r w
ends_here h r f fs w active at begun waited =
    record { active = active; frame = f; below = fs; stack = at; begun = begun; waited = waited }

pub popping_served : (h : ℕ) (f : Frame) (fs : List Frame) (w : World) → IsActive (w.handlers h)
    → (w.handlers h).stack ≡ f ∷ fs → EndsFree h f.origin w → IsConsistent w → IsServed w → IsServed (pop h w)
popping_served h f fs w active at free fine served =
    let g : Handler = record (w.handlers h) { stack = popped (w.handlers h).stack } in
    simple_served w h (record (w.handlers h) { stack = popped (w.handlers h).stack }) w.next
    (popping_simple h w active fine)
    (λ p x r o th one num poster waited. ⊎_elim
    (λ mine. inl (deaf_told p x r o num poster waited mine (subst (λ a. EndsFree h a w) mine free)))
    (λ rest. inr rest)
    (first_or f.origin r (requests_of g) (subst (IsOne r) (popped_requests h f fs w fine active at) one)))
    served
  where
    deaf_told : (p : ℕ) (x : Wait) (r : Request) → IsOpen x (w.handlers p) → r.number ≡ x.number → r.poster ≡ p
        → r.waited ≡ true → f.origin ≡ Some r → EndsFree h (Some r) w → IsTold (w.handlers p)
    deaf_told p x r o num poster waited mine (inl not) = true_false (sym waited ∙ not)
    deaf_told p x r o num poster waited mine (inr b) =
        let ends = ends_here h r f fs w active at mine waited in
        let e = is_ended h r w fine ends in
        let same : (pop h w).handlers r.poster ≡ w.handlers r.poster = put-other h
        (record (w.handlers h) { stack = popped (w.handlers h).stack }) w.handlers r.poster e.other in
        let at_p : IsOpen x (w.handlers r.poster) = subst (λ y. IsOpen x (w.handlers y)) (sym poster) o in
        subst (λ y. IsTold (w.handlers y)) poster (⊎_elim
        (λ dead. empty_open w r.poster x fine (ap (λ (z : Handler). z.failed) (sym same) ∙ dead) at_p)
        (λ not. ⊎_elim
        (λ t. t)
        (λ over.
        let c = the_client h r (pop h w) e
        (ap (λ (z : Handler). z.failed) same ∙ lives_there w fine r.poster x at_p.0) in
        let cs : StackWaits c.wait (w.handlers r.poster).stack = subst
        (λ (z : Handler). StackWaits c.wait z.stack) same c.still.0 in
        let one = same_wait (w.handlers r.poster).stack (fine.ordered r.poster) x c.wait at_p.0 cs
        (sym num ∙ sym c.number) in
        true_false (sym (lower_passes (w.handlers r.poster).stack (fine.ordered r.poster) x
        (low_only (w.handlers r.poster) x at_p over)) ∙ ap (λ (i : Wait). i.passing) one ∙ c.passing ∙ b.0))
        (told_or (w.handlers r.poster).answer (λ none. not (ap (λ (z : Handler). z.answer) same ∙ none))))
        b.1)

-- the end of r, whoever hears it
ended_served : (h : ℕ) (r : Request) (w v : World) (j : ℕ) → Ends h r w → IsConsistent w → Shrinks (pop h w) v j
    → ((k : ℕ) → requests_of (v.handlers k) ≡ requests_of ((pop h w).handlers k))
    → ((x : Wait) → IsOpen x (v.handlers r.poster) → x.number ≡ r.number → IsTold (v.handlers r.poster)) → IsServed w
    → IsServed v
ended_served h r w v j ends fine c same closed served =
    let u = pop h w in
    let g : Handler = record (w.handlers h) { stack = popped (w.handlers h).stack } in
    let s = popping_simple h w ends.active fine in
    let here = put-same h g w.handlers in
    let off : (k : ℕ) → k ≢ h → u.handlers k ≡ w.handlers k = λ k ne. put-other h g w.handlers k ne in
    moved_served w v
    (λ p x o. inl (at_each (λ y. IsOpen x (u.handlers y) → IsOpen x (w.handlers y)) h p
    (λ a. s.was x (subst (IsOpen x) here a)) (λ ne a. subst (IsOpen x) (off p ne) a) (less_open u v j c p x o)))
    (λ k a. at_each (λ y. (u.handlers y).failed ≡ false → (w.handlers y).failed ≡ false) h k (λ _. s.lives)
    (λ ne b. ap (λ (f : Handler). f.failed) (sym (off k ne)) ∙ b) (sym (grown_failed u v j c k) ∙ a))
    (λ p x o t. grown_told u v j c p
    (at_each (λ y. IsTold (w.handlers y) → IsTold (u.handlers y)) h p (λ b. subst IsTold (sym here) (s.told b))
    (λ ne b. subst IsTold (sym (off p ne)) b) t))
    (λ p x i o before lives one num poster waited. ⊎_elim
    (λ th. ⊎_elim
    (λ (mine : ends.frame.origin ≡ Some i).
    let is : r ≡ i = some_request r i (sym ends.begun ∙ mine) in
    let rp : r.poster ≡ p = ap (λ (q : Request). q.poster) is ∙ poster in
    inl (subst (λ y. IsTold (v.handlers y)) rp
    (closed x (subst (λ y. IsOpen x (v.handlers y)) (sym rp) o)
    (sym num ∙ ap (λ (q : Request). q.number) (sym is)))))
    (λ rest. inr (subst (IsOne i) (sym (same x.target))
    (subst (λ y. IsOne i (requests_of (u.handlers y))) (sym th)
    (subst (λ f. IsOne i (requests_of f)) (sym here) rest))))
    (first_or ends.frame.origin i (requests_of g)
    (subst (IsOne i) (popped_requests h ends.frame ends.below w fine ends.active ends.stack)
    (subst (λ y. IsOne i (requests_of (w.handlers y))) th one))))
    (λ nh. inr (subst (IsOne i) (sym (same x.target))
    (subst (λ f. IsOne i (requests_of f)) (sym (off x.target nh)) one)))
    (cases_eq x.target h))
    served
  where
    some_request : (q r : Request) → Some q ≡ Some r → q ≡ r
    some_request q r e = cc

-- who has been answered waits no more for r
heard_closed : (a : Answer) (h : ℕ) (r : Request) (u : World) → answered (Some a) ≡ true → IsConsistent u
    → (b : Heard h r u) → (x : Wait) → IsOpen x
    (put r.poster (given_answer a (u.handlers r.poster)) u.handlers r.poster) → x.number ≡ r.number → ⊥
heard_closed a h r u reply fine b x o num =
    let here = put-same r.poster (given_answer a (u.handlers r.poster)) u.handlers in
    let low = low_only (given_answer a (u.handlers r.poster)) x (subst (IsOpen x) here o) reply in
    let lt = lower_older (u.handlers r.poster).stack b.wait x (fine.ordered r.poster) b.waits low in
    let n = b.number in
    absurd (omega (arith, lt, n, num))

pub heard_requests : (a : Answer) (r : Request) (u : World) (k : ℕ) → requests_of
    (put r.poster (given_answer a (u.handlers r.poster)) u.handlers k) ≡ requests_of (u.handlers k)
heard_requests a r u k = at_each
    (λ y. requests_of (put r.poster (given_answer a (u.handlers r.poster)) u.handlers y) ≡ requests_of (u.handlers y))
    r.poster k
    (ap requests_of (put-same r.poster (given_answer a (u.handlers r.poster)) u.handlers))
    (λ ne. ap requests_of (put-other r.poster (given_answer a (u.handlers r.poster)) u.handlers k ne))

pub exit_plain_served : (a : Answer) (h : ℕ) (r : Request) (w : World) → answered (Some a) ≡ true → Ends h r w
    → passes r ≡ false → ((pop h w).handlers r.poster).failed ≡ false → ((pop h w).handlers r.poster).answer ≡ None
    → IsConsistent w → IsServed w → IsServed (exit_plain a h r.poster w)
exit_plain_served a h r w reply ends plain alive none fine served =
    let u = pop h w in
    let g = popping_keeps h w ends.active fine in
    let e = is_ended h r w fine ends in
    let b = heard_plain h r u g e plain alive none in
    ended_served h r w (heard_by a r u u.queue u.top) r.poster ends fine
    (hearing_shrinks a h r u u.queue u.top reply g e b (plain_rest a h r u g e b (plain_wait h r u g e plain b)))
    (heard_requests a r u) (λ x o num. absurd (heard_closed a h r u reply g b x o num)) served

pub exit_passing_served : (a : Answer) (h : ℕ) (r : Request) (w : World) → answered (Some a) ≡ true → Ends h r w
    → passes r ≡ true → ((pop h w).handlers r.poster).failed ≡ false → ((pop h w).handlers r.poster).answer ≡ None
    → IsConsistent w → IsServed w → IsServed (exit_passing a h r.number r.poster w)
exit_passing_served a h r w reply ends passing alive none fine served =
    let u = pop h w in
    let g = popping_keeps h w ends.active fine in
    let e = is_ended h r w fine ends in
    let b = heard_passing h r u g e passing alive none in
    ended_served h r w (heard_by a r u (λ k. back r.number (u.queue k)) (λ k. back r.number (u.top k))) r.poster ends
    fine
    (hearing_shrinks a h r u (λ k. back r.number (u.queue k)) (λ k. back r.number (u.top k)) reply g e b.0
    (passing_rest a h r u g e b.0 (passing_wait h r u g e passing b.0) b.1 reply))
    (heard_requests a r u) (λ x o num. absurd (heard_closed a h r u reply g b.0 x o num)) served

-- a deaf poster that still waits for r has been told
deaf_closed : (h : ℕ) (r : Request) (u : World) → IsConsistent u → Ended h r u → passes r ≡ true
    → ((u.handlers r.poster).failed ≡ true) ⊎ ((u.handlers r.poster).answer ≡ None → ⊥) → (x : Wait) → IsOpen x
    (u.handlers r.poster) → x.number ≡ r.number → IsTold (u.handlers r.poster)
deaf_closed h r u fine e passing deaf x o num = ⊎_elim
    (λ dead. empty_open u r.poster x fine dead o)
    (λ not. ⊎_elim
    (λ t. t)
    (λ over.
    let alive = lives_there u fine r.poster x o.0 in
    let c = the_client h r u e alive in
    let one : x ≡ c.wait = same_wait (u.handlers r.poster).stack (fine.ordered r.poster) x c.wait o.0 c.still.0
    (num ∙ sym c.number) in
    let to : x.target ≡ h = ap (λ (i : Wait). i.target) one ∙ c.target in
    ⊎_elim
    (λ i.
    let first = passed_top_is_here h r u fine e r.poster
    (subst (λ y. HasGrant y r.number (u.top r.poster)) to
    (subst (λ m. HasGrant x.target m (u.top r.poster)) num i)) in
    ⊎_elim
    (λ away. true_false (sym over ∙ away.unanswered))
    (λ b. ⊎_elim (λ asks. ended_asks h r u e r.poster r.number u.next asks) (λ f. true_false (sym f ∙ e.lives)) b)
    (fine.tops r.poster h r.number first (λ hp. e.other (sym hp)) alive))
    (λ lost. ⊎_elim (λ t. t) (λ s. stuck over x.number x o refl to num s.0) lost)
    (fine.own_top r.poster x o (ap (λ (i : Wait). i.passing) one ∙ c.passing ∙ passing)))
    (told_or (u.handlers r.poster).answer not))
    deaf
  where
    stuck : answered (u.handlers r.poster).answer ≡ true → (m : ℕ) (x : Wait) → IsOpen x (u.handlers r.poster)
        → x.number ≡ m → x.target ≡ h → x.number ≡ r.number → Stuck u r.poster m → IsTold (u.handlers r.poster)
    stuck over m x o is to num (Told t) = t
    stuck over m x o is to num (On y i so n has lt s) =
        let same = same_wait (u.handlers r.poster).stack (fine.ordered r.poster) y x so.0 o.0 (n ∙ sym is) in
        let old = e.older i (subst (λ z. HasWait i (u.handlers z).stack) (ap (λ (q : Wait). q.target) same ∙ to) has)
        in
        absurd (omega (arith, old, lt, is, num))

pub exit_unheard_served : (h : ℕ) (r : Request) (w : World) → Ends h r w → passes r ≡ true → IsDeaf h r.poster w
    → IsConsistent w → IsServed w → IsServed (exit_unheard h r.number w)
exit_unheard_served h r w ends passing deaf fine served =
    ended_served h r w (give_back r.number (pop h w)) h ends fine (unheard_shrinks h r w ends deaf fine) (λ k. refl)
    (λ x o num. deaf_closed h r (pop h w) (popping_keeps h w ends.active fine)
    (is_ended h r w fine ends) passing deaf x o num) served
