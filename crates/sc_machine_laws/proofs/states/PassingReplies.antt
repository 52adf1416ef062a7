-- The end of a request that somebody waits for, and that passed rights, keeps all.
use Rattle.std.proofs.Common.{◌≡◌, ◌≢◌, ⊎_elim, inl, inr, ℕ, List, [], ◌∷◌, Some, None, true, false, refl, sym, ap, ◌∙◌, subst, arith}
use Rattle.std.proofs.lemmas.Bool.{cases_eq}
use Rattle.sc_machine_laws.specs.states.World.{Grant, Wait, Request, Answer, SupplierFailed, Handler, World, has, popped, pop, came_by, back, passes}
use Rattle.sc_machine_laws.specs.states.Steps.{answered, waits_for, Ends}
use Rattle.sc_machine_laws.specs.states.Consistent.{IsAway, Asks, IsFirst, HasWait, StackWaits, HasGrant, Lends, Nobody, IsBased, Stuck, Told, On, IsConsistent}
use Rattle.sc_machine_laws.proofs.states.Forms.{given_answer, exit_passing}
use Rattle.sc_machine_laws.proofs.states.Rights.{put-same}
use Rattle.sc_machine_laws.proofs.states.Waits.{true_false, some_wait, waits_has, waits_stack, stack_has, lower_older, same_wait}
use Rattle.sc_machine_laws.proofs.states.Simple.{trail_move}
use Rattle.sc_machine_laws.proofs.states.PoppedFrames.{popping_keeps}
use Rattle.sc_machine_laws.proofs.states.AwaitedEnds.{Ended, is_ended, ended_asks, passed_is_here, passed_top_is_here, first_newest, back_sub, back_has, back_had, first_came, back_gone, back_trail, back_based}
use Rattle.sc_machine_laws.proofs.states.HeardClients.{Client, Heard, Rest, heard_by, hearing_keeps, its_wait, off, same_failed, same_stack, some_answer, spent_before, the_client, top_or_below}
use Rattle.sc_machine_laws.proofs.states.UnheardReplies.{back_first, to_h}

-- with passing
pub heard_passing : (h : ℕ) (r : Request) (u : World) → IsConsistent u → Ended h r u → passes r ≡ true
    → (u.handlers r.poster).failed ≡ false → (u.handlers r.poster).answer ≡ None
    → Heard h r u × IsFirst h r.number (u.top r.poster)
heard_passing h r u fine e passing alive none =
    let p = r.poster in
    let c = the_client h r u e alive in
    let fs = (u.handlers r.poster).stack in
    let first : IsFirst h r.number (u.top p) = ⊎_elim
    (λ i. passed_top_is_here h r u fine e p
    (subst (λ y. HasGrant y r.number (u.top p)) c.target
    (subst (λ m. HasGrant c.wait.target m (u.top p)) c.number i)))
    (λ o. ⊎_elim
    (λ t. some_answer SupplierFailed (sym none ∙ t))
    (λ s. absurd (not_stuck c.wait.number c (refl) s.0))
    o)
    (fine.own_top p c.wait c.still (c.passing ∙ passing)) in
    let away : IsAway (u.handlers p) = ⊎_elim
    (λ away. away)
    (λ o. ⊎_elim (λ asks. ended_asks h r u e p r.number u.next asks) (λ f. true_false (sym f ∙ e.lives)) o)
    (fine.tops p h r.number first (λ hp. e.other (sym hp)) alive) in
    let top : c.wait ≡ away.for = ⊎_elim
    (λ at. some_wait c.wait away.for (sym at ∙ away.waits))
    (λ low.
    let lt = lower_older fs away.for c.wait (fine.ordered p) away.waits low in
    let n = c.number in
    absurd (⊎_elim
    (λ i. let le = first_newest u (Lends u p) (u.top p) (fine.top_trails p) h r.number away.for.target away.for.number
    first i in omega (arith, lt, n, le))
    (λ o. ⊎_elim
    (λ t. some_answer SupplierFailed (sym none ∙ t))
    (λ s. let less = s.1 h r.number (first_grant h r.number (u.top p) first) in omega (arith, lt, n, less))
    o)
    (fine.own_top p away.for (waits_stack fs away.for away.waits, inl away.unanswered) away.passing)))
    (top_or_below c.wait fs c.still.0) in (
      record {
        lives = alive;
        none = none;
        no_callback = away.no_callback;
        wait = away.for;
        waits =
            away.waits;
        number = ap (λ (x : Wait). x.number) (sym top) ∙ c.number;
        target = ap (λ (x : Wait). x.target)
            (sym top) ∙ c.target;
      },
      first,
    )
  where
    first_grant : (x n : ℕ) (t : List Grant) → IsFirst x n t → HasGrant x n t
    first_grant x n [] i = i
    first_grant x n (e ∷ t) i = inl i

    not_stuck : (m : ℕ) (c : Client h r u) → c.wait.number ≡ m → Stuck u r.poster m → ⊥
    not_stuck m c is (Told t) = some_answer SupplierFailed (sym none ∙ t)
    not_stuck m c is (On x j o num has lt s) =
        let same = same_wait (u.handlers r.poster).stack (fine.ordered r.poster) x c.wait o.0 c.still.0
        (num ∙ sym is) in
        let old = e.older j (subst (λ y. HasWait j (u.handlers y).stack)
        (ap (λ (i : Wait). i.target) same ∙ c.target) has) in
        let n = c.number in
        absurd (omega (arith, old, lt, is, n))

pub passing_wait : (h : ℕ) (r : Request) (u : World) → IsConsistent u → Ended h r u → passes r ≡ true
    → (b : Heard h r u) → b.wait.passing ≡ true
passing_wait h r u fine e passing b =
    let c = the_client h r u e b.lives in
    ap (λ (x : Wait). x.passing) (same_wait (u.handlers r.poster).stack (fine.ordered r.poster) b.wait c.wait
    (waits_stack (u.handlers r.poster).stack b.wait b.waits) c.still.0 (b.number ∙ sym c.number)) ∙ c.passing
    ∙ passing

pub passing_rest : (a : Answer) (h : ℕ) (r : Request) (u : World) → IsConsistent u → Ended h r u → (b : Heard h r u)
    → b.wait.passing ≡ true → IsFirst h r.number (u.top r.poster) → answered (Some a) ≡ true
    → Rest u (heard_by a r u (λ k. back r.number (u.queue k)) (λ k. back r.number (u.top k)))
passing_rest a h r u fine e b passing top reply =
    let v = heard_by a r u (λ k. back r.number (u.queue k)) (λ k. back r.number (u.top k)) in
    let not_poster : (x k lo hi : ℕ) → Asks (u.handlers x) k lo hi → x ≢ r.poster = λ x k lo hi asks xp.
    true_false (sym passing ∙ ap (λ (y : Wait). y.passing)
    (some_wait b.wait asks.for (sym b.waits ∙ ap (λ y. waits_for (u.handlers y).stack) (sym xp) ∙ asks.waits))
    ∙ asks.keeps) in
    let asks_on : (x k lo hi : ℕ) → Asks (u.handlers x) k lo hi → Asks (v.handlers x) k lo hi =
    λ x k lo hi asks. subst (λ f. Asks f k lo hi) (off a h r u b x (not_poster x k lo hi asks)) asks in
    let at_p : HasWait r.number (u.handlers r.poster).stack = subst
    (λ m. HasWait m (u.handlers r.poster).stack) b.number
    (waits_has (u.handlers r.poster).stack b.wait b.waits) in
    record {
      tops = λ k x i first ne alive.
          let was : (u.handlers k).failed ≡ false = sym (same_failed a h r u b k) ∙ alive in
          ⊎_elim
          (λ old.
          let np : k ≢ r.poster = λ kp. true_false
          (sym (first_came h r.number (u.top r.poster) top) ∙ ap (λ y. came_by r.number (u.top y)) (sym kp)
          ∙ old.0) in
          ⊎_elim
          (λ away. inl (subst IsAway (off a h r u b k np) away))
          (λ o. inr (⊎_elim (λ asks. inl (asks_on x k i u.next asks)) (λ f. inr (same_failed a h r u b x ∙ f)) o))
          (fine.tops k x i old.1 ne was))
          (λ o. ⊎_elim
          (λ w.
          let xp : x ≡ r.poster = fine.one_poster x r.poster r.number w.0 at_p in
          inl (⊎_elim
          (λ mine. absurd (ne (fine.one_poster x k r.number w.0 mine)))
          (λ away. subst IsAway (off a h r u b k (λ kp. ne (xp ∙ sym kp))) away)
          w.1))
          (λ c. inr (⊎_elim (λ asks. inl (asks_on x k i u.next asks)) (λ f. inr (same_failed a h r u b x ∙ f)) c))
          o)
          (back_first h r u fine e k x i first was);
      queue_trails = λ k. back_trail v Nobody r.number (u.queue k)
          (trail_move u v Nobody Nobody (u.queue k)
          (λ d x m i has. subst (HasWait m) (sym (same_stack a h r u b d)) has) (λ x lo y m i l. l)
          (λ x f. same_failed a h r u b x ∙ f) (fine.queue_trails k));
      top_trails = λ k. back_trail v (Lends v k) r.number (u.top k)
          (trail_move u v (Lends u k) (Lends v k) (u.top k)
          (λ d x m i has. subst (HasWait m) (sym (same_stack a h r u b d)) has)
          (λ x lo y m i l. (
            asks_on x k lo m l.0,
            ⊎_elim
                (λ has. inl (subst (HasWait m) (sym (same_stack a h r u b k)) has))
                (λ f. inr (same_failed a h r u b k ∙ f)) l.1,
          ))
          (λ x f. same_failed a h r u b x ∙ f) (fine.top_trails k));
      based = λ k alive. back_based r.number (v.handlers k).stack (u.top k)
          (subst (λ fs. IsBased fs (u.top k)) (sym (same_stack a h r u b k))
          (fine.based k (sym (same_failed a h r u b k) ∙ alive)));
      queue_less = λ k x m i. back_sub r.number x m (u.queue k) i;
      top_less = λ k x m i. back_sub r.number x m (u.top k) i;
      own = λ k x o p i. inl (back_has r.number x.target x.number (u.top k) (λ n.
          let s = subst (StackWaits x) (same_stack a h r u b k) o.0 in
          let kp : k ≡ r.poster = fine.one_poster k r.poster r.number
          (subst (λ m. HasWait m (u.handlers k).stack) n (stack_has x (u.handlers k).stack s)) at_p in
          let fs = (u.handlers r.poster).stack in
          let there = subst (λ y. StackWaits x (u.handlers y).stack) kp s in
          let same = same_wait fs (fine.ordered r.poster) x b.wait there (waits_stack fs b.wait b.waits)
          (n ∙ sym b.number) in
          absurd (⊎_elim
          (λ un. true_false (sym reply ∙ ap (λ (f : Handler). answered f.answer)
          (sym (put-same r.poster (given_answer a (u.handlers r.poster)) u.handlers)) ∙ ap
          (λ y. answered (v.handlers y).answer) (sym kp) ∙ un))
          (λ low. let lt = lower_older fs b.wait x (fine.ordered r.poster) b.waits
          (subst (λ y. StackWaits x (popped (u.handlers y).stack)) kp
          (subst (λ t. StackWaits x (popped t)) (same_stack a h r u b k) low)) in let num = b.number in omega
          (arith, lt, n, num))
          o.1)) i);
      had_queue = λ q x s i. back_had h r.number q x.number (u.queue x.target)
          (λ y j. (to_h h r u fine e x.target y).0 j)
          (λ qh. e.older x.number (subst (λ y. HasWait x.number (u.handlers y).stack) qh
          (stack_has x (u.handlers q).stack (subst (StackWaits x) (same_stack a h r u b q) s)))) i;
      had_top = λ q x s i. back_had h r.number q x.number (u.top x.target) (λ y j. (to_h h r u fine e x.target y).1 j)
          (λ qh. e.older x.number (subst (λ y. HasWait x.number (u.handlers y).stack) qh
          (stack_has x (u.handlers q).stack (subst (StackWaits x) (same_stack a h r u b q) s)))) i;
      spent = λ q x at over k y. ⊎_elim
          (λ qp.
          let same = its_wait a h r u b x (ap (λ j. waits_for (v.handlers j).stack) (sym qp) ∙ at) in
          let n : x.number ≡ r.number = ap (λ (j : Wait). j.number) (sym same) ∙ b.number in (
            (λ i.
                let j = subst (λ m. HasGrant y m (back r.number (u.queue k))) n i in
                let hy = (to_h h r u fine e k y).0 (back_sub r.number y r.number (u.queue k) j) in
                back_gone u Nobody h r.number y (u.queue k) (fine.queue_trails k)
                (passed_is_here h r u fine e k
                (subst (λ z. HasGrant z r.number (u.queue k)) hy (back_sub r.number y r.number (u.queue k) j)))
                j),
            (λ i.
                let j = subst (λ m. HasGrant y m (back r.number (u.top k))) n i in
                let hy = (to_h h r u fine e k y).1 (back_sub r.number y r.number (u.top k) j) in
                back_gone u (Lends u k) h r.number y (u.top k) (fine.top_trails k)
                (passed_top_is_here h r u fine e k
                (subst (λ z. HasGrant z r.number (u.top k)) hy (back_sub r.number y r.number (u.top k) j))) j),
          ))
          (λ nq. let s = spent_before a h r u b q x nq fine at over k y in (
            (λ i. s.0 (back_sub r.number y x.number (u.queue k) i)),
            (λ i. s.1 (back_sub r.number y x.number (u.top k) i)),
          ))
          (cases_eq q r.poster);
    }

pub exit_passing_keeps : (a : Answer) (h : ℕ) (r : Request) (w : World) → answered (Some a) ≡ true → Ends h r w
    → passes r ≡ true → ((pop h w).handlers r.poster).failed ≡ false → ((pop h w).handlers r.poster).answer ≡ None
    → IsConsistent w → IsConsistent (exit_passing a h r.number r.poster w)
exit_passing_keeps a h r w reply ends passing alive none fine =
    let u = pop h w in
    let g = popping_keeps h w ends.active fine in
    let e = is_ended h r w fine ends in
    let b = heard_passing h r u g e passing alive none in
    hearing_keeps a h r u (λ k. back r.number (u.queue k)) (λ k. back r.number (u.top k)) reply g e b.0
    (passing_rest a h r u g e b.0 (passing_wait h r u g e passing b.0) b.1 reply)
