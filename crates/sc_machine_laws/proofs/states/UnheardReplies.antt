-- The end of a request whose poster has failed, or has an answer, keeps all.
use Rattle.std.proofs.Common.{◌≡◌, ◌≢◌, ◌⊎◌, ⊎_elim, inl, inr, ℕ, ◌∷◌, Option, Some, None, true, false, refl, sym, ap, ◌∙◌, subst, arith}
use Rattle.std.proofs.lemmas.Bool.{cases_eq}
use Rattle.sc_machine_laws.specs.states.World.{Wait, Request, Answer, SupplierFailed, World, Reply, Refused, pop, came_by, back, give_back, passes}
use Rattle.sc_machine_laws.specs.states.Steps.{answered, Ends}
use Rattle.sc_machine_laws.specs.states.Consistent.{IsAway, Asks, IsFirst, HasWait, IsOpen, HasGrant, Lends, Nobody, IsTrail, IsConsistent}
use Rattle.sc_machine_laws.proofs.states.Forms.{exit_unheard}
use Rattle.sc_machine_laws.proofs.states.Waits.{true_false, stack_has}
use Rattle.sc_machine_laws.proofs.states.Shrinks.{Shrinks, shrinking_keeps}
use Rattle.sc_machine_laws.proofs.states.Simple.{trail_move, asks_later}
use Rattle.sc_machine_laws.proofs.states.FailureSteps.{lives_there}
use Rattle.sc_machine_laws.proofs.states.PoppedFrames.{popping_keeps}
use Rattle.sc_machine_laws.proofs.states.AwaitedEnds.{Ended, is_ended, ended_asks, ended_away, passed_top_is_here, back_sub, back_has, back_had, back_trail, back_based, after_back}

-- all that came with the request came to h
pub to_h : (h : ℕ) (r : Request) (u : World) → IsConsistent u → Ended h r u → (j x : ℕ)
    → (HasGrant x r.number (u.queue j) → x ≡ h) × (HasGrant x r.number (u.top j) → x ≡ h)
to_h h r u fine e j x = ⊎_elim
    (λ a. a.2 j x)
    (λ (a : (v : Wait) × IsOpen v (u.handlers r.poster) × (v.number ≡ r.number) × (v.target ≡ h) ×
    (v.passing ≡ passes r) × (v.asked ≡ r.asked)). (
      (λ i. fine.queue_grants j r.poster x a.0 a.1.0 (subst (λ m. HasGrant x m (u.queue j)) (sym a.2) i) ∙ a.3),
      (λ i. fine.top_grants j r.poster x a.0 a.1.0 (subst (λ m. HasGrant x m (u.top j)) (sym a.2) i) ∙ a.3),
    ))
    e.client

-- who has top (k) after the give-back
pub back_first : (h : ℕ) (r : Request) (u : World) → IsConsistent u → Ended h r u → (k x i : ℕ) → IsFirst x i
    (back r.number (u.top k)) → (u.handlers k).failed ≡ false
    → ((came_by r.number (u.top k) ≡ false) × IsFirst x i (u.top k)) ⊎
    ((HasWait r.number (u.handlers x).stack × (HasWait r.number (u.handlers k).stack ⊎ IsAway (u.handlers k))) ⊎
    (Asks (u.handlers x) k i u.next ⊎ ((u.handlers x).failed ≡ true)))
back_first h r u fine e k x i first alive = ⊎_elim
    (λ a. inl a)
    (λ b.
    let whole : IsTrail u (Lends u k) (b.first ∷ b.second ∷ b.rest) = subst (IsTrail u (Lends u k)) b.is
    (fine.top_trails k) in
    let at : HasGrant b.first.holder r.number (u.top k) = subst (HasGrant b.first.holder r.number) (sym b.is)
    (inl (refl, b.number)) in
    let from_h : b.first.holder ≡ h = (to_h h r u fine e k b.first.holder).1 at in
    let held : IsFirst h r.number (u.top k) = subst (IsFirst h r.number) (sym b.is) (from_h, b.number) in
    inr (⊎_elim
    (λ waits. inl (
      subst (λ y. HasWait r.number (u.handlers y).stack) b.holder
          (subst (λ m. HasWait m (u.handlers b.second.holder).stack) b.number waits),
      inr (⊎_elim
          (λ kh. subst (λ y. IsAway (u.handlers y)) (sym kh)
          (ended_away h r u fine e h r.number (subst (λ y. IsFirst h r.number (u.top y)) kh held)))
          (λ nk. ⊎_elim
          (λ away. away)
          (λ o. ⊎_elim (λ asks. ended_asks h r u e k r.number u.next asks) (λ f. true_false (sym f ∙ e.lives)) o)
          (fine.tops k h r.number held (λ hk. nk (sym hk)) alive))
          (cases_eq k h)),
    ))
    (λ o. ⊎_elim
    (λ l. inr (inl (⊎_elim
    (λ has. asks_later (u.handlers x) k i r.number u.next
    (let lt = fine.waits_old k b.first.number has in let n = b.number in omega (arith, lt, n))
    (subst (λ m. Asks (u.handlers x) k i m) b.number
    (subst (λ j. Asks (u.handlers x) k j b.first.number) b.second_number
    (subst (λ y. Asks (u.handlers y) k b.second.number b.first.number) b.holder l.0))))
    (λ f. true_false (sym f ∙ alive))
    l.1)))
    (λ f. inr (inr (ap (λ y. (u.handlers y).failed) (sym b.holder) ∙ f)))
    o)
    whole.0))
    (after_back r.number x i (u.top k) first)

-- not to be heard: the poster has failed, or has an answer
pub unheard_shrinks : (h : ℕ) (r : Request) (w : World) → Ends h r w → (((pop h w).handlers r.poster).failed ≡ true) ⊎
    (((pop h w).handlers r.poster).answer ≡ None → ⊥) → IsConsistent w → Shrinks (pop h w)
    (give_back r.number (pop h w)) h
unheard_shrinks h r w ends deaf before =
    let u = pop h w in
    let fine = popping_keeps h w ends.active before in
    let e = is_ended h r w before ends in
    (record {
      lives = e.lives;
      lives_on = e.lives;
      other = λ k ne. refl;
      later = omega arith;
      fewer = λ x s. s;
      stuck_kept = λ j has st. has;
      told = λ t. t;
      told_back = λ t. (t, λ x s. s);
      stays = λ x j o has lt. o;
      was = λ x o. o;
      clear = fine.clear h;
      ordered = fine.ordered h;
      callbacks = fine.callbacks h;
      tops = λ k x i first ne alive. ⊎_elim
          (λ a. fine.tops k x i a.1 ne alive)
          (λ o. ⊎_elim
          (λ a. inl (⊎_elim (λ mine. absurd (ne (fine.one_poster x k r.number a.0 mine))) (λ away. away) a.1))
          (λ b. inr b)
          o)
          (back_first h r u fine e k x i first alive);
      queue_trails = λ k. back_trail (give_back r.number (pop h w)) Nobody r.number (u.queue k)
          (trail_move u (give_back r.number (pop h w)) Nobody Nobody (u.queue k) (λ d x m i has. has)
          (λ x lo y m i l. l) (λ x f. f) (fine.queue_trails k));
      top_trails = λ k. back_trail (give_back r.number (pop h w)) (Lends u k) r.number (u.top k)
          (trail_move u (give_back r.number (pop h w)) (Lends u k) (Lends u k) (u.top k) (λ d x m i has. has)
          (λ x lo y m i l. l) (λ x f. f) (fine.top_trails k));
      based = λ k alive. back_based r.number (u.handlers k).stack (u.top k) (fine.based k alive);
      queue_less = λ k x m i. back_sub r.number x m (u.queue k) i;
      top_less = λ k x m i. back_sub r.number x m (u.top k) i;
      own = λ k x o p i. ⊎_elim
          (λ n.
          -- only the poster, which has been told
          let first = passed_top_is_here h r u fine e k
          (let xh : x.target ≡ h = (to_h h r u fine e k x.target).1
          (subst (λ m. HasGrant x.target m (u.top k)) n i) in subst (λ y. HasGrant y r.number (u.top k)) xh
          (subst (λ m. HasGrant x.target m (u.top k)) n i)) in
          let mine : HasWait r.number (u.handlers k).stack = subst (λ m. HasWait m (u.handlers k).stack) n
          (stack_has x (u.handlers k).stack o.0) in
          let kh : h ≢ k = λ hk. absurd (let lt = e.older r.number
          (subst (λ y. HasWait r.number (u.handlers y).stack) (sym hk) mine) in omega (arith, lt)) in
          let kp : k ≡ r.poster = ⊎_elim
          (λ a. absurd (a.1 k mine))
          (λ (a : (v : Wait) × IsOpen v (u.handlers r.poster) × (v.number ≡ r.number) × (v.target ≡ h) ×
          (v.passing ≡ passes r) × (v.asked ≡ r.asked)). fine.one_poster k r.poster r.number mine
          (subst (λ m. HasWait m (u.handlers r.poster).stack) a.2
          (stack_has a.0 (u.handlers r.poster).stack a.1.0)))
          e.client in
          let alive : (u.handlers k).failed ≡ false = ⊎_elim
          (λ a. absurd (a.1 k mine))
          (λ a. lives_there u fine k x o.0)
          e.client in
          ⊎_elim
          (λ away. inr (⊎_elim
          (λ f. true_false (sym f ∙ ap (λ y. (u.handlers y).failed) (sym kp) ∙ alive))
          (λ not. told_here (u.handlers k).answer (λ none. not (ap (λ y. (u.handlers y).answer) (sym kp) ∙ none))
          away.unanswered)
          deaf))
          (λ o. ⊎_elim (λ asks. ended_asks h r u e k r.number u.next asks) (λ f. true_false (sym f ∙ e.lives)) o)
          (fine.tops k h r.number first kh alive))
          (λ ne. inl (back_has r.number x.target x.number (u.top k) ne i))
          (cases_eq x.number r.number);
      had_queue = λ q x s i. back_had h r.number q x.number (u.queue x.target)
          (λ y j. (to_h h r u fine e x.target y).0 j)
          (λ qh. e.older x.number (subst (λ y. HasWait x.number (u.handlers y).stack) qh
          (stack_has x (u.handlers q).stack s))) i;
      had_top = λ q x s i. back_had h r.number q x.number (u.top x.target) (λ y j. (to_h h r u fine e x.target y).1 j)
          (λ qh. e.older x.number (subst (λ y. HasWait x.number (u.handlers y).stack) qh
          (stack_has x (u.handlers q).stack s))) i;
      spent = λ q x at over k y. let s =
          fine.spent q x at over k y in (
            (λ i. s.0 (back_sub r.number y x.number (u.queue k) i)),
            (λ i. s.1 (back_sub r.number y x.number (u.top k) i)),
          );
      requests = λ i one waited. inl one;
      client = λ k i x one o num to. o;
      numbered = fine.numbered h;
    })
  where
    told_here : (o : Option Answer) → (o ≡ None → ⊥) → answered o ≡ false → o ≡ Some SupplierFailed
    told_here None not is = absurd (not refl)
    told_here (Some Reply) not is = true_false is
    told_here (Some Refused) not is = true_false is
    told_here (Some SupplierFailed) not is = refl

pub exit_unheard_keeps : (h : ℕ) (r : Request) (w : World) → Ends h r w
    → (((pop h w).handlers r.poster).failed ≡ true) ⊎ (((pop h w).handlers r.poster).answer ≡ None → ⊥)
    → IsConsistent w → IsConsistent (exit_unheard h r.number w)
exit_unheard_keeps h r w ends deaf before = shrinking_keeps (pop h w) (give_back r.number (pop h w)) h
    (unheard_shrinks h r w ends deaf before) (popping_keeps h w ends.active before)
