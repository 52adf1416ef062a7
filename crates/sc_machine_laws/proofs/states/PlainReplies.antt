-- The end of a request that somebody waits for, and that passed nothing, keeps all.
use Rattle.std.proofs.Common.{◌≡◌, ⊎_elim, inl, inr, ℕ, Option, Some, None, true, false, refl, sym, ap, ◌∙◌, subst, arith}
use Rattle.std.proofs.lemmas.Bool.{cases_eq}
use Rattle.sc_machine_laws.specs.states.World.{Wait, Request, Answer, World, pop, passes}
use Rattle.sc_machine_laws.specs.states.Steps.{answered, waits_for, Ends}
use Rattle.sc_machine_laws.specs.states.Consistent.{IsAway, Asks, IsFirst, HasWait, HasGrant, Lends, Nobody, IsBased, IsConsistent}
use Rattle.sc_machine_laws.proofs.states.Forms.{exit_plain}
use Rattle.sc_machine_laws.proofs.states.Waits.{true_false, some_wait, waits_stack, lower_passes, same_wait}
use Rattle.sc_machine_laws.proofs.states.Simple.{trail_move}
use Rattle.sc_machine_laws.proofs.states.PoppedFrames.{popping_keeps}
use Rattle.sc_machine_laws.proofs.states.AwaitedEnds.{Ended, is_ended, ended_away}
use Rattle.sc_machine_laws.proofs.states.HeardClients.{Heard, Rest, heard_by, hearing_keeps, its_wait, off, same_failed, same_stack, spent_before, the_client, top_or_below}

-- without passing
pub heard_plain : (h : ℕ) (r : Request) (u : World) → IsConsistent u → Ended h r u → passes r ≡ false
    → (u.handlers r.poster).failed ≡ false → (u.handlers r.poster).answer ≡ None → Heard h r u
heard_plain h r u fine e plain alive none =
    let c = the_client h r u e alive in
    let at : waits_for (u.handlers r.poster).stack ≡ Some c.wait = ⊎_elim (λ at. at)
    (λ low. true_false (sym (lower_passes (u.handlers r.poster).stack (fine.ordered r.poster) c.wait low)
    ∙ c.passing ∙ plain)) (top_or_below c.wait (u.handlers r.poster).stack c.still.0) in
    record {
      lives = alive;
      none = none;
      wait = c.wait;
      waits = at;
      number = c.number;
      target = c.target;
      no_callback = by (u.handlers r.poster).callback (λ i is.
          let p = (fine.callbacks r.poster i is).1 in
          true_false (sym p.2 ∙ ap (λ (x : Wait). x.passing) (some_wait p.0 c.wait (sym p.1 ∙ at)) ∙ c.passing
          ∙ plain));
    }
  where
    by : (o : Option Request) → ((i : Request) → o ≡ Some i → ⊥) → o ≡ None
    by None not = refl
    by (Some i) not = absurd (not i refl)

pub plain_wait : (h : ℕ) (r : Request) (u : World) → IsConsistent u → Ended h r u → passes r ≡ false
    → (b : Heard h r u) → b.wait.passing ≡ false
plain_wait h r u fine e plain b =
    let c = the_client h r u e b.lives in
    ap (λ (x : Wait). x.passing) (same_wait (u.handlers r.poster).stack (fine.ordered r.poster) b.wait c.wait
    (waits_stack (u.handlers r.poster).stack b.wait b.waits) c.still.0 (b.number ∙ sym c.number)) ∙ c.passing
    ∙ plain

pub plain_rest : (a : Answer) (h : ℕ) (r : Request) (u : World) → IsConsistent u → Ended h r u → (b : Heard h r u)
    → b.wait.passing ≡ false → Rest u (heard_by a r u u.queue u.top)
plain_rest a h r u fine e b np =
    let v = heard_by a r u u.queue u.top in
    record {
      tops = λ k x i first ne alive. ⊎_elim
          (λ away. inl (⊎_elim
          (λ kp. true_false (sym away.passing ∙ ap (λ (y : Wait). y.passing)
          (some_wait away.for b.wait (sym away.waits ∙ ap (λ y. waits_for (u.handlers y).stack) kp ∙ b.waits))
          ∙ np))
          (λ nk. subst IsAway (off a h r u b k nk) away)
          (cases_eq k r.poster)))
          (λ o. ⊎_elim
          (λ asks. ⊎_elim
          (λ xp.
          let hk : h ≡ k = sym b.target ∙ ap (λ (y : Wait). y.target)
          (some_wait b.wait asks.for (sym b.waits ∙ ap (λ y. waits_for (u.handlers y).stack) (sym xp)
          ∙ asks.waits)) ∙ asks.target in
          inl (subst (λ y. IsAway (v.handlers y)) hk
          (subst IsAway (off a h r u b h (λ hp. e.other (sym hp)))
          (ended_away h r u fine e x i (subst (λ y. IsFirst x i (u.top y)) (sym hk) first)))))
          (λ nx. inr (inl (subst (λ f. Asks f k i u.next) (off a h r u b x nx) asks)))
          (cases_eq x r.poster))
          (λ f. inr (inr (same_failed a h r u b x ∙ f)))
          o)
          (fine.tops k x i first ne (sym (same_failed a h r u b k) ∙ alive));
      queue_trails = λ k. trail_move u v Nobody Nobody (u.queue k)
          (λ d x m i has. subst (HasWait m) (sym (same_stack a h r u b d)) has) (λ x lo y m i l. l)
          (λ x f. same_failed a h r u b x ∙ f) (fine.queue_trails k);
      top_trails = λ k. trail_move u v (Lends u k) (Lends v k) (u.top k)
          (λ d x m i has. subst (HasWait m) (sym (same_stack a h r u b d)) has)
          (λ x lo y m i l. (
            ⊎_elim
                (λ xp.
                let same = some_wait b.wait l.0.for
                (sym b.waits ∙ ap (λ y. waits_for (u.handlers y).stack) (sym xp) ∙ l.0.waits) in
                let hk : k ≡ h = sym l.0.target ∙ ap (λ (y : Wait). y.target) (sym same) ∙ b.target in
                ⊎_elim
                (λ has.
                let lt = e.older m (subst (λ y. HasWait m (u.handlers y).stack) hk has) in
                let n : l.0.for.number ≡ r.number = ap (λ (y : Wait). y.number) (sym same) ∙ b.number in
                let bf = l.0.before in absurd (omega (arith, lt, n, bf)))
                (λ f. true_false (sym f ∙ ap (λ y. (u.handlers y).failed) hk ∙ e.lives))
                l.1)
                (λ nx. subst (λ f. Asks f k lo m) (off a h r u b x nx) l.0)
                (cases_eq x r.poster),
            ⊎_elim (λ has. inl (subst (HasWait m) (sym (same_stack a h r u b k)) has))
                (λ f. inr (same_failed a h r u b k ∙ f)) l.1,
          ))
          (λ x f. same_failed a h r u b x ∙ f) (fine.top_trails k);
      based = λ k alive. subst (λ fs. IsBased fs (u.top k)) (sym (same_stack a h r u b k))
          (fine.based k (sym (same_failed a h r u b k) ∙ alive));
      queue_less = λ k x m i. i;
      top_less = λ k x m i. i;
      own = λ k x o p i. inl i;
      had_queue = λ q x s i. i;
      had_top = λ q x s i. i;
      spent = λ q x at over k y. ⊎_elim
          (λ qp. subst (λ (i : Wait). (HasGrant y i.number (u.queue k) → ⊥) × (HasGrant y i.number (u.top k) → ⊥))
          (its_wait a h r u b x (ap (λ j. waits_for (v.handlers j).stack) (sym qp) ∙ at))
          (fine.plain r.poster b.wait (waits_stack (u.handlers r.poster).stack b.wait b.waits) np k y))
          (λ nq. spent_before a h r u b q x nq fine at over k y)
          (cases_eq q r.poster);
    }

pub exit_plain_keeps : (a : Answer) (h : ℕ) (r : Request) (w : World) → answered (Some a) ≡ true → Ends h r w
    → passes r ≡ false → ((pop h w).handlers r.poster).failed ≡ false → ((pop h w).handlers r.poster).answer ≡ None
    → IsConsistent w → IsConsistent (exit_plain a h r.poster w)
exit_plain_keeps a h r w reply ends plain alive none fine =
    let u = pop h w in
    let g = popping_keeps h w ends.active fine in
    let e = is_ended h r w fine ends in
    let b = heard_plain h r u g e plain alive none in
    hearing_keeps a h r u u.queue u.top reply g e b (plain_rest a h r u g e b (plain_wait h r u g e plain b))
