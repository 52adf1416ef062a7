-- Whoever waits for a request that may end in its handler's next turn waits for it with its topmost frame.
use Rattle.std.proofs.Common.{◌≡◌, ◌≢◌, ⊎_elim, inl, ℕ, ◌<◌, Some, None, true, false, refl, sym, ap, ◌∙◌, subst, arith}
use Rattle.sc_machine_laws.specs.states.World.{Wait, Request, SupplierFailed, World, passes, popped, requests_of}
use Rattle.sc_machine_laws.specs.states.Steps.{waits_for, IsTold}
use Rattle.sc_machine_laws.specs.states.Consistent.{Asks, HasWait, StackWaits, IsOpen, HasGrant, IsAway, Lends, Told, On, Stuck, IsOne, IsConsistent}
use Rattle.sc_machine_laws.proofs.states.Rights.{not_some}
use Rattle.sc_machine_laws.proofs.states.Waits.{true_false, waits_stack, stack_has, lower_older, lower_passes, same_wait}
use Rattle.sc_machine_laws.proofs.states.AwaitedEnds.{lifo, first_newest}
use Rattle.sc_machine_laws.proofs.states.HeardClients.{top_or_below}

-- The request stands at the handler, which waits for nothing newer, and for nothing without passing its rights.
pub record MayEnd (w : World) (h : ℕ) (r : Request) : Type 0 where
  pub stands : IsOne r (requests_of (w.handlers h))
  pub waited : r.waited ≡ true
  pub lives : (w.handlers h).failed ≡ false
  pub older : (m : ℕ) → HasWait m (w.handlers h).stack → m < r.number
  pub passes : (k lo hi : ℕ) → Asks (w.handlers h) k lo hi → ⊥

-- The poster's topmost frame waits for it.
pub record Awaits (w : World) (r : Request) : Type 0 where
  pub wait : Wait
  pub waits : waits_for (w.handlers r.poster).stack ≡ Some wait
  pub asked : wait.asked ≡ r.asked

module _ (w : World) (fine : IsConsistent w) (h : ℕ) (r : Request) (c : MayEnd w h r) (lives : (w.handlers r.poster).failed ≡ false)
    (none : (w.handlers r.poster).answer ≡ None) where
  not_told : {A : Type 0} → IsTold (w.handlers r.poster) → A
  not_told t = not_some SupplierFailed (sym none ∙ t)

  -- h passes no other that is stuck
  not_stuck : (v : Wait) → StackWaits v (w.handlers r.poster).stack → v.number ≡ r.number → v.target ≡ h → (m : ℕ) → v.number ≡ m
      → Stuck w r.poster m → ⊥
  not_stuck v s n to m is (Told t) = not_told t
  not_stuck v s n to m is (On x j o num has lt st) =
      let same = same_wait (w.handlers r.poster).stack (fine.ordered r.poster) x v o.0 s (num ∙ sym is) in
      let old = c.older j (subst (λ y. HasWait j (w.handlers y).stack) (ap (λ (i : Wait). i.target) same ∙ to) has) in
      omega (arith, old, lt, is, n)

  -- a wait below the topmost would be the newest to which the right went, and older than the topmost
  not_below : (v : Wait) → IsOpen v (w.handlers r.poster) → v.number ≡ r.number → v.target ≡ h
      → StackWaits v (popped (w.handlers r.poster).stack) → ⊥
  not_below v o n to low = ⊎_elim granted
      (λ l. ⊎_elim (λ t. not_told t) (λ s. not_stuck v o.0 n to v.number refl s.0) l)
      (fine.own_top r.poster v o (lower_passes (w.handlers r.poster).stack (fine.ordered r.poster) v low))
    where
      other : h ≢ r.poster
      other e = let lt = c.older v.number (subst (λ y. HasWait v.number (w.handlers y).stack) (sym e) (stack_has v (w.handlers r.poster).stack o.0)) in
          omega (arith, lt, n)

      granted : HasGrant v.target v.number (w.top r.poster) → ⊥
      granted i =
          let has : HasGrant h r.number (w.top r.poster) = subst (λ y. HasGrant y r.number (w.top r.poster)) to
          (subst (λ m. HasGrant v.target m (w.top r.poster)) n i) in
          let first = lifo w (Lends w r.poster) h r.number c.older (λ lo m l. c.passes r.poster lo m l.0) c.lives (w.top r.poster)
          (fine.top_trails r.poster) has in
          ⊎_elim
          (λ (away : IsAway (w.handlers r.poster)).
          let lt = lower_older (w.handlers r.poster).stack away.for v (fine.ordered r.poster) away.waits low in
          ⊎_elim
          (λ j. let le = first_newest w (Lends w r.poster) (w.top r.poster) (fine.top_trails r.poster) h r.number away.for.target
          away.for.number first j in omega (arith, lt, le, n))
          (λ l. ⊎_elim (λ t. not_told t) (λ s. let more = s.1 h r.number has in omega (arith, lt, more, n)) l)
          (fine.own_top r.poster away.for (waits_stack (w.handlers r.poster).stack away.for away.waits, inl away.unanswered) away.passing))
          (λ x. ⊎_elim (λ a. c.passes r.poster r.number w.next a) (λ f. true_false (sym f ∙ c.lives)) x)
          (fine.tops r.poster h r.number first other lives)

  pub awaits_on_top : Awaits w r
  awaits_on_top = ⊎_elim
      (λ a. true_false (sym a.0 ∙ lives))
      (λ (a : (v : Wait) × IsOpen v (w.handlers r.poster) × (v.number ≡ r.number) × (v.target ≡ h) × (v.passing ≡ passes r) ×
      (v.asked ≡ r.asked)). record {
        wait = a.0;
        waits = ⊎_elim (λ at. at) (λ low. absurd (not_below a.0 a.1 a.2 a.3 low)) (top_or_below a.0 (w.handlers r.poster).stack a.1.0);
        asked = a.5;
      })
      (fine.clients h r c.stands c.waited)
