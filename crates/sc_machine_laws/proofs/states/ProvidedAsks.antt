-- An ask keeps what frames need.
use Rattle.std.proofs.Common.{◌≡◌, ◌≢◌, ⊎_elim, inl, inr, ℕ, suc, ◌<◌, ◌≤◌, List, [], ◌∷◌, Option, None, Bool, true, false, refl, sym, ap, ◌∙◌, subst, arith}
use Rattle.std.specs.Prelude.{if◌then◌else◌}
use Rattle.sc_machine_laws.specs.states.World.{Asked, Grant, Reservation, Wait, Frame, Handler, World, has, passed_on, waiting, request, ask, ask_passing}
use Rattle.sc_machine_laws.specs.states.Steps.{waits_for, MayAsk}
use Rattle.sc_machine_laws.specs.states.Consistent.{IsFirst, HasGrant, HadBefore, IsStuckFrom, IsConsistent}
use Rattle.sc_machine_laws.specs.states.Provided.{lowest, Each, HadAlone, IsAssured, KeepsReserved, IsBetween, under, AreHeld, all_reserved, Falling, IsProvided}
use Rattle.sc_machine_laws.proofs.states.Rights.{not_some, differs}
use Rattle.sc_machine_laws.proofs.states.Waits.{true_false}
use Rattle.sc_machine_laws.proofs.states.Shrinks.{at_each}
use Rattle.sc_machine_laws.proofs.states.PostedRequests.{idle_away}
use Rattle.sc_machine_laws.proofs.states.Posters.{new_wait, began, Moves, began_on, began_off, more_has, more_stuck}
use Rattle.sc_machine_laws.proofs.states.Asks.{lands, plain_moves, passing_moves, by_top, passing_queue, passing_top, plain_calls, plain_began, passing_calls, passing_began}
use Rattle.sc_machine_laws.proofs.states.ProvidedFrames.{Maps, frames_same, frames_rise, had_later, last_later, not_stuck_from, falling_later}
use Rattle.sc_machine_laws.proofs.states.ProvidedTurns.{landing_provided}

-- what the passing does to those who stand first
record Lasts (w v : World) (h : ℕ) : Type 0 where
  last_queue : (p n i j : ℕ) → n ≤ w.next → HadAlone p n i (w.queue j) → HadAlone p n i (v.queue j)
  later : (p : ℕ) → p ≢ h → (w.handlers p).failed ≡ false → waits_for (w.handlers p).stack ≡ None → (j : ℕ)
      → (HadBefore p w.next (w.queue j) → HadBefore p (suc w.next) (v.queue j)) ×
      (HadBefore p w.next (w.top j) → HadBefore p (suc w.next) (v.top j)) ×
      ((i : ℕ) → HadAlone p w.next i (w.queue j) → HadAlone p (suc w.next) i (v.queue j))

begins : (S : ℕ → ℕ → Type 0) (K : ℕ → Reservation → Type 0) (k n : ℕ) (b : Bool) (o : Option Asked) (fs : List Frame)
    → waits_for fs ≡ None → AreHeld S K n fs → AreHeld S K (suc n)
    (waiting (record { number = n; target = k; passing = b; asked = o }) fs)
begins S K k n b o [] free is = is
begins S K k n b o (f ∷ fs) free is =
    let i = subst (λ v. (lowest v n ≤ n) × Each (S (lowest v n)) f.needs × Each (K (lowest v n)) f.reserved × Each
    (IsBetween fs (lowest v n)) f.reserved × AreHeld S K (under f.reserved (lowest v n)) fs) free is in
    (omega arith, i.1, i.2, i.3, i.4)

waiting_reserved : (u : Wait) (fs : List Frame) → all_reserved (waiting u fs) ≡ all_reserved fs
waiting_reserved u [] = refl
waiting_reserved u (f ∷ fs) = refl

beginning_provided : (h k : ℕ) (b : Bool) (q t : ℕ → List Grant) (w : World) → MayAsk h k w → IsConsistent w → Moves w
    (began h k b q t w) h k b → Lasts w (began h k b q t w) h → IsProvided w → IsProvided (began h k b q t w)
beginning_provided h k b q t w may fine moves lasts provided =
    let v = began h k b q t w in
    let stuck_from_on : (p m : ℕ) → IsStuckFrom w p m → IsStuckFrom v p m = λ p m x.
    (x.0, x.1, more_has h k b q t w may p x.0 x.2, more_stuck h k b q t w may fine p x.0 x.3) in
    let maps : (p i : ℕ) → i ≤ w.next → Maps (IsAssured w p) (IsAssured v p) (KeepsReserved w p)
    (KeepsReserved v p) i i = λ p i le. (
      (λ j a. ⊎_elim (λ x. inl (moves.had_queue p i j le x))
          (λ o. ⊎_elim (λ x. inr (inl (moves.had_top p i j le x))) (λ x. inr (inr (stuck_from_on p i x))) o) a),
      (λ r a. ⊎_elim (λ x. inl (lasts.last_queue p i r.number r.handler le x)) (λ x. inr (stuck_from_on p i x)) a),
    ) in
    record {
      held = λ p. at_each (λ y. AreHeld (IsAssured v y) (KeepsReserved v y) (suc w.next) (v.handlers y).stack) h p
          (subst (λ (g : Handler). AreHeld (IsAssured v h) (KeepsReserved v h) (suc w.next) g.stack)
          (sym (began_on h k b q t w may))
          (begins (IsAssured v h) (KeepsReserved v h) k w.next b w.asks (w.handlers h).stack may.active.1
          (frames_same (IsAssured w h) (IsAssured v h) (KeepsReserved w h) (KeepsReserved v h)
          (w.handlers h).stack w.next (maps h) (provided.held h))))
          (λ ne. subst (λ (g : Handler). AreHeld (IsAssured v p) (KeepsReserved v p) (suc w.next) g.stack)
          (sym (began_off h k b q t w may p ne)) (by p ne maps (w.handlers p).failed refl));
      apart = λ p. at_each (λ y. Falling (suc w.next) (all_reserved (v.handlers y).stack)) h p
          (subst (λ (g : Handler). Falling (suc w.next) (all_reserved g.stack)) (sym (began_on h k b q t w may))
          (subst (Falling (suc w.next)) (sym (waiting_reserved (new_wait k b w) (w.handlers h).stack))
          (falling_later w.next (suc w.next) (all_reserved (w.handlers h).stack) (omega arith)
          (provided.apart h))))
          (λ ne. subst (λ (g : Handler). Falling (suc w.next) (all_reserved g.stack))
          (sym (began_off h k b q t w may p ne))
          (falling_later w.next (suc w.next) (all_reserved (w.handlers p).stack) (omega arith)
          (provided.apart p)));
    }
  where
    by : (p : ℕ) → p ≢ h → ((p i : ℕ) → i ≤ w.next → Maps (IsAssured w p) (IsAssured (began h k b q t w) p)
        (KeepsReserved w p) (KeepsReserved (began h k b q t w) p) i i) → (c : Bool) → (w.handlers p).failed ≡ c
        → AreHeld (IsAssured (began h k b q t w) p) (KeepsReserved (began h k b q t w) p) (suc w.next)
        (w.handlers p).stack
    by p ne maps true dead = subst
        (AreHeld (IsAssured (began h k b q t w) p) (KeepsReserved (began h k b q t w) p) (suc w.next))
        (sym (fine.failures p dead)) tt
    by p ne maps false alive = frames_rise (IsAssured w p) (IsAssured (began h k b q t w) p) (KeepsReserved w p)
        (KeepsReserved (began h k b q t w) p) (w.handlers p).stack w.next (suc w.next) (omega arith) (maps p)
        (λ free. (
          (λ j a. let l = lasts.later p ne alive free j in ⊎_elim (λ x. inl (l.0 x))
              (λ o. ⊎_elim (λ x. inr (inl (l.1 x))) (λ x. not_stuck_from w p fine x) o) a),
          (λ r a. let l = lasts.later p ne alive free r.handler in ⊎_elim (λ x. inl (l.2 r.number x))
              (λ x. not_stuck_from w p fine x) a),
        ))
        (provided.held p)

plain_lasts : (h k : ℕ) (w : World) → IsConsistent w → Lasts w (began h k false w.queue w.top w) h
plain_lasts h k w fine = record {
  last_queue = λ p n i j le x. x;
  later = λ p ne alive free j. (
    (λ x. had_later p w.next (suc w.next) (w.queue j) (fine.queue_old j) (omega arith) x),
    (λ x. had_later p w.next (suc w.next) (w.top j) (fine.top_old j) (omega arith) x),
    (λ i x. last_later p w.next (suc w.next) i (w.queue j) (fine.queue_old j) (omega arith) x),
  );
}

passed_last : (h p n i : ℕ) (e : Grant) (t : List Grant) → n ≤ e.number → HadAlone p n i t → HadAlone p n i
    (passed_on h e t)
passed_last h p n i e t le x = elim (has h t) as
    (λ b. HadAlone p n i (if b then e ∷ t else t)) [ true ↦ inr (le, x) | false ↦ x ]

-- what p has is not passed by another
not_passed : (h p n : ℕ) (e : Grant) (t : List Grant) → p ≢ h → ((x m : ℕ) → HasGrant x m t → m < n) → HadBefore p n t
    → passed_on h e t ≡ t
not_passed h p n e [] ne old x = absurd x
not_passed h p n e (d ∷ t) ne old (inl a) = ap (λ (b : Bool). if b then e ∷ d ∷ t else d ∷ t)
    (differs d.holder h (λ dh. ne (sym a.0 ∙ dh)))
not_passed h p n e (d ∷ t) ne old (inr a) = absurd
    (let lt = old d.holder d.number (inl (refl, refl)) in let le = a.0 in omega (arith, lt, le))

had_first : (p n : ℕ) (t : List Grant) → ((x m : ℕ) → HasGrant x m t → m < n) → HadBefore p n t → (i : ℕ)
    × IsFirst p i t
had_first p n [] old x = absurd x
had_first p n (d ∷ t) old (inl a) = (d.number, (a.0, refl))
had_first p n (d ∷ t) old (inr a) = absurd
    (let lt = old d.holder d.number (inl (refl, refl)) in let le = a.0 in omega (arith, lt, le))

last_once : (p n i : ℕ) (t : List Grant) → HadAlone p n i t → HadBefore p n t
last_once p n i t x = Rattle.sc_machine_laws.proofs.states.ProvidedTurns.last_had p n i t x

passing_lasts : (h k : ℕ) (w : World) → MayAsk h k w → IsConsistent w → Lasts w
    (began h k true (passing_queue h k w) (passing_top h k w) w) h
passing_lasts h k w may fine =
    let e : Grant = record { holder = k; number = w.next } in
    record {
      last_queue = λ p n i j le x. passed_last h p n i e (w.queue j) le x;
      later = λ p ne alive free j. (
        (λ x. subst (HadBefore p (suc w.next)) (sym (not_passed h p w.next e (w.queue j) ne (fine.queue_old j) x))
            (had_later p w.next (suc w.next) (w.queue j) (fine.queue_old j) (omega arith) x)),
        (λ x. by_top (HadBefore p (suc w.next)) h k w j
            (λ jh.
            let f = had_first p w.next (w.top j) (fine.top_old j) x in
            absurd (⊎_elim
            (λ away. idle_away (w.handlers h) may.active away)
            (λ o. ⊎_elim (λ a. not_some a.for (sym free ∙ a.waits)) (λ d. true_false (sym d ∙ alive)) o)
            (fine.tops h p f.0 (subst (λ y. IsFirst p f.0 (w.top y)) jh f.1) ne may.active.0)))
            (λ nh. subst (HadBefore p (suc w.next)) (sym (not_passed h p w.next e (w.top j) ne (fine.top_old j) x))
            (had_later p w.next (suc w.next) (w.top j) (fine.top_old j) (omega arith) x))),
        (λ i x. subst (HadAlone p (suc w.next) i)
            (sym (not_passed h p w.next e (w.queue j) ne (fine.queue_old j) (last_once p w.next i (w.queue j) x)))
            (last_later p w.next (suc w.next) i (w.queue j) (fine.queue_old j) (omega arith) x)),
      );
    }

pub asking_provided : (h k : ℕ) (w : World) → MayAsk h k w → IsConsistent w → IsProvided w → IsProvided (ask h k w)
asking_provided h k w may fine provided =
    landing_provided (has h (w.top k)) k (request h false w) (began h k false w.queue w.top w)
    (lands h k false w.queue w.top w may fine) (plain_calls h k w may fine) (plain_began h k w may fine)
    (beginning_provided h k false w.queue w.top w may fine (plain_moves h k w may fine)
    (plain_lasts h k w fine) provided)

pub asking_passing_provided : (h k : ℕ) (w : World) → MayAsk h k w → IsConsistent w → IsProvided w → IsProvided
    (ask_passing h k w)
asking_passing_provided h k w may fine provided =
    landing_provided (has h (w.top k)) k (request h true w)
    (began h k true (passing_queue h k w) (passing_top h k w) w)
    (lands h k true (passing_queue h k w) (passing_top h k w) w may fine) (passing_calls h k w may fine)
    (passing_began h k w may fine)
    (beginning_provided h k true (passing_queue h k w) (passing_top h k w) w may fine (passing_moves h k w may fine)
    (passing_lasts h k w may fine) provided)
