-- A failure keeps what frames need.
use Rattle.std.proofs.Common.{◌≡◌, ◌≢◌, ◌⊎◌, ⊎_elim, inl, inr, ℕ, ◌≤◌, List, [], ◌∷◌, Option, Some, None, Bool, true, false, refl, sym, ◌∙◌, subst, arith}
use Rattle.std.proofs.lemmas.Bool.{cases_eq}
use Rattle.std.specs.Prelude.{if◌then◌else◌}
use Rattle.sc_machine_laws.specs.states.World.{Grant, Reservation, Wait, Frame, Handler, World, has, fallen}
use Rattle.sc_machine_laws.specs.states.Steps.{waits_for, MayFail}
use Rattle.sc_machine_laws.specs.states.Consistent.{Nobody, IsTrail, Lends, HadBefore, IsStuckFrom, IsConsistent}
use Rattle.sc_machine_laws.specs.states.Provided.{lowest, Each, HadAlone, IsAssured, KeepsReserved, IsBetween, under, AreHeld, all_reserved, Falling, IsProvided}
use Rattle.sc_machine_laws.proofs.states.Forms.{fail_by_waits}
use Rattle.sc_machine_laws.proofs.states.Rights.{not_some}
use Rattle.sc_machine_laws.proofs.states.Waits.{some_wait}
use Rattle.sc_machine_laws.proofs.states.Failures.{fail-here, fail_kept, stuck_from_on, LendsWell, IsKnown, fall_had, queue_known, top_known, nobody_well, lends_well}
use Rattle.sc_machine_laws.proofs.states.ProvidedFrames.{Maps, each_map, under_least, frames_same}
use Rattle.sc_machine_laws.proofs.states.ProvidedTurns.{last_had}

-- where the top frame waits for v, no bound that occurs is above v's number
pub frames_top : (S T : ℕ → ℕ → Type 0) (K J : ℕ → Reservation → Type 0) (fs : List Frame) (n : ℕ) (v : Wait)
    → waits_for fs ≡ Some v → ((i : ℕ) → i ≤ v.number → Maps S T K J i i) → AreHeld S K n fs → AreHeld T J n fs
frames_top S T K J [] n v at maps is = tt
frames_top S T K J (f ∷ fs) n v at maps is =
    let i = subst (λ o. (lowest o n ≤ n) × Each (S (lowest o n)) f.needs × Each (K (lowest o n)) f.reserved × Each
    (IsBetween fs (lowest o n)) f.reserved × AreHeld S K (under f.reserved (lowest o n)) fs) at is in
    let t = maps v.number (omega arith) in
    subst (λ o. (lowest o n ≤ n) × Each (T (lowest o n)) f.needs × Each (J (lowest o n)) f.reserved × Each
    (IsBetween fs (lowest o n)) f.reserved × AreHeld T J (under f.reserved (lowest o n)) fs) (sym at) (
      i.0,
      each_map (S v.number) (T v.number) f.needs t.0 i.1,
      each_map (K v.number) (J v.number) f.reserved t.1 i.2,
      i.3,
      frames_same S T K J fs (under f.reserved v.number)
          (λ j le. maps j (let c = under_least fs v.number f.reserved i.3 in omega (arith, le, c))) i.4,
    )

-- in either case the bounds are those that the top frame's wait allows
pub frames_bounded : (S T : ℕ → ℕ → Type 0) (K J : ℕ → Reservation → Type 0) (fs : List Frame) (n : ℕ)
    → ((i : ℕ) → ((u : Wait) → waits_for fs ≡ Some u → i ≤ u.number) → Maps S T K J i i) → AreHeld S K n fs
    → AreHeld T J n fs
frames_bounded S T K J fs n maps is = by (waits_for fs) refl
  where
    by : (o : Option Wait) → waits_for fs ≡ o → AreHeld T J n fs
    by None e = frames_same S T K J fs n (λ i _. maps i (λ u at. not_some u (sym e ∙ at))) is
    by (Some v) e = frames_top S T K J fs n v e
        (λ i le. maps i (λ u at. subst (λ (x : Wait). i ≤ x.number) (some_wait v u (sym e ∙ at)) le)) is

fall_last : (h : ℕ) (w : World) → IsConsistent w → (L : ℕ → ℕ → ℕ → Type 0) → LendsWell h w L → (t : List Grant)
    → IsKnown w t → IsTrail w L t
    → (p n i : ℕ) → p ≢ h → (w.handlers p).failed ≡ false
    → ((u : Wait) → waits_for (w.handlers p).stack ≡ Some u → n ≤ u.number) → HadAlone p n i t → HadAlone p n i
    (fallen h t) ⊎ IsStuckFrom (fail_by_waits h w) p n
fall_last h w fine L well t known is p n i ne alive most had = by (has h t) refl
  where
    by : (b : Bool) → has h t ≡ b → HadAlone p n i (if b then [] else t) ⊎ IsStuckFrom (fail_by_waits h w) p n
    by false so = inl had
    by true so = ⊎_elim
        (λ now. absurd (subst (λ (b : Bool). HadBefore p n (if b then [] else t)) so now))
        (λ stuck. inr stuck)
        (fall_had h w fine L well t known is p n ne alive most (last_had p n i t had))

pub failing_provided : (h : ℕ) (w : World) → MayFail h w → IsConsistent w → IsProvided w → IsProvided
    (fail_by_waits h w)
failing_provided h w may fine provided = record {
  held = λ p. ⊎_elim
      (λ ph. subst (λ y. AreHeld (IsAssured (fail_by_waits h w) y) (KeepsReserved (fail_by_waits h w) y) w.next
      ((fail_by_waits h w).handlers y).stack) (sym ph)
      (subst (λ (g : Handler). AreHeld (IsAssured (fail_by_waits h w) h)
      (KeepsReserved (fail_by_waits h w) h) w.next g.stack) (sym (fail-here h w)) tt))
      (λ ne. subst (AreHeld (IsAssured (fail_by_waits h w) p) (KeepsReserved (fail_by_waits h w) p) w.next)
      (sym (fail_kept h w p ne).stack) (by p ne (w.handlers p).failed refl))
      (cases_eq p h);
  apart = λ p. ⊎_elim
      (λ ph. subst (λ y. Falling w.next (all_reserved ((fail_by_waits h w).handlers y).stack)) (sym ph)
      (subst (λ (g : Handler). Falling w.next (all_reserved g.stack)) (sym (fail-here h w)) tt))
      (λ ne. subst (λ s. Falling w.next (all_reserved s)) (sym (fail_kept h w p ne).stack) (provided.apart p))
      (cases_eq p h);
}
  where
    by : (p : ℕ) → p ≢ h → (b : Bool) → (w.handlers p).failed ≡ b → AreHeld (IsAssured (fail_by_waits h w) p)
        (KeepsReserved (fail_by_waits h w) p) w.next (w.handlers p).stack
    by p ne true dead = subst (AreHeld (IsAssured (fail_by_waits h w) p) (KeepsReserved (fail_by_waits h w) p) w.next)
        (sym (fine.failures p dead)) tt
    by p ne false alive = frames_bounded (IsAssured w p) (IsAssured (fail_by_waits h w) p) (KeepsReserved w p)
        (KeepsReserved (fail_by_waits h w) p) (w.handlers p).stack w.next
        (λ i most. (
          (λ k a. ⊎_elim
              (λ had. ⊎_elim (λ b. inl b) (λ b. inr (inr b))
              (fall_had h w fine Nobody (nobody_well h w) (w.queue k) (queue_known w fine k)
              (fine.queue_trails k) p i ne alive most had))
              (λ o. ⊎_elim
              (λ had. ⊎_elim (λ b. inr (inl b)) (λ b. inr (inr b))
              (fall_had h w fine (Lends w k) (lends_well h w fine k) (w.top k) (top_known w fine k)
              (fine.top_trails k) p i ne alive most had))
              (λ stuck. inr (inr (stuck_from_on h w p i ne stuck)))
              o)
              a),
          (λ r a. ⊎_elim
              (λ had. fall_last h w fine Nobody (nobody_well h w) (w.queue r.handler) (queue_known w fine r.handler)
              (fine.queue_trails r.handler) p i r.number ne alive most had)
              (λ stuck. inr (stuck_from_on h w p i ne stuck))
              a),
        ))
        (provided.held p)
