-- The end of a request that somebody waits for keeps what frames need.
use Rattle.std.proofs.Common.{◌≡◌, ◌⊎◌, ⊎_elim, inl, inr, ℕ, ◌<◌, ◌≤◌, List, [], ◌∷◌, Some, None, Bool, true, false, refl, sym, ap, ◌∙◌, subst, arith}
use Rattle.std.proofs.lemmas.Bool.Decides.{nat_tests}
use Rattle.std.specs.Prelude.{if◌then◌else◌}
use Rattle.sc_machine_laws.specs.states.World.{passes, Grant, Wait, Request, Frame, Answer, Handler, World, pop, came_by, without_first, back}
use Rattle.sc_machine_laws.specs.states.Steps.{answered, waits_for, Ends, HasReleased}
use Rattle.sc_machine_laws.specs.states.Consistent.{HasGrant, HadBefore, IsConsistent}
use Rattle.sc_machine_laws.specs.states.Provided.{HadAlone, IsAssured, KeepsReserved, AreHeld, all_reserved, Falling, IsProvided}
use Rattle.sc_machine_laws.proofs.states.Forms.{exit_plain, exit_passing, exit_unheard}
use Rattle.sc_machine_laws.proofs.states.Waits.{waits_has}
use Rattle.sc_machine_laws.proofs.states.Shrinks.{Shrinks, grown_stuck_from}
use Rattle.sc_machine_laws.proofs.states.PoppedFrames.{popping_keeps}
use Rattle.sc_machine_laws.proofs.states.AwaitedEnds.{Ended, is_ended, back_had}
use Rattle.sc_machine_laws.proofs.states.HeardClients.{heard_by, same_stack, hearing_shrinks}
use Rattle.sc_machine_laws.proofs.states.PlainReplies.{heard_plain, plain_wait, plain_rest}
use Rattle.sc_machine_laws.proofs.states.UnheardReplies.{unheard_shrinks, to_h}
use Rattle.sc_machine_laws.proofs.states.PassingReplies.{heard_passing, passing_wait, passing_rest}
use Rattle.sc_machine_laws.proofs.states.ProvidedTurns.{popping_provided}
use Rattle.sc_machine_laws.proofs.states.ProvidedFails.{frames_bounded}

empty_or : (fs : List Frame) → (fs ≡ []) ⊎ (fs ≡ [] → ⊥)
empty_or [] = inl refl
empty_or (f ∷ fs) = inr (λ e. cc)

-- the bounds of p's frames
abbrev Bounded : World → ℕ → ℕ → Type 0
Bounded u p i = ((x : Wait) → waits_for (u.handlers p).stack ≡ Some x → i ≤ x.number) ×
    ((u.handlers p).stack ≡ [] → ⊥)

same_stacks : (u : World) (q t : ℕ → List Grant) (h : ℕ) (f : ℕ → Handler) → Shrinks u
    (record u { handlers = f; queue = q; top = t }) h → ((p : ℕ) → (f p).stack ≡ (u.handlers p).stack)
    → ((p i k : ℕ) → Bounded u p i → (HadBefore p i (u.queue k) → HadBefore p i (q k)) ×
    (HadBefore p i (u.top k) → HadBefore p i (t k)) ×
    ((j : ℕ) → HadAlone p i j (u.queue k) → HadAlone p i j (q k))) → IsProvided u → IsProvided
    (record u { handlers = f; queue = q; top = t })
same_stacks u q t h f c same maps provided =
    let v : World = record u { handlers = f; queue = q; top = t } in
    record {
      held = λ p. subst (AreHeld (IsAssured v p) (KeepsReserved v p) u.next) (sym (same p)) (⊎_elim
          (λ empty. subst (AreHeld (IsAssured v p) (KeepsReserved v p) u.next) (sym empty) tt)
          (λ full. frames_bounded (IsAssured u p) (IsAssured v p) (KeepsReserved u p) (KeepsReserved v p)
          (u.handlers p).stack u.next
          (λ i most. (
            (λ k a. let m = maps p i k (most, full) in ⊎_elim (λ x. inl (m.0 x))
                (λ o. inr (⊎_elim (λ x. inl (m.1 x)) (λ x. inr (grown_stuck_from u v h c p i x)) o)) a),
            (λ r a. let m = maps p i r.handler (most, full) in ⊎_elim (λ x. inl (m.2 r.number x))
                (λ x. inr (grown_stuck_from u v h c p i x)) a),
          ))
          (provided.held p))
          (empty_or (u.handlers p).stack));
      apart = λ p. subst (λ s. Falling u.next (all_reserved s)) (sym (same p)) (provided.apart p);
    }

-- h stands where it has passed, older than what it ended
ender_older : (h : ℕ) (r : Request) (u : World) → Ended h r u → (p i : ℕ) → Bounded u p i → p ≡ h → i < r.number
ender_older h r u e p i b ph = ⊎_elim
    (λ empty. absurd (b.1 (ap (λ y. (u.handlers y).stack) ph ∙ empty)))
    (λ away.
    let le = b.0 away.for (ap (λ y. waits_for (u.handlers y).stack) ph ∙ away.waits) in
    let lt = e.older away.for.number (waits_has (u.handlers h).stack away.for away.waits) in
    omega (arith, le, lt))
    e.rests

back_last : (h n q m j : ℕ) (t : List Grant) → ((x : ℕ) → HasGrant x n t → x ≡ h) → (q ≡ h → m < n) → HadAlone q m j t
    → HadAlone q m j (back n t)
back_last h n q m j t only old had = by (came_by n t) refl
  where
    less : (u : List Grant) → ((x : ℕ) → HasGrant x n u → x ≡ h) → came_by n u ≡ true → HadAlone q m j u
        → HadAlone q m j (without_first u)
    less [] only so i = i
    less (e ∷ u) only so (inl i) =
        let a : e.number ≡ n = grind (arith, nat_tests) in
        let b = i.1 in
        let lt = i.2 in
        absurd (let o = old (sym i.0 ∙ only e.holder (inl (refl, a))) in omega (arith, a, b, lt, o))
    less (e ∷ u) only so (inr i) = i.1

    by : (b : Bool) → came_by n t ≡ b → HadAlone q m j (if b then without_first t else t)
    by true so = less t only so had
    by false so = had

-- what the give-back does
back_maps : (h : ℕ) (r : Request) (u : World) → IsConsistent u → Ended h r u → (p i k : ℕ) → Bounded u p i
    → (HadBefore p i (u.queue k) → HadBefore p i (back r.number (u.queue k))) ×
    (HadBefore p i (u.top k) → HadBefore p i (back r.number (u.top k))) ×
    ((j : ℕ) → HadAlone p i j (u.queue k) → HadAlone p i j (back r.number (u.queue k)))
back_maps h r u fine e p i k b =
    let old = ender_older h r u e p i b in (
      (λ x. back_had h r.number p i (u.queue k) (λ y c. (to_h h r u fine e k y).0 c) old x),
      (λ x. back_had h r.number p i (u.top k) (λ y c. (to_h h r u fine e k y).1 c) old x),
      (λ j x. back_last h r.number p i j (u.queue k) (λ y c. (to_h h r u fine e k y).0 c) old x),
    )

pub exit_plain_provided : (a : Answer) (h : ℕ) (r : Request) (w : World) → answered (Some a) ≡ true → Ends h r w
    → HasReleased (w.handlers h).stack → passes r ≡ false → ((pop h w).handlers r.poster).failed ≡ false
    → ((pop h w).handlers r.poster).answer ≡ None → IsConsistent w → IsProvided w → IsProvided
    (exit_plain a h r.poster w)
exit_plain_provided a h r w reply ends released plain alive none fine provided =
    let u = pop h w in
    let g = popping_keeps h w ends.active fine in
    let e = is_ended h r w fine ends in
    let b = heard_plain h r u g e plain alive none in
    same_stacks u u.queue u.top r.poster (heard_by a r u u.queue u.top).handlers
    (hearing_shrinks a h r u u.queue u.top reply g e b (plain_rest a h r u g e b (plain_wait h r u g e plain b)))
    (same_stack a h r u b) (λ p i k c. ((λ x. x), (λ x. x), (λ j x. x)))
    (popping_provided h w ends.active released fine provided)

pub exit_passing_provided : (a : Answer) (h : ℕ) (r : Request) (w : World) → answered (Some a) ≡ true → Ends h r w
    → HasReleased (w.handlers h).stack → passes r ≡ true → ((pop h w).handlers r.poster).failed ≡ false
    → ((pop h w).handlers r.poster).answer ≡ None → IsConsistent w → IsProvided w → IsProvided
    (exit_passing a h r.number r.poster w)
exit_passing_provided a h r w reply ends released passing alive none fine provided =
    let u = pop h w in
    let g = popping_keeps h w ends.active fine in
    let e = is_ended h r w fine ends in
    let b = heard_passing h r u g e passing alive none in
    same_stacks u (λ k. back r.number (u.queue k)) (λ k. back r.number (u.top k)) r.poster
    (heard_by a r u u.queue u.top).handlers
    (hearing_shrinks a h r u (λ k. back r.number (u.queue k)) (λ k. back r.number (u.top k)) reply g e b.0
    (passing_rest a h r u g e b.0 (passing_wait h r u g e passing b.0) b.1 reply))
    (same_stack a h r u b.0) (back_maps h r u g e) (popping_provided h w ends.active released fine provided)

pub exit_unheard_provided : (h : ℕ) (r : Request) (w : World) → Ends h r w → HasReleased (w.handlers h).stack
    → (((pop h w).handlers r.poster).failed ≡ true) ⊎ (((pop h w).handlers r.poster).answer ≡ None → ⊥)
    → IsConsistent w → IsProvided w → IsProvided (exit_unheard h r.number w)
exit_unheard_provided h r w ends released deaf fine provided =
    let u = pop h w in
    same_stacks u (λ k. back r.number (u.queue k)) (λ k. back r.number (u.top k)) h u.handlers
    (unheard_shrinks h r w ends deaf fine)
    (λ p. refl) (back_maps h r u (popping_keeps h w ends.active fine) (is_ended h r w fine ends))
    (popping_provided h w ends.active released fine provided)
