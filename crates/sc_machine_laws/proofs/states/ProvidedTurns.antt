-- Steps of one handler that change no right keep what frames need.
use Rattle.std.proofs.Common.{◌≡◌, ⊎_elim, inl, inr, ℕ, suc, ◌<◌, ◌≤◌, List, [], ◌∷◌, ◌++◌, Some, None, Bool, true, false, refl, sym, ap, ◌∙◌, subst, arith}
use Rattle.sc_machine_laws.specs.states.World.{Grant, Reservation, Wait, Request, Frame, World, popped, post, take_request, take_callback, enter, pop, take_answer, begun, rest_of, resumed, land, arrive}
use Rattle.sc_machine_laws.specs.states.Steps.{answered, waits_for, IsActive, HasReleased}
use Rattle.sc_machine_laws.specs.states.Consistent.{HasWait, HasGrant, Lends, Nobody, IsTrail, HadBefore, IsStuckFrom, IsConsistent}
use Rattle.sc_machine_laws.specs.states.Provided.{lowest, Each, HadAlone, IsAssured, KeepsReserved, IsBetween, under, AreHeld, all_reserved, Falling, IsProvided}
use Rattle.sc_machine_laws.proofs.states.Waits.{true_false, waits_has, wait_of, top_newest}
use Rattle.sc_machine_laws.proofs.states.Simple.{changed}
use Rattle.sc_machine_laws.proofs.states.PostedRequests.{posting_simple}
use Rattle.sc_machine_laws.proofs.states.PushedFrames.{taking_simple, calling_back_simple, entering_simple}
use Rattle.sc_machine_laws.proofs.states.PoppedFrames.{popping_simple, answering_simple, not_stuck}
use Rattle.sc_machine_laws.proofs.states.Arrivals.{Lands, CallsBack, landing_queue_simple, landing_callback_simple}
use Rattle.sc_machine_laws.proofs.states.ProvidedFrames.{Maps, frames_rise, falling_later, simple_frames, simple_provided}

pub posting_provided : (h k : ℕ) (w : World) → (w.handlers k).failed ≡ false → IsConsistent w → IsProvided w
    → IsProvided (post h k w)
posting_provided h k w alive fine provided =
    let s = posting_simple h k w alive fine in
    simple_provided w k (arrive false (record { number = w.next; poster = h; waited = false; passed = None; asked = w.asks })
    (w.handlers k)) (suc w.next) s fine provided
    (simple_frames w k (arrive false (record { number = w.next; poster = h; waited = false; passed = None; asked = w.asks })
    (w.handlers k)) (suc w.next) s fine k (w.handlers k).stack (provided.held k))
    (falling_later w.next (suc w.next) (all_reserved (w.handlers k).stack) (omega arith) (provided.apart k))

pub landing_provided : (b : Bool) (k : ℕ) (r : Request) (u : World) → Lands k r u → (b ≡ true → CallsBack k r u)
    → IsConsistent u → IsProvided u → IsProvided (land b k r u)
landing_provided false k r u l c fine provided =
    let s = landing_queue_simple k r u l fine in
    simple_provided u k (arrive false r (u.handlers k)) u.next s fine provided
    (simple_frames u k (arrive false r (u.handlers k)) u.next s fine k (u.handlers k).stack (provided.held k))
    (provided.apart k)
landing_provided true k r u l c fine provided =
    let s = landing_callback_simple k r u l (c refl) fine in
    simple_provided u k (arrive true r (u.handlers k)) u.next s fine provided
    (simple_frames u k (arrive true r (u.handlers k)) u.next s fine k (u.handlers k).stack (provided.held k))
    (provided.apart k)

pub taking_provided : (h : ℕ) (r : Request) (rs : List Request) (w : World) → (w.handlers h).failed ≡ false
    → (w.handlers h).stack ≡ [] → (w.handlers h).requests ≡ r ∷ rs → IsConsistent w → IsProvided w → IsProvided
    (take_request h r w)
taking_provided h r rs w alive idle first fine provided =
    let s = taking_simple h r rs w alive idle first fine in
    simple_provided w h (record (w.handlers h) {
      stack = begun r (w.handlers h).stack;
      requests = rest_of
          (w.handlers h).requests;
    }) w.next s fine provided (
      omega arith,
      tt,
      tt,
      tt,
      simple_frames w h
          (record (w.handlers h) { stack = begun r (w.handlers h).stack; requests = rest_of (w.handlers h).requests })
          w.next s fine h (w.handlers h).stack (provided.held h),
    ) (provided.apart h)

pub calling_back_provided : (h : ℕ) (r : Request) (w : World) → (w.handlers h).failed ≡ false
    → (w.handlers h).callback ≡ Some r → IsConsistent w → IsProvided w → IsProvided (take_callback h r w)
calling_back_provided h r w alive waits fine provided =
    let s = calling_back_simple h r w alive waits fine in
    simple_provided w h (record (w.handlers h) { stack = begun r (w.handlers h).stack; callback = None }) w.next s
    fine provided (
      omega arith,
      tt,
      tt,
      tt,
      simple_frames w h
          (record (w.handlers h) { stack = begun r (w.handlers h).stack; callback = None }) w.next s fine h
          (w.handlers h).stack (provided.held h),
    ) (provided.apart h)

pub entering_provided : (h : ℕ) (w : World) → IsActive (w.handlers h) → IsConsistent w → IsProvided w → IsProvided
    (enter h w)
entering_provided h w active fine provided =
    let s = entering_simple h w active fine in
    simple_provided w h (record (w.handlers h)
    { stack = record { origin = None; reserved = []; needs = []; waits = None } ∷ (w.handlers h).stack }) w.next s
    fine provided (
      omega arith,
      tt,
      tt,
      tt,
      simple_frames w h
          (record (w.handlers h) {
            stack = record { origin = None; reserved = []; needs = []; waits = None } ∷
                (w.handlers h).stack;
          }) w.next s fine h (w.handlers h).stack (provided.held h),
    ) (provided.apart h)

held_lower : (S : ℕ → ℕ → Type 0) (K : ℕ → Reservation → Type 0) (n : ℕ) (fs : List Frame) → waits_for fs ≡ None
    → HasReleased fs → AreHeld S K n fs → AreHeld S K n (popped fs)
held_lower S K n [] free none is = tt
held_lower S K n (f ∷ fs) free none is = subst (λ r. AreHeld S K (under r n) fs) none
    (subst (λ o. AreHeld S K (under f.reserved (lowest o n)) fs) free is.4)

falling_lower : (n : ℕ) (fs : List Frame) → HasReleased fs → Falling n (all_reserved fs) → Falling n
    (all_reserved (popped fs))
falling_lower n [] none is = is
falling_lower n (f ∷ fs) none is = subst (λ r. Falling n (r ++ all_reserved fs)) none is

pub popping_provided : (h : ℕ) (w : World) → IsActive (w.handlers h) → HasReleased (w.handlers h).stack
    → IsConsistent w → IsProvided w → IsProvided (pop h w)
popping_provided h w active none fine provided =
    let s = popping_simple h w active fine in
    simple_provided w h (record (w.handlers h) { stack = popped (w.handlers h).stack }) w.next s fine provided
    (simple_frames w h (record (w.handlers h) { stack = popped (w.handlers h).stack }) w.next s fine h
    (popped (w.handlers h).stack) (held_lower (IsAssured w h) (KeepsReserved w h) w.next
    (w.handlers h).stack active.1 none (provided.held h)))
    (falling_lower w.next (w.handlers h).stack none (provided.apart h))

-- whoever goes on has what it had before: nothing that it gave away since the bound b is away still
had_under : (w : World) (L : ℕ → ℕ → ℕ → Type 0) (p b : ℕ) (e : Grant) (t : List Grant) → IsTrail w L (e ∷ t)
    → (w.handlers p).failed ≡ false → ((lo m : ℕ) → L p lo m → ⊥)
    → ((x m : ℕ) → HasGrant x m (e ∷ t) → HasWait m (w.handlers p).stack → m < b) → b ≤ e.number → HadBefore p b t → ⊥
had_under w L p b e [] is lives not old le had = had
had_under w L p b e (d ∷ t) is lives not old le (inr a) = had_under w L p b d t is.2 lives not
    (λ x m i. old x m (inr i)) a.0 a.1
had_under w L p b e (d ∷ t) is lives not old le (inl here) = ⊎_elim
    (λ has. absurd (let lt = old e.holder e.number (inl (refl, refl))
    (subst (λ y. HasWait e.number (w.handlers y).stack) here.0 has) in omega (arith, lt, le)))
    (λ o. ⊎_elim (λ l. not d.number e.number (subst (λ y. L y d.number e.number) here.0 l))
    (λ f. true_false (sym f ∙ ap (λ y. (w.handlers y).failed) here.0 ∙ lives)) o)
    is.0

pub had_again : (w : World) (L : ℕ → ℕ → ℕ → Type 0) (p b n : ℕ) (t : List Grant) → IsTrail w L t
    → (w.handlers p).failed ≡ false → ((lo m : ℕ) → L p lo m → ⊥)
    → ((x m : ℕ) → HasGrant x m t → HasWait m (w.handlers p).stack → m < b) → b ≤ n → HadBefore p b t
    → HadBefore p n t
had_again w L p b n [] is lives not old le had = absurd had
had_again w L p b n (e ∷ t) is lives not old le (inl a) = inl (a.0, let lt = a.1 in omega (arith, lt, le))
had_again w L p b n (e ∷ t) is lives not old le (inr a) = absurd (had_under w L p b e t is lives not old a.0 a.1)

pub last_had : (p n i : ℕ) (t : List Grant) → HadAlone p n i t → HadBefore p n t
last_had p n i [] had = had
last_had p n i (e ∷ t) (inl a) = inl (a.0, let lt = a.2 in let q = a.1 in omega (arith, lt, q))
last_had p n i (e ∷ t) (inr a) = inr (a.0, last_had p n i t a.1)

pub last_again : (w : World) (L : ℕ → ℕ → ℕ → Type 0) (p b n i : ℕ) (t : List Grant) → IsTrail w L t
    → (w.handlers p).failed ≡ false → ((lo m : ℕ) → L p lo m → ⊥)
    → ((x m : ℕ) → HasGrant x m t → HasWait m (w.handlers p).stack → m < b) → b ≤ n → HadAlone p b i t
    → HadAlone p n i t
last_again w L p b n i [] is lives not old le had = absurd had
last_again w L p b n i (e ∷ t) is lives not old le (inl a) = inl
    (a.0, a.1, (let lt = a.2 in omega (arith, lt, le)), a.3)
last_again w L p b n i (e ∷ t) is lives not old le (inr a) = absurd
    (had_under w L p b e t is lives not old a.0 (last_had p b i t a.1))

resumed_reserved : (fs : List Frame) → all_reserved (resumed fs) ≡ all_reserved fs
resumed_reserved [] = refl
resumed_reserved (f ∷ fs) = refl

pub answering_provided : (h : ℕ) (w : World) → (w.handlers h).failed ≡ false → answered (w.handlers h).answer ≡ true
    → (v : Wait) → waits_for (w.handlers h).stack ≡ Some v → IsConsistent w → IsProvided w → IsProvided
    (take_answer h w)
answering_provided h w alive over v at fine provided =
    let s = answering_simple h w alive over fine in
    let g = w.handlers h in
    let to : World = changed h (record (w.handlers h) { stack = resumed (w.handlers h).stack; answer = None }) w.next
    w in
    let S = IsAssured w h in
    let K = KeepsReserved w h in
    let gone : (m : ℕ) → v.number ≤ m → HasWait m g.stack → m ≡ v.number = λ m le has.
    let r = wait_of m g.stack has in
    let top = top_newest g.stack v r.0 (fine.ordered h) at r.1 in
    let n = r.2 in omega (arith, le, top, n) in
    let old_queue : (k x m : ℕ) → HasGrant x m (w.queue k) → HasWait m g.stack → m < v.number = λ k x m i has.
    below m v.number (λ le. (fine.spent h v at over k x).0 (subst (λ j. HasGrant x j (w.queue k)) (gone m le has) i))
    in
    let old_top : (k x m : ℕ) → HasGrant x m (w.top k) → HasWait m g.stack → m < v.number = λ k x m i has.
    below m v.number (λ le. (fine.spent h v at over k x).1 (subst (λ j. HasGrant x j (w.top k)) (gone m le has) i)) in
    let not_asks : (k lo m : ℕ) → Lends w k h lo m → ⊥ = λ k lo m l. true_false (sym over ∙ l.0.unanswered) in
    let le : v.number ≤ w.next = (let lt = fine.waits_old h v.number (waits_has g.stack v at) in omega (arith, lt)) in
    let not_hurt_now : IsStuckFrom w h v.number → ⊥ = λ stuck. not_stuck h stuck.0 v w fine over at
    (sym (gone stuck.0 stuck.1 stuck.2)) stuck.3 in
    let up : Maps S S K K v.number w.next = (
      (λ k a. ⊎_elim
          (λ b. inl (had_again w Nobody h v.number w.next (w.queue k) (fine.queue_trails k) alive (λ lo m z. z)
          (old_queue k) le b))
          (λ o. ⊎_elim (λ b. inr (inl (had_again w (Lends w k) h v.number w.next (w.top k) (fine.top_trails k) alive
          (not_asks k) (old_top k) le b))) (λ stuck. absurd (not_hurt_now stuck)) o)
          a),
      (λ r a. ⊎_elim
          (λ b. inl (last_again w Nobody h v.number w.next r.number (w.queue r.handler)
          (fine.queue_trails r.handler) alive (λ lo m z. z) (old_queue r.handler) le b))
          (λ stuck. absurd (not_hurt_now stuck))
          a),
    ) in
    simple_provided w h (record (w.handlers h) { stack = resumed (w.handlers h).stack; answer = None }) w.next s fine
    provided
    (simple_frames w h (record (w.handlers h) { stack = resumed (w.handlers h).stack; answer = None }) w.next s fine h
    (resumed g.stack) (goes_on S K v w.next g.stack at le up (provided.held h)))
    (subst (Falling w.next) (sym (resumed_reserved g.stack)) (provided.apart h))
  where
    below : (m n : ℕ) → (n ≤ m → ⊥) → m < n
    below m n not = omega (arith, not)

    goes_on : (S : ℕ → ℕ → Type 0) (K : ℕ → Reservation → Type 0) (v : Wait) (n : ℕ) (fs : List Frame)
        → waits_for fs ≡ Some v → v.number ≤ n → Maps S S K K v.number n → AreHeld S K n fs → AreHeld S K n
        (resumed fs)
    goes_on S K v n [] at le up is = is
    goes_on S K v n (f ∷ fs) at le up is =
        let was : AreHeld S K v.number (record f { waits = None } ∷ fs) =
        (let i = subst (λ o. (lowest o n ≤ n) × Each (S (lowest o n)) f.needs × Each (K (lowest o n)) f.reserved
        × Each (IsBetween fs (lowest o n)) f.reserved × AreHeld S K (under f.reserved (lowest o n)) fs) at is in
        (omega arith, i.1, i.2, i.3, i.4)) in
        frames_rise S S K K (record f { waits = None } ∷ fs) v.number n le (λ i _. ((λ k a. a), (λ r a. a)))
        (λ _. up) was
