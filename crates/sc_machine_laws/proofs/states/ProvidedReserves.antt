-- Reservations and releases keep what frames need.
use Rattle.std.proofs.Common.{◌≡◌, ◌≢◌, ⊎_elim, inl, inr, ℕ, suc, ◌<◌, ◌≤◌, List, [], ◌∷◌, ◌++◌, None, refl, sym, ap, ◌∙◌, subst, arith}
use Rattle.sc_machine_laws.specs.states.World.{Grant, Reservation, Frame, Handler, World, put, relisted, relist, reservations, reserve, release, settle}
use Rattle.sc_machine_laws.specs.states.Steps.{waits_for, IsActive, IsIdle, Holds, EachHeld}
use Rattle.sc_machine_laws.specs.states.Consistent.{HasWait, HasGrant, Nobody, Lends, HadBefore, IsStuckFrom, IsConsistent}
use Rattle.sc_machine_laws.specs.states.Provided.{lowest, Each, HadAlone, IsAssured, KeepsReserved, IsBetween, under, AreHeld, all_reserved, Falling, IsProvided}
use Rattle.sc_machine_laws.proofs.states.Rights.{put-same, put-other}
use Rattle.sc_machine_laws.proofs.states.Shrinks.{at_each}
use Rattle.sc_machine_laws.proofs.states.Simple.{changed}
use Rattle.sc_machine_laws.proofs.states.PostedRequests.{idle_asks}
use Rattle.sc_machine_laws.proofs.states.Asks.{first_had, first_grant, holder_first}
use Rattle.sc_machine_laws.proofs.states.Reservations.{relisting_simple, stuck_same, releasing_keeps}
use Rattle.sc_machine_laws.proofs.states.ProvidedFrames.{Maps, each_map, frames_same, frames_rise, not_stuck_from, falling_later, simple_frames, simple_provided, simple_move, simple_next, simple_stuck_from, reserved_is_own}
use Rattle.sc_machine_laws.proofs.states.ProvidedTurns.{had_again, last_again, last_had}

-- the parts of a frame that does not wait
opened : (S : ℕ → ℕ → Type 0) (K : ℕ → Reservation → Type 0) (n : ℕ) (f : Frame) (fs : List Frame) → f.waits ≡ None
    → AreHeld S K n (f ∷ fs)
    → (n ≤ n) × Each (S n) f.needs × Each (K n) f.reserved × Each (IsBetween fs n) f.reserved × AreHeld S K
    (under f.reserved n) fs
opened S K n f fs free is = subst
    (λ o. (lowest o n ≤ n) × Each (S (lowest o n)) f.needs × Each (K (lowest o n)) f.reserved × Each
    (IsBetween fs (lowest o n)) f.reserved × AreHeld S K (under f.reserved (lowest o n)) fs) free is

closed : (S : ℕ → ℕ → Type 0) (K : ℕ → Reservation → Type 0) (n : ℕ) (f : Frame) (fs : List Frame) → f.waits ≡ None
    → (n ≤ n) × Each (S n) f.needs × Each (K n) f.reserved × Each (IsBetween fs n) f.reserved × AreHeld S K
    (under f.reserved n) fs → AreHeld S K n (f ∷ fs)
closed S K n f fs free is = subst
    (λ o. (lowest o n ≤ n) × Each (S (lowest o n)) f.needs × Each (K (lowest o n)) f.reserved × Each
    (IsBetween fs (lowest o n)) f.reserved × AreHeld S K (under f.reserved (lowest o n)) fs) (sym free) is

each_held : (w : World) (h : ℕ) (ks : List ℕ) → EachHeld w h ks → Each (Holds w h) ks
each_held w h [] is = tt
each_held w h (k ∷ ks) is = (is.0, each_held w h ks is.1)

pub settling_provided : (h : ℕ) (f : Frame) (fs : List Frame) (ks : List ℕ) (w : World) → IsActive (w.handlers h)
    → (w.handlers h).stack ≡ f ∷ fs → EachHeld w h ks → IsConsistent w → IsProvided w → IsProvided (settle h ks w)
settling_provided h f fs ks w active at holds fine provided =
    let g : Handler = record (w.handlers h) {
      stack = relisted (reservations (w.handlers h).stack) ks
          (w.handlers h).stack;
    } in
    let s = relisting_simple h (reservations (w.handlers h).stack) ks w.next w active (omega arith) fine in
    let v = changed h g w.next w in
    let free : f.waits ≡ None = sym (ap waits_for at) ∙ active.1 in
    let moved : AreHeld (IsAssured v h) (KeepsReserved v h) w.next (f ∷ fs) = simple_frames w h g w.next s fine h
    (f ∷ fs) (subst (AreHeld (IsAssured w h) (KeepsReserved w h) w.next) at (provided.held h)) in
    let i = opened (IsAssured v h) (KeepsReserved v h) w.next f fs free moved in
    simple_provided w h (record (w.handlers h) {
      stack = relisted (reservations (w.handlers h).stack) ks
          (w.handlers h).stack;
    }) w.next s fine provided
    (subst (λ t. AreHeld (IsAssured v h) (KeepsReserved v h) w.next (relisted (reservations t) ks t)) (sym at)
    (closed (IsAssured v h) (KeepsReserved v h) w.next (record f { needs = ks }) fs free (
      i.0,
      each_map (Holds w h) (IsAssured v h w.next) ks (λ k o. ⊎_elim
          (λ held. let a = holder_first h (w.queue k) held in inl
          (first_had h a.0 w.next (w.queue k) a.1 (fine.queue_old k h a.0 (first_grant h a.0 (w.queue k) a.1))))
          (λ held. let a = holder_first h (w.top k) held in inr
          (inl (first_had h a.0 w.next (w.top k) a.1 (fine.top_old k h a.0 (first_grant h a.0 (w.top k) a.1)))))
          o) (each_held w h ks holds),
      i.2,
      i.3,
      i.4,
    )))
    (subst (λ t. Falling w.next (all_reserved (relisted (reservations t) ks t))) (sym at)
    (subst (λ t. Falling w.next (all_reserved t)) at (provided.apart h)))

under_same : (r : Reservation) (rs : List Reservation) (n m : ℕ) → under (r ∷ rs) n ≡ under (r ∷ rs) m
under_same r [] n m = refl
under_same r (q ∷ rs) n m = under_same q rs n m

higher : (fs : List Frame) (n m : ℕ) → n ≤ m → (rs : List Reservation) → Each (IsBetween fs n) rs → Each
    (IsBetween fs m) rs
higher fs n m le [] i = tt
higher fs n m le (r ∷ rs) i = ((i.0.0, let lt = i.0.1 in omega (arith, lt, le)), higher fs n m le rs i.1)

pub reserving_provided : (h k : ℕ) (f : Frame) (fs : List Frame) (w : World) → IsActive (w.handlers h)
    → (w.handlers h).stack ≡ f ∷ fs → IsIdle k w → IsConsistent w → IsProvided w → IsProvided (reserve h k w)
reserving_provided h k f fs w active at idle fine provided =
    let new : Reservation = record { handler = k; number = w.next } in
    let g : Handler = record (w.handlers h) {
      stack = relisted (record { handler = k; number = w.next } ∷ reservations (w.handlers h).stack) []
          (w.handlers h).stack;
    } in
    let s = relisting_simple h (record { handler = k; number = w.next } ∷ reservations (w.handlers h).stack) []
    (suc w.next) w active (omega arith) fine in
    let u = changed h g (suc w.next) w in
    let v = reserve h k w in
    let q = put k (record { holder = h; number = w.next } ∷ []) w.queue in
    let free : f.waits ≡ None = sym (ap waits_for at) ∙ active.1 in
    let off : (j : ℕ) → j ≢ k → q j ≡ w.queue j = λ j ne. put-other k
    (record { holder = h; number = w.next } ∷ []) w.queue j ne in
    let had : (p i j : ℕ) → HadBefore p i (w.queue j) → HadBefore p i (q j) = λ p i j. at_each
    (λ y. HadBefore p i (w.queue y) → HadBefore p i (q y)) k j
    (λ x. absurd (subst (HadBefore p i) idle.nobodys x)) (λ ne x. subst (HadBefore p i) (sym (off j ne)) x) in
    let last : (p i n j : ℕ) → HadAlone p i n (w.queue j) → HadAlone p i n (q j) = λ p i n j. at_each
    (λ y. HadAlone p i n (w.queue y) → HadAlone p i n (q y)) k j
    (λ x. absurd (subst (HadAlone p i n) idle.nobodys x)) (λ ne x. subst (HadAlone p i n) (sym (off j ne)) x) in
    let stuck : (p i : ℕ) → IsStuckFrom u p i → IsStuckFrom v p i = λ p i x.
    (x.0, x.1, x.2, stuck_same u q p x.0 x.3) in
    let granted : (p i : ℕ) → Maps (IsAssured u p) (IsAssured v p) (KeepsReserved u p) (KeepsReserved v p) i i =
    λ p i. (
      (λ j a. ⊎_elim (λ x. inl (had p i j x)) (λ o. ⊎_elim (λ x. inr (inl x)) (λ x. inr (inr (stuck p i x))) o) a),
      (λ r a. ⊎_elim (λ x. inl (last p i r.number r.handler x)) (λ x. inr (stuck p i x)) a),
    ) in
    let both : (p i : ℕ) → Maps (IsAssured w p) (IsAssured v p) (KeepsReserved w p) (KeepsReserved v p) i i = λ p i.
    let a = simple_move w h g (suc w.next) s fine p i in let b =
    granted p i in ((λ j x. b.0 j (a.0 j x)), (λ r x. b.1 r (a.1 r x))) in
    let up : Maps (IsAssured w h) (IsAssured v h) (KeepsReserved w h) (KeepsReserved v h) w.next (suc w.next) =
    let a = simple_next w h g (suc w.next) s fine h in let b = granted h
    (suc w.next) in ((λ j x. b.0 j (a.0 j x)), (λ r x. b.1 r (a.1 r x))) in
    let i = opened (IsAssured w h) (KeepsReserved w h) w.next f fs free
    (subst (AreHeld (IsAssured w h) (KeepsReserved w h) w.next) at (provided.held h)) in
    let low : AreHeld (IsAssured v h) (KeepsReserved v h) (under f.reserved w.next) fs = frames_same (IsAssured w h)
    (IsAssured v h) (KeepsReserved w h) (KeepsReserved v h) fs (under f.reserved w.next) (λ n _. both h n) i.4 in
    let here : AreHeld (IsAssured v h) (KeepsReserved v h) (suc w.next)
    (record f { reserved = new ∷ f.reserved; needs = [] } ∷ fs) = closed (IsAssured v h) (KeepsReserved v h)
    (suc w.next) (record f { reserved = new ∷ f.reserved; needs = [] }) fs free (
      omega arith,
      tt,
      (
        inl (subst (HadAlone h (suc w.next) w.next)
            (sym (put-same k (record { holder = h; number = w.next } ∷ []) w.queue))
            (inl (refl, refl, omega arith, refl))),
        each_map (KeepsReserved w h w.next)
            (KeepsReserved v h (suc w.next)) f.reserved up.1 i.2,
      ),
      (
        ((λ m has. fine.waits_old h m (subst (HasWait m) (sym at) (inr has))), omega arith),
        higher fs w.next
            (suc w.next) (omega arith) f.reserved i.3,
      ),
      below h f.reserved low,
    ) in
    record {
      held = λ p. at_each (λ y. AreHeld (IsAssured v y) (KeepsReserved v y) (suc w.next) (v.handlers y).stack) h p
          (subst (λ (t : Handler). AreHeld (IsAssured v h) (KeepsReserved v h) (suc w.next) t.stack)
          (sym (put-same h g w.handlers))
          (subst (λ t. AreHeld (IsAssured v h) (KeepsReserved v h) (suc w.next)
          (relisted (new ∷ reservations t) [] t)) (sym at) here))
          (λ ne. subst (λ (t : Handler). AreHeld (IsAssured v p) (KeepsReserved v p) (suc w.next) t.stack)
          (sym (put-other h g w.handlers p ne))
          (frames_same (IsAssured u p) (IsAssured v p) (KeepsReserved u p) (KeepsReserved v p) (w.handlers p).stack
          (suc w.next) (λ n _. granted p n)
          (simple_frames w h g (suc w.next) s fine p (w.handlers p).stack (provided.held p))));
      apart = λ p. at_each (λ y. Falling (suc w.next) (all_reserved (v.handlers y).stack)) h p
          (subst (λ (t : Handler). Falling (suc w.next) (all_reserved t.stack)) (sym (put-same h g w.handlers))
          (subst (λ t. Falling (suc w.next) (all_reserved (relisted (new ∷ reservations t) [] t))) (sym at)
          (omega arith, subst (λ t. Falling w.next (all_reserved t)) at (provided.apart h))))
          (λ ne. subst (λ (t : Handler). Falling (suc w.next) (all_reserved t.stack))
          (sym (put-other h g w.handlers p ne))
          (falling_later w.next (suc w.next) (all_reserved (w.handlers p).stack) (omega arith)
          (provided.apart p)));
    }
  where
    below : (p : ℕ) (rs : List Reservation) → AreHeld (IsAssured (reserve h k w) p) (KeepsReserved (reserve h k w) p)
        (under rs w.next) fs
        → AreHeld (IsAssured (reserve h k w) p) (KeepsReserved (reserve h k w) p)
        (under (record { handler = k; number = w.next } ∷ rs) (suc w.next)) fs
    below p [] x = x
    below p (r ∷ rs) x = subst (λ j. AreHeld (IsAssured (reserve h k w) p) (KeepsReserved (reserve h k w) p) j fs)
        (under_same r rs w.next (suc w.next)) x

-- the reservations after one of the number n are older
all_older : (n : ℕ) (rs ts : List Reservation) → Falling n (rs ++ ts) → Each (λ r. r.number < n) rs
all_older n [] ts is = tt
all_older n (r ∷ rs) ts is = (
  is.0,
  each_map (λ (x : Reservation). x.number < r.number)
      (λ (x : Reservation). x.number < n) rs (λ x lt. let a = is.0 in omega (arith, a, lt))
      (all_older r.number rs ts is.1),
)

under_older : (n m : ℕ) (r : Reservation) (rs : List Reservation) → Each (λ x. x.number < n) (r ∷ rs) → under
    (r ∷ rs) m ≤ n
under_older n m r [] is = let lt = is.0 in omega (arith, lt)
under_older n m r (q ∷ rs) is = under_older n m q rs is.1

each_both : (P Q R : Reservation → Type 0) (rs : List Reservation) → ((r : Reservation) → P r → Q r → R r) → Each P rs
    → Each Q rs → Each R rs
each_both P Q R [] f a b = tt
each_both P Q R (r ∷ rs) f a b = (f r a.0 b.0, each_both P Q R rs f a.1 b.1)

falling_tail : (n : ℕ) (r : Reservation) (rs ts : List Reservation) → Falling n ((r ∷ rs) ++ ts) → Falling n
    (rs ++ ts)
falling_tail n r rs ts is = falling_later r.number n (rs ++ ts) (let lt = is.0 in omega (arith, lt)) is.1

-- who stands in a trail of one grant
none_else : (h i p n : ℕ) → (p ≡ h → n ≤ i) → HadBefore p n (record { holder = h; number = i } ∷ []) → ⊥
none_else h i p n le (inl a) = absurd (let b = le (sym a.0) in let lt = a.1 in omega (arith, b, lt))
none_else h i p n le (inr a) = a.1

one_number : (h i p n m : ℕ) → i < n → HadAlone p n m (record { holder = h; number = i } ∷ []) → i ≡ m
one_number h i p n m lt (inl a) = a.1
one_number h i p n m lt (inr a) = absurd a.1

pub releasing_provided : (h : ℕ) (r : Reservation) (rs : List Reservation) (f : Frame) (fs : List Frame) (w : World)
    → IsActive (w.handlers h) → (w.handlers h).stack ≡ f ∷ fs → f.reserved ≡ r ∷ rs → IsConsistent w → IsProvided w
    → IsProvided (release h r.handler rs w)
releasing_provided h r rs f fs w active at its fine provided =
    let k = r.handler in
    let g : Handler = record (w.handlers h) { stack = relisted rs [] (w.handlers h).stack } in
    let s = relisting_simple h rs [] w.next w active (omega arith) fine in
    let v = release h r.handler rs w in
    let q = put k [] w.queue in
    let free : f.waits ≡ None = sym (ap waits_for at) ∙ active.1 in
    let own = (subst (Each (λ x. (w.queue x.handler ≡ record { holder = h; number = x.number } ∷ []) ×
    ((m : ℕ) → HasWait m (w.handlers h).stack → m < x.number))) its
    (reserved_is_own w fine provided h f fs active at)).0 in
    let off : (j : ℕ) → j ≢ k → q j ≡ w.queue j = λ j ne. put-other k [] w.queue j ne in
    let stuck : (p i : ℕ) → IsStuckFrom w p i → IsStuckFrom v p i = λ p i x. let y =
    simple_stuck_from w h g w.next s fine p i x
    in (y.0, y.1, y.2, stuck_same (relist h rs [] w.next w) q p y.0 y.3) in
    let had : (p i j : ℕ) → (p ≡ h → i ≤ r.number) → HadBefore p i (w.queue j) → HadBefore p i
    (q j) = λ p i j le. at_each (λ y. HadBefore p i (w.queue y) → HadBefore p i (q y)) k j
    (λ x. absurd (none_else h r.number p i le (subst (HadBefore p i) own.0 x)))
    (λ ne x. subst (HadBefore p i) (sym (off j ne)) x) in
    let last : (p i n j : ℕ) → (p ≡ h → i ≤ r.number) → HadAlone p i n (w.queue j) → HadAlone p i n
    (q j) = λ p i n j le. at_each (λ y. HadAlone p i n (w.queue y) → HadAlone p i n (q y)) k j
    (λ x. absurd (none_else h r.number p i le (subst (HadBefore p i) own.0 (last_had p i n (w.queue k) x))))
    (λ ne x. subst (HadAlone p i n) (sym (off j ne)) x) in
    let maps : (p i : ℕ) → (p ≡ h → i ≤ r.number) → Maps (IsAssured w p) (IsAssured v p) (KeepsReserved w p)
    (KeepsReserved v p) i i = λ p i le. (
      (λ j a. ⊎_elim (λ x. inl (had p i j le x)) (λ o. ⊎_elim (λ x. inr (inl x)) (λ x. inr (inr (stuck p i x))) o) a),
      (λ y a. ⊎_elim (λ x. inl (last p i y.number y.handler le x)) (λ x. inr (stuck p i x)) a),
    ) in
    let i = opened (IsAssured w h) (KeepsReserved w h) w.next f fs free
    (subst (AreHeld (IsAssured w h) (KeepsReserved w h) w.next) at (provided.held h)) in
    let kept = subst (Each (KeepsReserved w h w.next)) its i.2 in
    let between = subst (Each (IsBetween fs w.next)) its i.3 in
    let low = subst (λ x. AreHeld (IsAssured w h) (KeepsReserved w h) (under x w.next) fs) its i.4 in
    let fall : Falling w.next ((r ∷ rs) ++ all_reserved fs) = subst (λ x. Falling w.next (x ++ all_reserved fs)) its
    (subst (λ t. Falling w.next (all_reserved t)) at (provided.apart h)) in
    let older = all_older r.number rs (all_reserved fs) fall.1 in
    let not_hurt_low : IsStuckFrom w h r.number → ⊥ = λ x. absurd
    (let lt = own.1 x.0 x.2 in let le = x.1 in omega (arith, lt, le)) in
    let not_asks : (j lo m : ℕ) → Lends w j h lo m → ⊥ = λ j lo m l. idle_asks (w.handlers h) j lo m active l.0 in
    let old_waits : (t : List Grant) (x m : ℕ) → HasGrant x m t → HasWait m (w.handlers h).stack → m < r.number =
    λ t x m e has. own.1 m has in
    let le : r.number ≤ w.next = (let lt = between.0.1 in omega (arith, lt)) in
    -- below the last reservation the bound rises
    let up : Maps (IsAssured w h) (IsAssured v h) (KeepsReserved w h) (KeepsReserved v h) r.number w.next = (
      (λ j a. ⊎_elim
          (λ x. inl (at_each (λ y. HadBefore h r.number (w.queue y) → HadBefore h w.next (q y)) k j
          (λ z. absurd (none_else h r.number h r.number (λ _. omega arith) (subst (HadBefore h r.number) own.0 z)))
          (λ ne z. subst (HadBefore h w.next) (sym (off j ne))
          (had_again w Nobody h r.number w.next (w.queue j) (fine.queue_trails j) active.0 (λ lo m e. e)
          (old_waits (w.queue j)) le z)) x))
          (λ o. ⊎_elim
          (λ x. inr (inl (had_again w (Lends w j) h r.number w.next (w.top j) (fine.top_trails j) active.0
          (not_asks j) (old_waits (w.top j)) le x)))
          (λ x. absurd (not_hurt_low x))
          o)
          a),
      (λ y a. ⊎_elim
          (λ x. inl (at_each (λ z. HadAlone h r.number y.number (w.queue z) → HadAlone h w.next y.number (q z)) k
          y.handler
          (λ z. absurd (none_else h r.number h r.number (λ _. omega arith)
          (subst (HadBefore h r.number) own.0 (last_had h r.number y.number (w.queue k) z))))
          (λ ne z. subst (HadAlone h w.next y.number) (sym (off y.handler ne))
          (last_again w Nobody h r.number w.next y.number (w.queue y.handler)
          (fine.queue_trails y.handler) active.0 (λ lo m e. e) (old_waits (w.queue y.handler)) le z)) x))
          (λ x. absurd (not_hurt_low x))
          a),
    ) in
    let here : AreHeld (IsAssured v h) (KeepsReserved v h) w.next (record f { reserved = rs; needs = [] } ∷ fs) =
    closed (IsAssured v h) (KeepsReserved v h) w.next (record f { reserved = rs; needs = [] }) fs free (
      omega arith,
      tt,
      each_both (KeepsReserved w h w.next) (λ x. x.number < r.number) (KeepsReserved v h w.next) rs
          (λ y a lt. ⊎_elim
          (λ x. inl (at_each (λ z. HadAlone h w.next y.number (w.queue z) → HadAlone h w.next y.number (q z)) k
          y.handler
          (λ z. absurd (let n = one_number h r.number h w.next y.number between.0.1
          (subst (HadAlone h w.next y.number) own.0 z) in omega (arith, n, lt)))
          (λ ne z. subst (HadAlone h w.next y.number) (sym (off y.handler ne)) z) x))
          (λ x. not_stuck_from w h fine x)
          a) kept.1 older,
      between.1,
      below (IsAssured w h) (IsAssured v h) (KeepsReserved w h) (KeepsReserved v h) rs older le
          (λ n b. maps h n (λ _. b)) up low,
    ) in
    record {
      held = λ p. at_each (λ y. AreHeld (IsAssured v y) (KeepsReserved v y) w.next (v.handlers y).stack) h p
          (subst (λ (t : Handler). AreHeld (IsAssured v h) (KeepsReserved v h) w.next t.stack)
          (sym (put-same h g w.handlers))
          (subst (λ t. AreHeld (IsAssured v h) (KeepsReserved v h) w.next (relisted rs [] t)) (sym at) here))
          (λ ne. subst (λ (t : Handler). AreHeld (IsAssured v p) (KeepsReserved v p) w.next t.stack)
          (sym (put-other h g w.handlers p ne))
          (frames_same (IsAssured w p) (IsAssured v p) (KeepsReserved w p) (KeepsReserved v p)
          (w.handlers p).stack w.next (λ n _. maps p n (λ ph. absurd (ne ph))) (provided.held p)));
      apart = λ p. at_each (λ y. Falling w.next (all_reserved (v.handlers y).stack)) h p
          (subst (λ (t : Handler). Falling w.next (all_reserved t.stack)) (sym (put-same h g w.handlers))
          (subst (λ t. Falling w.next (all_reserved (relisted rs [] t))) (sym at)
          (falling_tail w.next r rs (all_reserved fs) fall)))
          (λ ne. subst (λ (t : Handler). Falling w.next (all_reserved t.stack)) (sym (put-other h g w.handlers p ne))
          (provided.apart p));
    }
  where
    below : (S T : ℕ → ℕ → Type 0) (K J : ℕ → Reservation → Type 0) (rs : List Reservation) → Each
        (λ x. x.number < r.number) rs → r.number ≤ w.next → ((n : ℕ) → n ≤ r.number → Maps S T K J n n)
        → Maps S T K J r.number w.next
        → AreHeld S K (under (r ∷ rs) w.next) fs → AreHeld T J (under rs w.next) fs
    below S T K J [] older le maps up x = frames_rise S T K J fs r.number w.next le maps (λ _. up) x
    below S T K J (y ∷ rs) older le maps up x = frames_same S T K J fs (under (y ∷ rs) w.next)
        (λ n b. maps n (let c = under_older r.number w.next y rs older in omega (arith, b, c))) x

pub releasing_all_keeps : (h : ℕ) (r : Reservation) (rs : List Reservation) (f : Frame) (fs : List Frame) (w : World)
    → IsActive (w.handlers h) → (w.handlers h).stack ≡ f ∷ fs → f.reserved ≡ r ∷ rs → IsProvided w → IsConsistent w
    → IsConsistent (release h r.handler rs w)
releasing_all_keeps h r rs f fs w active at its provided fine =
    let own = (subst (Each (λ x. (w.queue x.handler ≡ record { holder = h; number = x.number } ∷ []) ×
    ((m : ℕ) → HasWait m (w.handlers h).stack → m < x.number))) its
    (reserved_is_own w fine provided h f fs active at)).0 in
    releasing_keeps h r.handler r.number rs w active own.0 own.1 fine
