-- What frames need stays held; what they reserved stays theirs.
use Rattle.std.proofs.Common.{◌≡◌, ⊎_elim, inl, inr, ℕ, ◌<◌, ◌≤◌, List, [], ◌∷◌, Option, Some, None, refl, sym, ap, ◌∙◌, subst, arith}
use Rattle.sc_machine_laws.specs.states.World.{Grant, Reservation, Wait, Frame, Handler, World, holder}
use Rattle.sc_machine_laws.specs.states.Steps.{waits_for, IsActive}
use Rattle.sc_machine_laws.specs.states.Consistent.{HasWait, HasGrant, HadBefore, IsStuckFrom, IsConsistent}
use Rattle.sc_machine_laws.specs.states.Provided.{lowest, Each, HadAlone, IsAssured, KeepsReserved, IsBetween, under, AreHeld, all_reserved, Falling, IsProvided}
use Rattle.sc_machine_laws.proofs.states.Rights.{put-same, put-other}
use Rattle.sc_machine_laws.proofs.states.Waits.{no_wait}
use Rattle.sc_machine_laws.proofs.states.Shrinks.{at_each, grown_stuck_from}
use Rattle.sc_machine_laws.proofs.states.Simple.{Simple, changed, simple_shrinks}

pub each_map : {X : Type 0} (P Q : X → Type 0) (xs : List X) → ((x : X) → P x → Q x) → Each P xs → Each Q xs
each_map P Q [] f is = tt
each_map P Q (x ∷ xs) f is = (f x is.0, each_map P Q xs f is.1)

pub under_least : (fs : List Frame) (n : ℕ) (rs : List Reservation) → Each (IsBetween fs n) rs → under rs n ≤ n
under_least fs n [] is = omega arith
under_least fs n (r ∷ []) is = let lt = is.0.1 in omega (arith, lt)
under_least fs n (r ∷ q ∷ rs) is = under_least fs n (q ∷ rs) is.1

-- what is so of one bound, with another bound or in another world
abbrev pub Maps : (ℕ → ℕ → Type 0) → (ℕ → ℕ → Type 0) → (ℕ → Reservation → Type 0) → (ℕ → Reservation → Type 0) → ℕ
    → ℕ → Type 0
Maps S T K J n m = ((k : ℕ) → S n k → T m k) × ((r : Reservation) → K n r → J m r)

-- no bound that occurs is above n
pub frames_same : (S T : ℕ → ℕ → Type 0) (K J : ℕ → Reservation → Type 0) (fs : List Frame) (n : ℕ)
    → ((i : ℕ) → i ≤ n → Maps S T K J i i) → AreHeld S K n fs → AreHeld T J n fs
frames_same S T K J [] n maps is = tt
frames_same S T K J (f ∷ fs) n maps is =
    let b = lowest f.waits n in
    let t = maps b is.0 in (
      is.0,
      each_map (S b) (T b) f.needs t.0 is.1,
      each_map (K b) (J b) f.reserved t.1 is.2,
      is.3,
      frames_same S T K J fs (under f.reserved b)
          (λ i le. maps i (let a = is.0 in let c = under_least fs b f.reserved is.3 in omega (arith, a, c, le))) is.4,
    )

-- the bound of the frames on top rises
pub frames_rise : (S T : ℕ → ℕ → Type 0) (K J : ℕ → Reservation → Type 0) (fs : List Frame) (n m : ℕ) → n ≤ m
    → ((i : ℕ) → i ≤ n → Maps S T K J i i) → (waits_for fs ≡ None → Maps S T K J n m) → AreHeld S K n fs
    → AreHeld T J m fs
frames_rise S T K J [] n m le maps top is = tt
frames_rise S T K J (f ∷ fs) n m le maps top is = by f.waits top is (λ t. frames_rise S T K J fs n m le maps (λ _. t))
  where
    higher : (rs : List Reservation) → Each (IsBetween fs n) rs → Each (IsBetween fs m) rs
    higher [] i = tt
    higher (r ∷ rs) i = ((i.0.0, let lt = i.0.1 in omega (arith, lt, le)), higher rs i.1)

    rest : (rs : List Reservation) → Each (IsBetween fs n) rs → AreHeld S K (under rs n) fs
        → (AreHeld S K n fs → AreHeld T J m fs) → AreHeld T J (under rs m) fs
    rest [] i a up = up a
    rest (r ∷ rs) i a up = subst (λ j. AreHeld T J j fs) (same r rs)
        (frames_same S T K J fs (under (r ∷ rs) n)
        (λ j b. maps j (let c = under_least fs n (r ∷ rs) i in omega (arith, b, c))) a)
      where
        same : (r : Reservation) (rs : List Reservation) → under (r ∷ rs) n ≡ under (r ∷ rs) m
        same r [] = refl
        same r (q ∷ rs) = same q rs

    by : (o : Option Wait) → (o ≡ None → Maps S T K J n m)
        → (lowest o n ≤ n) × Each (S (lowest o n)) f.needs × Each (K (lowest o n)) f.reserved × Each
        (IsBetween fs (lowest o n)) f.reserved × AreHeld S K (under f.reserved (lowest o n)) fs
        → (Maps S T K J n m → AreHeld S K n fs → AreHeld T J m fs)
        → (lowest o m ≤ m) × Each (T (lowest o m)) f.needs × Each (J (lowest o m)) f.reserved × Each
        (IsBetween fs (lowest o m)) f.reserved × AreHeld T J (under f.reserved (lowest o m)) fs
    by None top i up = let t = top refl in (
      omega arith,
      each_map (S n) (T m) f.needs t.0 i.1,
      each_map (K n)
          (J m) f.reserved t.1 i.2,
      higher f.reserved i.3,
      rest f.reserved i.3 i.4 (up t),
    )
    by (Some v) top i up =
        let a = i.0 in
        let t = maps v.number a in (
          omega (arith, a, le),
          each_map (S v.number) (T v.number) f.needs t.0 i.1,
          each_map (K v.number) (J v.number) f.reserved t.1 i.2,
          i.3,
          frames_same S T K J fs (under f.reserved v.number)
              (λ j b. maps j (let c = under_least fs v.number f.reserved i.3 in omega (arith, a, b, c))) i.4,
        )

pub had_later : (p n m : ℕ) (t : List Grant) → ((x i : ℕ) → HasGrant x i t → i < n) → n ≤ m → HadBefore p n t
    → HadBefore p m t
had_later p n m [] old le had = absurd had
had_later p n m (e ∷ t) old le (inl a) = inl (a.0, let lt = a.1 in omega (arith, lt, le))
had_later p n m (e ∷ t) old le (inr a) = absurd
    (let lt = old e.holder e.number (inl (refl, refl)) in let b = a.0 in omega (arith, lt, b))

pub last_later : (p n m i : ℕ) (t : List Grant) → ((x i : ℕ) → HasGrant x i t → i < n) → n ≤ m → HadAlone p n i t
    → HadAlone p m i t
last_later p n m i [] old le had = absurd had
last_later p n m i (e ∷ t) old le (inl a) = inl (a.0, a.1, (let lt = a.2 in omega (arith, lt, le)), a.3)
last_later p n m i (e ∷ t) old le (inr a) = absurd
    (let lt = old e.holder e.number (inl (refl, refl)) in let b = a.0 in omega (arith, lt, b))

pub not_stuck_from : {A : Type 0} (w : World) (p : ℕ) → IsConsistent w → IsStuckFrom w p w.next → A
not_stuck_from w p fine stuck = absurd
    (let lt = fine.waits_old p stuck.0 stuck.2 in let le = stuck.1 in omega (arith, lt, le))

pub had_holder : (p n : ℕ) (t : List Grant) → ((x i : ℕ) → HasGrant x i t → i < n) → HadBefore p n t
    → holder t ≡ Some p
had_holder p n [] old had = absurd had
had_holder p n (e ∷ t) old (inl a) = ap Some a.0
had_holder p n (e ∷ t) old (inr a) = absurd
    (let lt = old e.holder e.number (inl (refl, refl)) in let b = a.0 in omega (arith, lt, b))

last_only : (p n i : ℕ) (t : List Grant) → ((x j : ℕ) → HasGrant x j t → j < n) → HadAlone p n i t
    → t ≡ record { holder = p; number = i } ∷ []
last_only p n i [] old had = absurd had
last_only p n i (e ∷ t) old (inl a) = whole e t a.0 a.1 a.3
  where
    whole : (e : Grant) (t : List Grant) → e.holder ≡ p → e.number ≡ i → t ≡ []
        → e ∷ t ≡ record { holder = p; number = i } ∷ []
    whole e t a b c = ap (λ x. record { holder = x; number = e.number } ∷ t) a ∙ ap
        (λ x. record { holder = p; number = x } ∷ t) b ∙ ap (λ x. record { holder = p; number = i } ∷ x) c
last_only p n i (e ∷ t) old (inr a) = absurd
    (let lt = old e.holder e.number (inl (refl, refl)) in let b = a.0 in omega (arith, lt, b))

-- what the top frame of a handler that goes on has reserved is its own, and newer than all that it waits for
pub reserved_is_own : (w : World) → IsConsistent w → IsProvided w → (p : ℕ) (f : Frame) (fs : List Frame) → IsActive
    (w.handlers p) → (w.handlers p).stack ≡ f ∷ fs
    → Each (λ r. (w.queue r.handler ≡ record { holder = p; number = r.number } ∷ []) ×
    ((m : ℕ) → HasWait m (w.handlers p).stack → m < r.number)) f.reserved
reserved_is_own w fine provided p f fs active at =
    let is : AreHeld (IsAssured w p) (KeepsReserved w p) w.next (f ∷ fs) = subst
    (AreHeld (IsAssured w p) (KeepsReserved w p) w.next) at (provided.held p) in
    let free : f.waits ≡ None = sym (ap waits_for at) ∙ active.1 in
    both f.reserved (subst (λ o. Each (KeepsReserved w p (lowest o w.next)) f.reserved) free is.2)
    (subst (λ o. Each (IsBetween fs (lowest o w.next)) f.reserved) free is.3) free
  where
    lower : (m : ℕ) → f.waits ≡ None → HasWait m (w.handlers p).stack → HasWait m fs
    lower m free has = ⊎_elim (λ i. no_wait m f.waits free i) (λ i. i) (subst (HasWait m) at has)

    both : (rs : List Reservation) → Each (KeepsReserved w p w.next) rs → Each (IsBetween fs w.next) rs
        → f.waits ≡ None → Each (λ r. (w.queue r.handler ≡ record { holder = p; number = r.number } ∷ []) ×
        ((m : ℕ) → HasWait m (w.handlers p).stack → m < r.number)) rs
    both [] a b free = tt
    both (r ∷ rs) a b free = (
      (
        ⊎_elim
            (λ l. last_only p w.next r.number (w.queue r.handler) (fine.queue_old r.handler) l)
            (λ stuck. not_stuck_from w p fine stuck) a.0,
        λ m has. b.0.0 m (lower m free has),
      ),
      both rs a.1 b.1 free,
    )

pub falling_later : (n m : ℕ) (rs : List Reservation) → n ≤ m → Falling n rs → Falling m rs
falling_later n m [] le is = tt
falling_later n m (r ∷ rs) le is = (let lt = is.0 in omega (arith, lt, le), is.1)

-- a step that changes one handler, and no right
module _ (w : World) (h : ℕ) (g : Handler) (n : ℕ) (s : Simple w h g n) (fine : IsConsistent w) where
  pub simple_stuck_from : (p m : ℕ) → IsStuckFrom w p m → IsStuckFrom (changed h g n w) p m
  simple_stuck_from p m stuck = grown_stuck_from w (changed h g n w) h (simple_shrinks w h g n fine s) p m stuck

  pub simple_move : (p m : ℕ) → ((k : ℕ) → IsAssured w p m k → IsAssured (changed h g n w) p m k) ×
      ((r : Reservation) → KeepsReserved w p m r → KeepsReserved (changed h g n w) p m r)
  simple_move p m = (
    (λ k a. ⊎_elim (λ b. inl b) (λ o. ⊎_elim (λ b. inr (inl b)) (λ stuck. inr (inr (simple_stuck_from p m stuck))) o)
        a),
    (λ r a. ⊎_elim (λ b. inl b) (λ stuck. inr (simple_stuck_from p m stuck)) a),
  )

  pub simple_next : (p : ℕ) → ((k : ℕ) → IsAssured w p w.next k → IsAssured (changed h g n w) p n k) ×
      ((r : Reservation) → KeepsReserved w p w.next r → KeepsReserved (changed h g n w) p n r)
  simple_next p = (
    (λ k a. ⊎_elim (λ b. inl (had_later p w.next n (w.queue k) (fine.queue_old k) s.later b))
        (λ o. ⊎_elim (λ b. inr (inl (had_later p w.next n (w.top k) (fine.top_old k) s.later b)))
        (λ stuck. not_stuck_from w p fine stuck) o) a),
    (λ r a. ⊎_elim (λ b. inl (last_later p w.next n r.number (w.queue r.handler)
        (fine.queue_old r.handler) s.later b)) (λ stuck. not_stuck_from w p fine stuck) a),
  )

  pub simple_frames : (p : ℕ) (fs : List Frame) → AreHeld (IsAssured w p) (KeepsReserved w p) w.next fs → AreHeld
      (IsAssured (changed h g n w) p) (KeepsReserved (changed h g n w) p) n fs
  simple_frames p fs is = frames_rise (IsAssured w p) (IsAssured (changed h g n w) p) (KeepsReserved w p)
      (KeepsReserved (changed h g n w) p) fs w.next n s.later (λ i _. simple_move p i) (λ _. simple_next p) is

  pub simple_provided : IsProvided w → AreHeld (IsAssured (changed h g n w) h)
      (KeepsReserved (changed h g n w) h) n g.stack → Falling n (all_reserved g.stack) → IsProvided (changed h g n w)
  simple_provided provided here apart = record {
    held = λ p. at_each (λ y. AreHeld (IsAssured (changed h g n w) y) (KeepsReserved (changed h g n w) y) n
        ((changed h g n w).handlers y).stack) h p
        (subst (λ f. AreHeld (IsAssured (changed h g n w) h) (KeepsReserved (changed h g n w) h) n f.stack)
        (sym (put-same h g w.handlers)) here)
        (λ ne. subst (λ f. AreHeld (IsAssured (changed h g n w) p) (KeepsReserved (changed h g n w) p) n f.stack)
        (sym (put-other h g w.handlers p ne)) (simple_frames p (w.handlers p).stack (provided.held p)));
    apart = λ p. at_each (λ y. Falling n (all_reserved ((changed h g n w).handlers y).stack)) h p
        (subst (λ f. Falling n (all_reserved f.stack)) (sym (put-same h g w.handlers)) apart)
        (λ ne. subst (λ f. Falling n (all_reserved f.stack)) (sym (put-other h g w.handlers p ne))
        (falling_later w.next n (all_reserved (w.handlers p).stack) s.later (provided.apart p)));
  }
