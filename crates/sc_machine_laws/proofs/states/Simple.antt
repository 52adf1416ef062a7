-- A step that changes one handler, and no right.
use Rattle.std.proofs.Common.{◌≡◌, ◌≢◌, ◌⊎◌, ⊎_elim, inl, inr, ℕ, ◌≤◌, List, [], ◌∷◌, Some, None, true, false, refl, sym, ap, ◌∙◌, subst, arith}
use Rattle.std.proofs.lemmas.Bool.{cases_eq}
use Rattle.sc_machine_laws.specs.states.World.{passes, Grant, Wait, Request, Frame, Handler, World, put, requests_of}
use Rattle.sc_machine_laws.specs.states.Steps.{answered, waits_for, IsActive, IsTold}
use Rattle.sc_machine_laws.specs.states.Consistent.{IsAway, Asks, IsFirst, HasWait, StackWaits, IsOpen, HasGrant, Lends, Nobody, IsTrail, IsBased, IsOrdered, Stuck, IsOne, AreNumbered, IsConsistent}
use Rattle.sc_machine_laws.proofs.states.Rights.{put-same, put-other}
use Rattle.sc_machine_laws.proofs.states.Waits.{true_false}
use Rattle.sc_machine_laws.proofs.states.Shrinks.{CallbackAt, Shrinks, at_each, shrinking_keeps}

pub trail_move : (w v : World) (L M : ℕ → ℕ → ℕ → Type 0) (t : List Grant)
    → ((d x m : ℕ) → HasGrant x m t → HasWait m (w.handlers d).stack → HasWait m (v.handlers d).stack)
    → ((x lo y m : ℕ) → HasGrant y m t → L x lo m → M x lo m)
    → ((x : ℕ) → (w.handlers x).failed ≡ true → (v.handlers x).failed ≡ true) → IsTrail w L t → IsTrail v M t
trail_move w v L M [] waits lent dead is = tt
trail_move w v L M (e ∷ []) waits lent dead is = tt
trail_move w v L M (e ∷ d ∷ t) waits lent dead is = (
  ⊎_elim (λ h. inl (waits d.holder e.holder e.number (inl (refl, refl)) h))
      (λ o. inr (⊎_elim (λ l. inl (lent d.holder d.number e.holder e.number (inl (refl, refl)) l))
      (λ f. inr (dead d.holder f)) o)) is.0,
  is.1,
  trail_move w v L M (d ∷ t) (λ y x m i. waits y x m (inr i)) (λ x lo y m i. lent x lo y m (inr i)) dead is.2,
)

pub based_move : (fs gs : List Frame) (t : List Grant) → ((x m : ℕ) → HasGrant x m t → HasWait m fs → HasWait m gs)
    → IsBased fs t → IsBased gs t
based_move fs gs [] more is = tt
based_move fs gs (e ∷ []) more is = more e.holder e.number (inl (refl, refl)) is
based_move fs gs (e ∷ d ∷ t) more is = based_move fs gs (d ∷ t) (λ x m i. more x m (inr i)) is

pub asks_later : (g : Handler) (k lo hi n : ℕ) → hi ≤ n → Asks g k lo hi → Asks g k lo n
asks_later g k lo hi n le a = record {
  for = a.for;
  waits = a.waits;
  target = a.target;
  keeps = a.keeps;
  unanswered =
      a.unanswered;
  after = a.after;
  before = let lt = a.before in omega (arith, lt, le);
}

abbrev pub changed : ℕ → Handler → ℕ → World → World
changed h g n w = record w { handlers = put h g w.handlers; next = n }

-- nothing hangs on h's wait j
abbrev pub IsGone : World → ℕ → ℕ → Type 0
IsGone w h j = (Stuck w h j → ⊥) × ((k x : ℕ) → (HasGrant x j (w.queue k) → ⊥) × (HasGrant x j (w.top k) → ⊥))

-- its poster, another, waits for it
abbrev pub IsPosted : World → ℕ → Request → Type 0
IsPosted w h r = (r.poster ≢ h) ×
    ((u : Wait) × IsOpen u (w.handlers r.poster) × (u.number ≡ r.number) × (u.target ≡ h) × (u.passing ≡ passes r) × (u.asked ≡ r.asked))

pub record Simple (w : World) (h : ℕ) (g : Handler) (n : ℕ) : Type 0 where
  pub lives : (w.handlers h).failed ≡ false
  pub lives_on : g.failed ≡ false
  pub later : w.next ≤ n
  pub fewer : (u : Wait) → StackWaits u g.stack → StackWaits u (w.handlers h).stack
  pub kept : (j : ℕ) → HasWait j (w.handlers h).stack → HasWait j g.stack ⊎ IsGone w h j
  pub told : IsTold (w.handlers h) → IsTold g
  pub told_back : IsTold g → IsTold (w.handlers h) ×
      ((u : Wait) → StackWaits u (w.handlers h).stack → StackWaits u g.stack)
  pub stays : (u : Wait) → IsOpen u (w.handlers h) → IsOpen u g
  pub was : (u : Wait) → IsOpen u g → IsOpen u (w.handlers h)
  pub clear : IsActive g → (answered g.answer ≡ false) × (g.callback ≡ None)
  pub ordered : IsOrdered g.stack
  pub callbacks : CallbackAt g
  pub away : IsAway (w.handlers h) → IsAway g ⊎
      ((x i : ℕ) → IsFirst x i (w.top h) → x ≢ h → Asks (w.handlers x) h i w.next ⊎ ((w.handlers x).failed ≡ true))
  pub asks : (k lo hi : ℕ) → Asks (w.handlers h) k lo hi → Asks g k lo hi
  pub spent : (u : Wait) → waits_for g.stack ≡ Some u → answered g.answer ≡ true
      → (waits_for (w.handlers h).stack ≡ Some u) × (answered (w.handlers h).answer ≡ true)
  pub requests : (r : Request) → IsOne r (requests_of g) → IsOne r (requests_of (w.handlers h)) ⊎
      (IsPosted w h r ⊎ ((r.waited ≡ false) × (r.passed ≡ None)))
  pub numbered : AreNumbered n (requests_of g)

module _ (w : World) (h : ℕ) (g : Handler) (n : ℕ) (s : Simple w h g n) where
  at_h : (changed h g n w).handlers h ≡ g
  at_h = put-same h g w.handlers

  off_h : (k : ℕ) → k ≢ h → (changed h g n w).handlers k ≡ w.handlers k
  off_h k ne = put-other h g w.handlers k ne

  moved : (P : Handler → Handler → Type 0) → P (w.handlers h) g → ((f : Handler) → P f f) → (k : ℕ) → P (w.handlers k)
      ((changed h g n w).handlers k)
  moved P here same k = at_each (λ y. P (w.handlers y) ((changed h g n w).handlers y)) h k
      (subst (P (w.handlers h)) (sym at_h) here)
      (λ ne. subst (P (w.handlers k)) (sym (off_h k ne)) (same (w.handlers k)))

  wait_on : (k j : ℕ) → (IsGone w h j → ⊥) → HasWait j (w.handlers k).stack → HasWait j
      ((changed h g n w).handlers k).stack
  wait_on k j not = moved (λ a b. HasWait j a.stack → HasWait j b.stack)
      (λ i. ⊎_elim (λ a. a) (λ a. absurd (not a)) (s.kept j i)) (λ f i. i) k

  failed_on : (k : ℕ) → ((changed h g n w).handlers k).failed ≡ (w.handlers k).failed
  failed_on k = moved (λ a b. b.failed ≡ a.failed) (s.lives_on ∙ sym s.lives) (λ f. refl) k

  asks_on : (x k lo hi : ℕ) → Asks (w.handlers x) k lo hi → Asks ((changed h g n w).handlers x) k lo hi
  asks_on x k lo hi = moved (λ a b. Asks a k lo hi → Asks b k lo hi) (s.asks k lo hi) (λ f a. a) x

pub simple_shrinks : (w : World) (h : ℕ) (g : Handler) (n : ℕ) → IsConsistent w → Simple w h g n → Shrinks w
    (changed h g n w) h
simple_shrinks w h g n fine s =
    let v = changed h g n w in
    let e : put h g w.handlers h ≡ g = at_h w h g n s in
    record {
      lives = s.lives;
      lives_on = ap (λ (f : Handler). f.failed) e ∙ s.lives_on;
      other = off_h w h g n s;
      later = s.later;
      fewer = λ u i. s.fewer u (subst (λ f. StackWaits u f.stack) e i);
      stuck_kept = λ j i st. ⊎_elim (λ a. subst (λ f. HasWait j f.stack) (sym e) a) (λ a. absurd (a.0 st))
          (s.kept j i);
      told = λ t. subst IsTold (sym e) (s.told t);
      told_back = λ t. let r = s.told_back
          (subst IsTold e t) in (r.0, λ u i. subst (λ f. StackWaits u f.stack) (sym e) (r.1 u i));
      stays = λ u j o has lt. subst (IsOpen u) (sym e) (s.stays u o);
      was = λ u o. s.was u (subst (IsOpen u) e o);
      clear = subst (λ f. IsActive f → (answered f.answer ≡ false) × (f.callback ≡ None)) (sym e) s.clear;
      ordered = subst (λ f. IsOrdered f.stack) (sym e) s.ordered;
      callbacks = subst CallbackAt (sym e) s.callbacks;
      tops = λ k x i first ne alive. ⊎_elim
          (λ a. ⊎_elim
          (λ kh. ⊎_elim
          (λ b. inl (subst (λ y. IsAway (v.handlers y)) (sym kh) (subst IsAway (sym e) b)))
          (λ all. inr (⊎_elim
          (λ b. inl (subst (λ y. Asks (v.handlers x) y i n) (sym kh)
          (asks_later (put h g w.handlers x) h i w.next n s.later (asks_on w h g n s x h i w.next b))))
          (λ f. inr (failed_on w h g n s x ∙ f))
          (all x i (subst (λ y. IsFirst x i (w.top y)) kh first) (λ xh. ne (xh ∙ sym kh)))))
          (s.away (subst (λ y. IsAway (w.handlers y)) kh a)))
          (λ nk. inl (subst IsAway (sym (off_h w h g n s k nk)) a))
          (cases_eq k h))
          (λ o. inr (⊎_elim (λ a. inl (asks_later (put h g w.handlers x) k i w.next n s.later
          (asks_on w h g n s x k i w.next a))) (λ f. inr (failed_on w h g n s x ∙ f)) o))
          (fine.tops k x i first ne (sym (failed_on w h g n s k) ∙ alive));
      queue_trails = λ k. trail_move w v Nobody Nobody (w.queue k)
          (λ d x m i has. wait_on w h g n s d m (λ gone. (gone.1 k x).0 i) has) (λ x lo y m i l. l)
          (λ x f. failed_on w h g n s x ∙ f) (fine.queue_trails k);
      top_trails = λ k. trail_move w v (Lends w k) (Lends v k) (w.top k)
          (λ d x m i has. wait_on w h g n s d m (λ gone. (gone.1 k x).1 i) has)
          (λ x lo y m i l. (
            asks_on w h g n s x k lo m l.0,
            ⊎_elim
                (λ a. inl (wait_on w h g n s k m (λ gone. (gone.1 k y).1 i) a))
                (λ f. inr (failed_on w h g n s k ∙ f)) l.1,
          )) (λ x f. failed_on w h g n s x ∙ f) (fine.top_trails k);
      based = λ k alive. based_move (w.handlers k).stack (v.handlers k).stack (w.top k)
          (λ x m i has. wait_on w h g n s k m (λ gone. (gone.1 k x).1 i) has)
          (fine.based k (sym (failed_on w h g n s k) ∙ alive));
      queue_less = λ k x m i. i;
      top_less = λ k x m i. i;
      own = λ k u o p i. inl i;
      had_queue = λ p u i a. a;
      had_top = λ p u i a. a;
      spent = λ p u. at_each (λ y. waits_for (v.handlers y).stack ≡ Some u → answered (v.handlers y).answer ≡ true
          → (k x : ℕ) → (HasGrant x u.number (w.queue k) → ⊥) × (HasGrant x u.number (w.top k) → ⊥)) h p
          (λ at over. let r = s.spent u (ap (λ (f : Handler). waits_for f.stack) (sym e) ∙ at)
          (ap (λ (f : Handler). answered f.answer) (sym e) ∙ over) in fine.spent h u r.0 r.1)
          (λ ne at over. let o = off_h w h g n s p ne in fine.spent p u
          (ap (λ (f : Handler). waits_for f.stack) (sym o) ∙ at)
          (ap (λ (f : Handler). answered f.answer) (sym o) ∙ over));
      requests = λ r i waited. ⊎_elim
          (λ old. inl old)
          (λ new. ⊎_elim
          (λ (a : IsPosted w h r). inr (inr
          (a.1.0, subst (IsOpen a.1.0) (sym (off_h w h g n s r.poster a.0)) a.1.1, a.1.2, a.1.3, a.1.4, a.1.5)))
          (λ not. true_false (sym waited ∙ not.0))
          new)
          (s.requests r (subst (λ f. IsOne r (requests_of f)) e i));
      client = λ k r u one o num to. subst (IsOpen u) (sym e) (s.stays u o);
      numbered = subst (λ f. AreNumbered n (requests_of f)) (sym e) s.numbered;
    }

pub simple_keeps : (w : World) (h : ℕ) (g : Handler) (n : ℕ) → IsConsistent w → Simple w h g n → IsConsistent
    (changed h g n w)
simple_keeps w h g n fine s = shrinking_keeps w (changed h g n w) h (simple_shrinks w h g n fine s) fine
