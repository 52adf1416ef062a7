-- A step of one handler h by which nobody waits anew and no right is got.
use Rattle.std.proofs.Common.{◌≡◌, ◌≢◌, ◌⊎◌, ⊎_elim, inl, inr, ℕ, ◌<◌, ◌≤◌, List, [], ◌∷◌, Some, None, true, false, sym, ap, ◌∙◌, subst, arith}
use Rattle.std.proofs.lemmas.Bool.{cases_eq}
use Rattle.sc_machine_laws.specs.states.World.{Wait, Request, Handler, World, has, requests_of}
use Rattle.sc_machine_laws.specs.states.Steps.{answered, waits_for, IsActive, IsTold}
use Rattle.sc_machine_laws.specs.states.Consistent.{TopsAreAway, HasWait, StackWaits, IsOpen, HasGrant, Lends, Nobody, IsTrail, IsBased, HasPassed, IsOrdered, HadBefore, Stuck, Told, On, IsStuckFrom, IsOne, AreNumbered, HasClient, IsConsistent}
use Rattle.sc_machine_laws.proofs.states.Waits.{true_false, stack_has, wait_of}

abbrev pub CallbackAt : Handler → Type 0
CallbackAt g = (r : Request) → g.callback ≡ Some r → ((m : ℕ) → HasWait m g.stack → m < r.number) × HasPassed g.stack
    × (answered g.answer ≡ false)

pub record Shrinks (w v : World) (h : ℕ) : Type 0 where
  pub lives : (w.handlers h).failed ≡ false
  pub lives_on : (v.handlers h).failed ≡ false
  pub other : (k : ℕ) → k ≢ h → v.handlers k ≡ w.handlers k
  pub later : w.next ≤ v.next
  pub fewer : (u : Wait) → StackWaits u (v.handlers h).stack → StackWaits u (w.handlers h).stack
  pub stuck_kept : (j : ℕ) → HasWait j (w.handlers h).stack → Stuck w h j → HasWait j (v.handlers h).stack
  pub told : IsTold (w.handlers h) → IsTold (v.handlers h)
  pub told_back : IsTold (v.handlers h) → IsTold (w.handlers h) ×
      ((u : Wait) → StackWaits u (w.handlers h).stack → StackWaits u (v.handlers h).stack)
  pub stays : (u : Wait) (j : ℕ) → IsOpen u (w.handlers h) → HasWait j (w.handlers u.target).stack → u.number < j
      → IsOpen u (v.handlers h)
  pub was : (u : Wait) → IsOpen u (v.handlers h) → IsOpen u (w.handlers h)
  pub clear : IsActive (v.handlers h) → (answered (v.handlers h).answer ≡ false) × ((v.handlers h).callback ≡ None)
  pub ordered : IsOrdered (v.handlers h).stack
  pub callbacks : CallbackAt (v.handlers h)
  pub tops : TopsAreAway v
  pub queue_trails : (k : ℕ) → IsTrail v Nobody (v.queue k)
  pub top_trails : (k : ℕ) → IsTrail v (Lends v k) (v.top k)
  pub based : (k : ℕ) → (v.handlers k).failed ≡ false → IsBased (v.handlers k).stack (v.top k)
  pub queue_less : (k x m : ℕ) → HasGrant x m (v.queue k) → HasGrant x m (w.queue k)
  pub top_less : (k x m : ℕ) → HasGrant x m (v.top k) → HasGrant x m (w.top k)
  pub own : (k : ℕ) (u : Wait) → IsOpen u (v.handlers k) → u.passing ≡ true → HasGrant u.target u.number (w.top k)
      → HasGrant u.target u.number (v.top k) ⊎ IsTold (v.handlers k)
  pub had_queue : (p : ℕ) (u : Wait) → StackWaits u (v.handlers p).stack → HadBefore p u.number (w.queue u.target)
      → HadBefore p u.number (v.queue u.target)
  pub had_top : (p : ℕ) (u : Wait) → StackWaits u (v.handlers p).stack → HadBefore p u.number (w.top u.target)
      → HadBefore p u.number (v.top u.target)
  pub spent : (p : ℕ) (u : Wait) → waits_for (v.handlers p).stack ≡ Some u → answered (v.handlers p).answer ≡ true
      → (k x : ℕ) → (HasGrant x u.number (v.queue k) → ⊥) × (HasGrant x u.number (v.top k) → ⊥)
  pub requests : (r : Request) → IsOne r (requests_of (v.handlers h)) → r.waited ≡ true → IsOne r
      (requests_of (w.handlers h)) ⊎ HasClient v h r
  pub client : (k : ℕ) (r : Request) (u : Wait) → IsOne r (requests_of (v.handlers k)) → IsOpen u (w.handlers h)
      → u.number ≡ r.number → u.target ≡ k → IsOpen u (v.handlers h)
  pub numbered : AreNumbered v.next (requests_of (v.handlers h))

-- what is so of h and of all others
pub at_each : (P : ℕ → Type 0) (h k : ℕ) → P h → (k ≢ h → P k) → P k
at_each P h k here there = ⊎_elim (λ e. subst P (sym e) here) there (cases_eq k h)

module _ (w v : World) (h : ℕ) (c : Shrinks w v h) where
  pub grown_failed : (k : ℕ) → (v.handlers k).failed ≡ (w.handlers k).failed
  grown_failed k = at_each (λ y. (v.handlers y).failed ≡ (w.handlers y).failed) h k (c.lives_on ∙ sym c.lives)
      (λ ne. ap (λ (g : Handler). g.failed) (c.other k ne))

  pub less_stack : (k : ℕ) (u : Wait) → StackWaits u (v.handlers k).stack → StackWaits u (w.handlers k).stack
  less_stack k u = at_each (λ y. StackWaits u (v.handlers y).stack → StackWaits u (w.handlers y).stack) h k
      (c.fewer u) (λ ne s. subst (λ g. StackWaits u g.stack) (c.other k ne) s)

  pub less_has : (k m : ℕ) → HasWait m (v.handlers k).stack → HasWait m (w.handlers k).stack
  less_has k m has =
      let r = wait_of m (v.handlers k).stack has in
      subst (λ i. HasWait i (w.handlers k).stack) r.2 (stack_has r.0 (w.handlers k).stack (less_stack k r.0 r.1))

  pub grown_told : (k : ℕ) → IsTold (w.handlers k) → IsTold (v.handlers k)
  grown_told k = at_each (λ y. IsTold (w.handlers y) → IsTold (v.handlers y)) h k c.told
      (λ ne t. subst IsTold (sym (c.other k ne)) t)

  pub less_open : (k : ℕ) (u : Wait) → IsOpen u (v.handlers k) → IsOpen u (w.handlers k)
  less_open k u = at_each (λ y. IsOpen u (v.handlers y) → IsOpen u (w.handlers y)) h k (c.was u)
      (λ ne s. subst (IsOpen u) (c.other k ne) s)

  grown_open : (k j : ℕ) (u : Wait) → HasWait j (w.handlers u.target).stack → u.number < j → IsOpen u (w.handlers k)
      → IsOpen u (v.handlers k)
  grown_open k j u has lt = at_each (λ y. IsOpen u (w.handlers y) → IsOpen u (v.handlers y)) h k
      (λ s. c.stays u j s has lt) (λ ne s. subst (IsOpen u) (sym (c.other k ne)) s)

  grown_wait : (k j : ℕ) → Stuck w k j → HasWait j (w.handlers k).stack → HasWait j (v.handlers k).stack
  grown_wait k j = at_each (λ y. Stuck w y j → HasWait j (w.handlers y).stack → HasWait j (v.handlers y).stack) h k
      (λ s has. c.stuck_kept j has s) (λ ne s has. subst (λ g. HasWait j g.stack) (sym (c.other k ne)) has)

pub grown_stuck : (w v : World) (h : ℕ) → Shrinks w v h → (k m : ℕ) → Stuck w k m → Stuck v k m
grown_stuck w v h c k m (Told is) = Told (grown_told w v h c k is)
grown_stuck w v h c k m (On u j s is has lt below) =
    On u j (grown_open w v h c k j u has (subst (λ i. i < j) (sym is) lt) s) is
    (grown_wait w v h c u.target j below has) lt (grown_stuck w v h c u.target j below)

pub grown_stuck_from : (w v : World) (h : ℕ) → Shrinks w v h → (p n : ℕ) → IsStuckFrom w p n → IsStuckFrom v p n
grown_stuck_from w v h c p n (j, le, has, s) = (j, le, grown_wait w v h c p j s has, grown_stuck w v h c p j s)

grown_client : (w v : World) (h : ℕ) → Shrinks w v h → (k : ℕ) (r : Request) → IsOne r (requests_of (v.handlers k))
    → HasClient w k r → HasClient v k r
grown_client w v h c k r one (inl a) = inl (
  grown_failed w v h c r.poster ∙ a.0,
  (λ q i. a.1 q (less_has w v h c q r.number i)),
  λ j x.
      ((λ i. (a.2 j x).0 (c.queue_less j x r.number i)), (λ i. (a.2 j x).1 (c.top_less j x r.number i))),
)
grown_client w v h c k r one (inr (u, s, num, to, passing, asked)) = inr (
  u,
  at_each (λ y. IsOpen u (w.handlers y) → IsOpen u (v.handlers y)) h r.poster (λ o. c.client k r u one o num to)
      (λ ne o. subst (IsOpen u) (sym (c.other r.poster ne)) o) s,
  num,
  to,
  passing,
  asked,
)

pub numbered_later : (n m : ℕ) (rs : List Request) → n ≤ m → AreNumbered n rs → AreNumbered m rs
numbered_later n m [] le is = tt
numbered_later n m (r ∷ rs) le is = (let lt = is.0 in omega (arith, lt, le), is.1, numbered_later n m rs le is.2)

pub shrinking_keeps : (w v : World) (h : ℕ) → Shrinks w v h → IsConsistent w → IsConsistent v
shrinking_keeps w v h c fine = record {
  tops = c.tops;
  clear = λ k. at_each (λ y. IsActive (v.handlers y) → (answered (v.handlers y).answer ≡ false) ×
      ((v.handlers y).callback ≡ None)) h k c.clear
      (λ ne. subst (λ g. IsActive g → (answered g.answer ≡ false) × (g.callback ≡ None)) (sym (c.other k ne))
      (fine.clear k));
  ordered = λ k. at_each (λ y. IsOrdered (v.handlers y).stack) h k c.ordered
      (λ ne. subst (λ g. IsOrdered g.stack) (sym (c.other k ne)) (fine.ordered k));
  callbacks = λ k. at_each (λ y. CallbackAt (v.handlers y)) h k c.callbacks
      (λ ne. subst CallbackAt (sym (c.other k ne)) (fine.callbacks k));
  queue_trails = c.queue_trails;
  top_trails = c.top_trails;
  based = c.based;
  own_top = λ k u s passing. ⊎_elim
      (λ i. ⊎_elim (λ a. inl a) (λ t. inr (inl t)) (c.own k u s passing i))
      (λ o. inr (⊎_elim
      (λ t. inl (grown_told w v h c k t))
      (λ a. inr (grown_stuck w v h c k u.number a.0, λ x m i. a.1 x m (c.top_less k x m i)))
      o))
      (fine.own_top k u (less_open w v h c k u s) passing);
  queue_grants = λ k p x u s i. fine.queue_grants k p x u (less_stack w v h c p u s) (c.queue_less k x u.number i);
  top_grants = λ k p x u s i. fine.top_grants k p x u (less_stack w v h c p u s) (c.top_less k x u.number i);
  held = λ p u s. ⊎_elim
      (λ a. inl (c.had_queue p u s a))
      (λ o. inr (⊎_elim (λ a. inl (c.had_top p u s a)) (λ a. inr (grown_stuck_from w v h c p u.number a)) o))
      (fine.held p u (less_stack w v h c p u s));
  one_poster = λ a b n i j. fine.one_poster a b n (less_has w v h c a n i) (less_has w v h c b n j);
  waits_old = λ k n i. let lt = fine.waits_old k n (less_has w v h c k n i) in let le = c.later in omega
      (arith, lt, le);
  queue_old = λ k x n i. let lt = fine.queue_old k x n (c.queue_less k x n i) in let le = c.later in omega
      (arith, lt, le);
  top_old = λ k x n i. let lt = fine.top_old k x n (c.top_less k x n i) in let le = c.later in omega (arith, lt, le);
  spent = c.spent;
  plain = λ p u s np k x.
      let a = fine.plain p u (less_stack w v h c p u s) np k x in
      ((λ i. a.0 (c.queue_less k x u.number i)), (λ i. a.1 (c.top_less k x u.number i)));
  dead = λ k u s f. grown_told w v h c k
      (fine.dead k u (less_open w v h c k u s) (sym (grown_failed w v h c u.target) ∙ f));
  failures = λ k. at_each (λ y. (v.handlers y).failed ≡ true → (v.handlers y).stack ≡ []) h k
      (λ f. true_false (sym f ∙ c.lives_on))
      (λ ne. subst (λ g. g.failed ≡ true → g.stack ≡ []) (sym (c.other k ne)) (fine.failures k));
  why_told = λ k. at_each (λ y. IsTold (v.handlers y) → (u : Wait) × StackWaits u (v.handlers y).stack ×
      ((v.handlers u.target).failed ≡ true)) h k
      (λ t. let b = c.told_back t in let r =
      fine.why_told h b.0 in (r.0, b.1 r.0 r.1, grown_failed w v h c r.0.target ∙ r.2))
      (λ ne t. let r = fine.why_told k
      (subst IsTold (c.other k ne) t) in (
        r.0,
        subst (λ g. StackWaits r.0 g.stack)
            (sym (c.other k ne)) r.1,
        grown_failed w v h c r.0.target ∙ r.2,
      ));
  clients = λ k r one waited. at_each (λ y. IsOne r (requests_of (v.handlers y)) → HasClient v y r) h k
      (λ i. ⊎_elim (λ old. grown_client w v h c h r i (fine.clients h r old waited)) (λ new. new)
      (c.requests r i waited))
      (λ ne i. grown_client w v h c k r i
      (fine.clients k r (subst (λ g. IsOne r (requests_of g)) (c.other k ne) i) waited))
      one;
  numbered = λ k. at_each (λ y. AreNumbered v.next (requests_of (v.handlers y))) h k c.numbered
      (λ ne. subst (λ g. AreNumbered v.next (requests_of g)) (sym (c.other k ne))
      (numbered_later w.next v.next (requests_of (w.handlers k)) c.later (fine.numbered k)));
}
