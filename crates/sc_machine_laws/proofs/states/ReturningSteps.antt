-- Steps keep what was listed.
use Rattle.std.proofs.Common.{◌≡◌, ◌≢◌, ◌⊎◌, ⊎_elim, inl, inr, ℕ, suc, List, [], ◌∷◌, Some, None, Bool, true, false, refl, sym, ap, ◌∙◌, subst, arith, Option}
use Rattle.std.proofs.lemmas.Bool.{cases_eq}
use Rattle.std.proofs.lemmas.Bool.Decides.{nat_tests}
use Rattle.std.specs.Prelude.{if◌then◌else◌}
use Rattle.sc_lockpass.specs.Passing.{Passed}
use Rattle.sc_machine_laws.specs.states.World.{Grant, Wait, Request, Handler, World, put, has, passed_on, came_by, without_first, back, passes, requests_of}
use Rattle.sc_machine_laws.specs.states.Consistent.{HasWait, StackWaits, IsOpen, HasGrant, IsStuckFrom, IsOne, IsConsistent}
use Rattle.sc_machine_laws.specs.states.Returns.{IsGranted, ReturnsTo, IsListed, AreListed, IsReturnable}
use Rattle.sc_machine_laws.proofs.states.Rights.{put-same, put-other}
use Rattle.sc_machine_laws.proofs.states.Waits.{true_false, stack_has, same_wait}
use Rattle.sc_machine_laws.proofs.states.Shrinks.{Shrinks, at_each, grown_stuck_from, grown_failed}
use Rattle.sc_machine_laws.proofs.states.Simple.{changed, Simple, simple_shrinks}
use Rattle.sc_machine_laws.proofs.states.AwaitedEnds.{Ended, number_of}

-- ---- one trail

pub granted : (x n : ℕ) (t : List Grant) → HasGrant x n t → IsGranted n t
granted x n [] i = absurd i
granted x n (e ∷ t) (inl i) = inl i.1
granted x n (e ∷ t) (inr i) = inr (granted x n t i)

pub grant_of : (n : ℕ) (t : List Grant) → IsGranted n t → (x : ℕ) × HasGrant x n t
grant_of n [] i = absurd i
grant_of n (e ∷ t) (inl i) = (e.holder, inl (refl, i))
grant_of n (e ∷ t) (inr i) = let r = grant_of n t i in (r.0, inr r.1)

pub returns_granted : (n : ℕ) (o : Option ℕ) (t : List Grant) → ReturnsTo n o t → IsGranted n t
returns_granted n o [] i = absurd i
returns_granted n o (e ∷ t) (inl i) = inl i.0
returns_granted n o (e ∷ t) (inr i) = inr (returns_granted n o t i)

pub listed_more : (n : ℕ) (o : Option (Option ℕ)) (e : Grant) (t : List Grant) → n ≢ e.number → IsListed n o t
    → IsListed n o (e ∷ t)
listed_more n None e t ne i = λ a. ⊎_elim (λ is. ne (sym is)) (λ b. i b) a
listed_more n (Some x) e t ne i = inr i

pub listed_passed : (n h : ℕ) (o : Option (Option ℕ)) (e : Grant) (t : List Grant) → n ≢ e.number → IsListed n o t
    → IsListed n o (passed_on h e t)
listed_passed n h o e t ne i = elim (has h t) as
    (λ b. IsListed n o (if b then e ∷ t else t)) [ true ↦ listed_more n o e t ne i | false ↦ i ]

less_granted : (n : ℕ) (t : List Grant) → IsGranted n (without_first t) → IsGranted n t
less_granted n [] i = i
less_granted n (e ∷ t) i = inr i

less_returns : (n m : ℕ) (o : Option ℕ) (t : List Grant) → n ≢ m → came_by m t ≡ true → ReturnsTo n o t
    → ReturnsTo n o (without_first t)
less_returns n m o [] ne so i = i
less_returns n m o (e ∷ t) ne so (inl i) = absurd
    (let a : e.number ≡ m = grind (arith, nat_tests) in ne (sym i.0 ∙ a))
less_returns n m o (e ∷ t) ne so (inr i) = i

pub listed_back : (n m : ℕ) (o : Option (Option ℕ)) (t : List Grant) → ((x : Option ℕ) → ReturnsTo n x t → n ≢ m)
    → IsListed n o t → IsListed n o (back m t)
listed_back n m o t apart i = by (came_by m t) refl o apart i
  where
    by : (b : Bool) → came_by m t ≡ b → (o : Option (Option ℕ)) → ((x : Option ℕ) → ReturnsTo n x t → n ≢ m)
        → IsListed n o t → IsListed n o (if b then without_first t else t)
    by false so o apart i = i
    by true so None apart i = λ a. i (less_granted n t a)
    by true so (Some x) apart i = less_returns n m x t (apart x i) so i

-- ---- a step of one handler, and of rights by right

pub record Relists (w v : World) : Type 0 where
  pub requests : (k : ℕ) (r : Request) → IsOne r (requests_of (v.handlers k)) → IsOne r (requests_of (w.handlers k)) ⊎
      (((p : Passed) → r.passed ≡ Some p → AreListed v k r p) × (r.waited ≡ false → r.passed ≡ None))
  pub stuck : (k : ℕ) (r : Request) → IsOne r (requests_of (v.handlers k)) → IsStuckFrom w k (suc r.number)
      → IsStuckFrom v k (suc r.number)
  pub queues : (k j : ℕ) (r : Request) (o : Option (Option ℕ)) → IsOne r (requests_of (v.handlers k)) → IsOne r
      (requests_of (w.handlers k)) → r.waited ≡ true → (o ≡ Some None → ⊥)
      → IsListed r.number o (w.queue j) → IsListed r.number o (v.queue j) ⊎ IsStuckFrom v k (suc r.number)
  pub tops : (k j : ℕ) (r : Request) (o : Option (Option ℕ)) → IsOne r (requests_of (v.handlers k)) → IsOne r
      (requests_of (w.handlers k)) → r.waited ≡ true
      → IsListed r.number o (w.top j) → IsListed r.number o (v.top j) ⊎ IsStuckFrom v k (suc r.number)
  pub failures : (k : ℕ) (r : Request) → IsOne r (requests_of (v.handlers k)) → (v.handlers k).failed ≡ true → ⊥

none_some : {A X : Type 0} (x : X) → None ≡ Some x → A
none_some x e = cc

pub relisting_returns : (w v : World) → Relists w v → IsReturnable w → IsReturnable v
relisting_returns w v c is = record {
  listed = λ k r p one passed. ⊎_elim
      (λ old.
      let a = is.listed k r p old passed in
      let waited : r.waited ≡ true = is_waited k r p old passed r.waited refl in
      record {
        queues = λ j. ⊎_elim (λ x. c.queues k j r (p.queue j) one old waited (a.somebodys j) x)
            (λ x. inr (c.stuck k r one x)) (a.queues j);
        tops = λ j. ⊎_elim (λ x. c.tops k j r (p.top j) one old waited x) (λ x. inr (c.stuck k r one x)) (a.tops j);
        somebodys = a.somebodys;
      })
      (λ new. new.0 p passed)
      (c.requests k r one);
  waited = λ k r one not. ⊎_elim (λ old. is.waited k r old not) (λ new. new.1 not) (c.requests k r one);
  failures = c.failures;
}
  where
    is_waited : (k : ℕ) (r : Request) (p : Passed) → IsOne r (requests_of (w.handlers k)) → r.passed ≡ Some p
        → (b : Bool) → r.waited ≡ b → r.waited ≡ true
    is_waited k r p old passed true so = so
    is_waited k r p old passed false so = none_some p (sym (is.waited k r old so) ∙ passed)

-- a step that shrinks one handler's waits and no right
pub shrinking_returns : (w v : World) (h : ℕ) → Shrinks w v h
    → ((k : ℕ) (r : Request) → IsOne r (requests_of (v.handlers k)) → IsOne r (requests_of (w.handlers k)))
    → ((k j : ℕ) (r : Request) (o : Option (Option ℕ)) → IsOne r (requests_of (w.handlers k)) → r.waited ≡ true
    → (o ≡ Some None → ⊥) → IsListed r.number o (w.queue j) → IsListed r.number o (v.queue j))
    → ((k j : ℕ) (r : Request) (o : Option (Option ℕ)) → IsOne r (requests_of (w.handlers k)) → r.waited ≡ true
    → IsListed r.number o (w.top j) → IsListed r.number o (v.top j))
    → IsReturnable w → IsReturnable v
shrinking_returns w v h s less queues tops is = relisting_returns w v (record {
  requests = λ k r one. inl (less k r one);
  stuck = λ k r one x. grown_stuck_from w v h s k (suc r.number) x;
  queues = λ k j r o one old waited some x. inl (queues k j r o old waited some x);
  tops = λ k j r o one old waited x. inl (tops k j r o old waited x);
  failures = λ k r one dead. is.failures k r (less k r one) (sym (grown_failed w v h s k) ∙ dead);
}) is

-- a step that changes one handler, and no right
pub simple_returns : (w : World) (h : ℕ) (g : Handler) (n : ℕ) → IsConsistent w → Simple w h g n
    → ((r : Request) → IsOne r (requests_of g) → IsOne r (requests_of (w.handlers h)) ⊎
    (((p : Passed) → r.passed ≡ Some p → AreListed (changed h g n w) h r p) ×
    (r.waited ≡ false → r.passed ≡ None)))
    → IsReturnable w → IsReturnable (changed h g n w)
simple_returns w h g n fine s new is =
    let v = changed h g n w in
    let here : put h g w.handlers h ≡ g = put-same h g w.handlers in
    let c = simple_shrinks w h g n fine s in
    relisting_returns w v (record {
      requests = λ k r. at_each (λ y. IsOne r (requests_of (v.handlers y)) → IsOne r (requests_of (w.handlers y)) ⊎
          (((p : Passed) → r.passed ≡ Some p → AreListed v y r p) × (r.waited ≡ false → r.passed ≡ None))) h k
          (λ one. new r (subst (λ f. IsOne r (requests_of f)) here one))
          (λ ne one. inl (subst (λ f. IsOne r (requests_of f)) (put-other h g w.handlers k ne) one));
      stuck = λ k r one x. grown_stuck_from w v h c k (suc r.number) x;
      queues = λ k j r o one old waited some x. inl x;
      tops = λ k j r o one old waited x. inl x;
      failures = λ k r. at_each (λ y. IsOne r (requests_of (v.handlers y)) → (v.handlers y).failed ≡ true → ⊥) h k
          (λ one dead. true_false (sym dead ∙ ap (λ (f : Handler). f.failed) here ∙ s.lives_on))
          (λ ne one dead. is.failures k r (subst (λ f. IsOne r (requests_of f)) (put-other h g w.handlers k ne) one)
          (ap (λ (f : Handler). f.failed) (sym (put-other h g w.handlers k ne)) ∙ dead));
    }) is

-- a simple step that brings no waited request
pub quiet_returns : (w : World) (h : ℕ) (g : Handler) (n : ℕ) → IsConsistent w → Simple w h g n
    → ((r : Request) → IsOne r (requests_of g) → IsOne r (requests_of (w.handlers h)) ⊎ (r.passed ≡ None))
    → IsReturnable w → IsReturnable (changed h g n w)
quiet_returns w h g n fine s new is = simple_returns w h g n fine s (λ r one. ⊎_elim
    (λ old. inl old)
    (λ none. inr ((λ p some. none_some p (sym none ∙ some)), (λ not. none)))
    (new r one)) is

-- ---- the end of a request

-- another waited request that lists a right has another number
pub other_number : (h k j : ℕ) (r q : Request) (u : World) → IsConsistent u → Ended h r u → IsOne q
    (requests_of (u.handlers k)) → q.waited ≡ true → (x : ℕ)
    → (HasGrant x q.number (u.queue j) ⊎ HasGrant x q.number (u.top j)) → q.number ≢ r.number
other_number h k j r q u fine e one waited x grant same = ⊎_elim
    (λ kh. e.once (number_of q r.number (requests_of (u.handlers h)) same
    (subst (λ y. IsOne q (requests_of (u.handlers y))) kh one)))
    (λ ne. ⊎_elim
    (λ a. ⊎_elim
    (λ b. ne (⊎_elim (λ i. sym ((b.2 j x).0 i)) (λ i. sym ((b.2 j x).1 i)) grant ∙ ⊎_elim
    (λ i. (a.2 j x).0 (subst (λ m. HasGrant x m (u.queue j)) same i))
    (λ i. (a.2 j x).1 (subst (λ m. HasGrant x m (u.top j)) same i)) grant))
    (λ b. a.1 q.poster (subst (λ m. HasWait m (u.handlers q.poster).stack) (b.2 ∙ same)
    (stack_has b.0 (u.handlers q.poster).stack b.1.0)))
    (fine.clients k q one waited))
    (λ (a : (v : Wait) × IsOpen v (u.handlers r.poster) × (v.number ≡ r.number) × (v.target ≡ h) ×
    (v.passing ≡ passes r) × (v.asked ≡ r.asked)). ⊎_elim
    (λ b. b.1 r.poster (subst (λ m. HasWait m (u.handlers r.poster).stack) (a.2 ∙ sym same)
    (stack_has a.0 (u.handlers r.poster).stack a.1.0)))
    (λ (b : (v : Wait) × IsOpen v (u.handlers q.poster) × (v.number ≡ q.number) × (v.target ≡ k) ×
    (v.passing ≡ passes q) × (v.asked ≡ q.asked)).
    let num : b.0.number ≡ a.0.number = b.2 ∙ same ∙ sym a.2 in
    let pp : q.poster ≡ r.poster = fine.one_poster q.poster r.poster a.0.number
    (subst (λ m. HasWait m (u.handlers q.poster).stack) num (stack_has b.0 (u.handlers q.poster).stack b.1.0))
    (stack_has a.0 (u.handlers r.poster).stack a.1.0) in
    let is = same_wait (u.handlers r.poster).stack (fine.ordered r.poster) b.0 a.0
    (subst (λ y. StackWaits b.0 (u.handlers y).stack) pp b.1.0) a.1.0 num in
    ne (sym b.3 ∙ ap (λ (i : Wait). i.target) is ∙ a.3))
    (fine.clients k q one waited))
    e.client)
    (cases_eq k h)
