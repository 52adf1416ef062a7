-- An ask keeps what was listed, and one with passing lists what it passes; a failure drops it, or leaves its target
-- stuck.
use Rattle.std.proofs.Common.{◌≡◌, ◌≢◌, ◌⊎◌, ⊎_elim, inl, inr, ℕ, suc, List, [], ◌∷◌, Some, None, Bool, true, false, ◌==◌, refl, sym, ap, ◌∙◌, subst, arith, Option}
use Rattle.std.specs.Prelude.{if◌then◌else◌}
use Rattle.sc_lockpass.specs.Passing.{Passed, listed, passed_by}
use Rattle.sc_machine_laws.specs.states.World.{Grant, Wait, Request, Handler, World, holder, has, rights_of, passed_on, fallen, passes, requests_of, and_this, and_begun, arrive, request, land, ask, ask_passing}
use Rattle.sc_machine_laws.specs.states.Steps.{MayAsk, MayFail}
use Rattle.sc_machine_laws.specs.states.Consistent.{IsOpen, HasGrant, Lends, Nobody, IsTrail, IsStuckFrom, IsOne, IsConsistent}
use Rattle.sc_machine_laws.specs.states.Returns.{IsGranted, ReturnsTo, IsListed, AreListed, IsReturnable}
use Rattle.sc_machine_laws.proofs.states.Forms.{fail_by_waits}
use Rattle.sc_machine_laws.proofs.states.Rights.{put-same, put-other}
use Rattle.sc_machine_laws.proofs.states.Waits.{true_false}
use Rattle.sc_machine_laws.proofs.states.Shrinks.{at_each, grown_stuck_from}
use Rattle.sc_machine_laws.proofs.states.Simple.{Simple, simple_shrinks}
use Rattle.sc_machine_laws.proofs.states.PostedRequests.{one_end, requests_end, not_numbered}
use Rattle.sc_machine_laws.proofs.states.AwaitedEnds.{number_of}
use Rattle.sc_machine_laws.proofs.states.Arrivals.{Lands, CallsBack, landing_queue_simple, landing_callback_simple}
use Rattle.sc_machine_laws.proofs.states.Posters.{began, began_failed, began_requests, more_has, more_stuck}
use Rattle.sc_machine_laws.proofs.states.Asks.{lands, plain_calls, plain_began, passing_queue, passing_top, by_top, passing_calls, passing_began}
use Rattle.sc_machine_laws.proofs.states.Failures.{LendsWell, IsKnown, sunk_below, fail-here, fail_kept, stuck_from_on, queue_known, top_known, nobody_well, lends_well}
use Rattle.sc_machine_laws.proofs.states.FailureSteps.{fallen_sub, requests_same}
use Rattle.sc_machine_laws.proofs.states.ReturningSteps.{granted, grant_of, returns_granted, listed_more, listed_passed, relisting_returns}

-- ---- asking

pub arrived : (b : Bool) (r q : Request) (g : Handler) → (b ≡ true → g.callback ≡ None) → IsOne q
    (requests_of (arrive b r g)) → IsOne q (requests_of g) ⊎ (r ≡ q)
arrived true r q g free (inl e) = inr e
arrived true r q g free (inr i) = inl
    (subst (λ c. IsOne q (and_this c (and_begun g.stack g.requests))) (sym (free refl)) i)
arrived false r q g free i = one_end q r (requests_of g) (subst (IsOne q) (requests_end g r) i)

landed : (b : Bool) (k : ℕ) (r : Request) (u : World) → Lands k r u → (b ≡ true → CallsBack k r u) → IsConsistent u
    → Simple u k (arrive b r (u.handlers k)) u.next
landed true k r u l c fine = landing_callback_simple k r u l (c refl) fine
landed false k r u l c fine = landing_queue_simple k r u l fine

asked_returns : (h k : ℕ) (b : Bool) (q t : ℕ → List Grant) (w : World) (may : MayAsk h k w) → IsConsistent w
    → IsConsistent (began h k b q t w) → (c : Bool) → (c ≡ true → CallsBack k (request h b w) (began h k b q t w))
    → ((n : ℕ) (o : Option (Option ℕ)) (j : ℕ) → n ≢ w.next → (IsListed n o (w.queue j) → IsListed n o (q j)) ×
    (IsListed n o (w.top j) → IsListed n o (t j)))
    → ((p : Passed) → (request h b w).passed ≡ Some p → (j : ℕ) → (IsListed w.next (p.queue j) (q j)) ×
    (IsListed w.next (p.top j) (t j)) × (p.queue j ≡ Some None → ⊥))
    → IsReturnable w → IsReturnable (land c k (request h b w) (began h k b q t w))
asked_returns h k b q t w may fine began_fine c calls old new is =
    let u = began h k b q t w in
    let r = request h b w in
    let v = land c k r u in
    let l = lands h k b q t w may fine in
    let s = simple_shrinks u k (arrive c r (u.handlers k)) u.next began_fine (landed c k r u l calls began_fine) in
    let there : v.handlers k ≡ arrive c r (u.handlers k) = put-same k (arrive c r (u.handlers k)) u.handlers in
    let other_old : (j : ℕ) (i : Request) → IsOne i (requests_of (w.handlers j)) → i.number ≢ w.next =
    λ j i one e. not_numbered w.next w.next (requests_of (w.handlers j)) (fine.numbered j) (omega arith)
    (number_of i w.next (requests_of (w.handlers j)) e one) in
    relisting_returns w v (record {
      requests = λ j i. at_each (λ y. IsOne i (requests_of (v.handlers y)) → IsOne i (requests_of (w.handlers y)) ⊎
          (((p : Passed) → i.passed ≡ Some p → AreListed v y i p) × (i.waited ≡ false → i.passed ≡ None))) k j
          (λ one. ⊎_elim
          (λ before. inl (subst (IsOne i) (began_requests h k b q t w may k) before))
          (λ e. inr (subst (λ (z : Request). ((p : Passed) → z.passed ≡ Some p → AreListed v k z p) ×
          (z.waited ≡ false → z.passed ≡ None)) e (
            (λ p some. record {
              queues = λ y. inl (new p some y).0;
              tops = λ y. inl (new p some y).1;
              somebodys = λ y.
                  (new p some y).2;
            }),
            λ not. true_false not,
          )))
          (arrived c r i (u.handlers k) (λ so. (calls so).away.no_callback)
          (subst (λ f. IsOne i (requests_of f)) there one)))
          (λ ne one. inl (subst (IsOne i) (began_requests h k b q t w may j)
          (subst (λ f. IsOne i (requests_of f)) (put-other k (arrive c r (u.handlers k)) u.handlers j ne) one)));
      stuck = λ j i one x. grown_stuck_from u v k s j (suc i.number)
          (x.0, x.1, more_has h k b q t w may j x.0 x.2, more_stuck h k b q t w may fine j x.0 x.3);
      queues = λ y j i o one before waited some x. inl ((old i.number o j (other_old y i before)).0 x);
      tops = λ y j i o one before waited x. inl ((old i.number o j (other_old y i before)).1 x);
      failures = λ j i. at_each (λ y. IsOne i (requests_of (v.handlers y)) → (v.handlers y).failed ≡ true → ⊥) k j
          (λ one dead. true_false (sym dead ∙ ap (λ (f : Handler). f.failed) there ∙ living c r
          (u.handlers k) l.lives))
          (λ ne one dead.
          let same = put-other k (arrive c r (u.handlers k)) u.handlers j ne in
          is.failures j i (subst (IsOne i) (began_requests h k b q t w may j)
          (subst (λ f. IsOne i (requests_of f)) same one))
          (sym (began_failed h k b q t w may j) ∙ ap (λ (f : Handler). f.failed) (sym same) ∙ dead));
    }) is
  where
    living : (c : Bool) (r : Request) (g : Handler) → g.failed ≡ false → (arrive c r g).failed ≡ false
    living true r g e = e
    living false r g e = e

none_some : {A X : Type 0} (x : X) → None ≡ Some x → A
none_some x e = cc

some_passed : (p q : Passed) → Some p ≡ Some q → p ≡ q
some_passed p q e = cc

pub asking_returns : (h k : ℕ) (w : World) → MayAsk h k w → IsConsistent w → IsReturnable w → IsReturnable (ask h k w)
asking_returns h k w may fine is =
    asked_returns h k false w.queue w.top w may fine (plain_began h k w may fine) (has h (w.top k))
    (plain_calls h k w may fine) (λ n o j ne. ((λ x. x), (λ x. x))) (λ p some. none_some p some) is

-- a right that is passed is listed, with its holder before
listed_now : (h n : ℕ) (e : Grant) (t : List Grant) → e.number ≡ n → (IsGranted n t → ⊥) → IsListed n
    (listed h (holder t)) (passed_on h e t)
listed_now h n e t is new = elim (has h t) as
    (λ b. IsListed n (if b then Some (holder t) else None) (if b then e ∷ t else t))
    [ true ↦ inl (is, refl) | false ↦ new ]

-- and that is somebody
listed_some : (h : ℕ) (o : Option ℕ) → listed h o ≡ Some None → ⊥
listed_some h None e = none_some None e
listed_some h (Some x) e = by (x == h) e
  where
    inner : {A : Type 0} → Some (Some x) ≡ Some None → A
    inner e = cc

    by : (b : Bool) → (if b then Some (Some x) else None) ≡ Some None → ⊥
    by true e = inner e
    by false e = none_some None e

pub asking_passing_returns : (h k : ℕ) (w : World) → MayAsk h k w → IsConsistent w → IsReturnable w → IsReturnable
    (ask_passing h k w)
asking_passing_returns h k w may fine is =
    let e : Grant = record { holder = k; number = w.next } in
    let no_queue : (j : ℕ) → IsGranted w.next (w.queue j) → ⊥ = λ j g. let x = grant_of w.next (w.queue j) g in absurd
    (let lt = fine.queue_old j x.0 w.next x.1 in omega (arith, lt)) in
    let no_top : (j : ℕ) → IsGranted w.next (w.top j) → ⊥ = λ j g. let x = grant_of w.next (w.top j) g in absurd
    (let lt = fine.top_old j x.0 w.next x.1 in omega (arith, lt)) in
    asked_returns h k true (passing_queue h k w) (passing_top h k w) w may fine (passing_began h k w may fine)
    (has h (w.top k)) (passing_calls h k w may fine)
    (λ n o j ne. (
      (λ x. listed_passed n h o e (w.queue j) ne x),
      (λ x. by_top (IsListed n o) h k w j (λ jh. listed_more n o e (w.top j) ne x)
          (λ nh. listed_passed n h o e (w.top j) ne x)),
    ))
    (λ p some j. subst (λ (z : Passed). (IsListed w.next (z.queue j) (passing_queue h k w j)) ×
    (IsListed w.next (z.top j) (passing_top h k w j)) × (z.queue j ≡ Some None → ⊥))
    (some_passed (passed_by h (rights_of w)) p some) (
      listed_now h w.next e (w.queue j) refl (no_queue j),
      own_top j (j == h) (no_top j),
      listed_some h (holder (w.queue j)),
    )) is
  where
    own_top : (j : ℕ) (b : Bool) → (IsGranted w.next (w.top j) → ⊥)
        → IsListed w.next (if b then Some (holder (w.top j)) else listed h (holder (w.top j)))
        (if b then record { holder = k; number = w.next } ∷ w.top j else passed_on h
        (record { holder = k; number = w.next }) (w.top j))
    own_top j true new = inl (refl, refl)
    own_top j false new = listed_now h w.next (record { holder = k; number = w.next }) (w.top j) refl new

-- ---- failure

-- whoever got a right by the request n is stuck since, when the right falls
fallen_listed : (h : ℕ) (w : World) → IsConsistent w → (L : ℕ → ℕ → ℕ → Type 0) → LendsWell h w L → (t : List Grant)
    → IsKnown w t → IsTrail w L t
    → (k n : ℕ) (o : Option (Option ℕ)) → k ≢ h → (w.handlers k).failed ≡ false → ((x : ℕ) → HasGrant x n t → x ≡ k)
    → IsListed n o t → IsListed n o (fallen h t) ⊎ IsStuckFrom (fail_by_waits h w) k (suc n)
fallen_listed h w fine L well t known is k n None ne alive only a = inl
    (λ g. a (let x = grant_of n (fallen h t) g in granted x.0 n t (fallen_sub h x.0 n t x.1)))
fallen_listed h w fine L well t known is k n (Some o) ne alive only a = by (has h t) refl
  where
    by : (b : Bool) → has h t ≡ b → ReturnsTo n o (if b then [] else t) ⊎ IsStuckFrom (fail_by_waits h w) k (suc n)
    by false so = inl a
    by true so =
        let x = grant_of n t (returns_granted n o t a) in
        inr (sunk_below h w fine L well t known is so k n ne alive (subst (λ y. HasGrant y n t) (only x.0 x.1) x.1))

pub failing_returns : (h : ℕ) (w : World) → MayFail h w → IsConsistent w → IsReturnable w → IsReturnable
    (fail_by_waits h w)
failing_returns h w may fine is = relisting_returns w (fail_by_waits h w) (record {
  requests = λ k r one. inl (old k r one);
  stuck = λ k r one x. stuck_from_on h w k (suc r.number) (not_h k r one) x;
  queues = λ k j r o one before waited some x.
      fallen_listed h w fine Nobody (nobody_well h w) (w.queue j) (queue_known w fine j)
      (fine.queue_trails j) k r.number o (not_h k r one) (alive k r before (w.handlers k).failed refl)
      (λ y g. (only k r before waited j y).0 g) x;
  tops = λ k j r o one before waited x.
      fallen_listed h w fine (Lends w j) (lends_well h w fine j) (w.top j) (top_known w fine j)
      (fine.top_trails j) k r.number o (not_h k r one) (alive k r before (w.handlers k).failed refl)
      (λ y g. (only k r before waited j y).1 g) x;
  failures = λ k r one dead. is.failures k r (old k r one) (sym (fail_kept h w k (not_h k r one)).failed ∙ dead);
}) is
  where
    not_h : (k : ℕ) (r : Request) → IsOne r (requests_of ((fail_by_waits h w).handlers k)) → k ≢ h
    not_h k r one e = subst (λ (g : Handler). IsOne r (requests_of g)) (fail-here h w)
        (subst (λ y. IsOne r (requests_of ((fail_by_waits h w).handlers y))) e one)

    old : (k : ℕ) (r : Request) → IsOne r (requests_of ((fail_by_waits h w).handlers k)) → IsOne r
        (requests_of (w.handlers k))
    old k r one = subst (IsOne r) (requests_same (w.handlers k) ((fail_by_waits h w).handlers k)
        (fail_kept h w k (not_h k r one))) one

    alive : (k : ℕ) (r : Request) → IsOne r (requests_of (w.handlers k)) → (b : Bool) → (w.handlers k).failed ≡ b
        → (w.handlers k).failed ≡ false
    alive k r one false so = so
    alive k r one true so = absurd (is.failures k r one so)

    only : (k : ℕ) (r : Request) → IsOne r (requests_of (w.handlers k)) → r.waited ≡ true → (j x : ℕ)
        → (HasGrant x r.number (w.queue j) → x ≡ k) × (HasGrant x r.number (w.top j) → x ≡ k)
    only k r one waited j x = ⊎_elim
        (λ a. a.2 j x)
        (λ (a : (v : Wait) × IsOpen v (w.handlers r.poster) × (v.number ≡ r.number) × (v.target ≡ k) ×
        (v.passing ≡ passes r) × (v.asked ≡ r.asked)). (
          (λ i. fine.queue_grants j r.poster x a.0 a.1.0 (subst (λ m. HasGrant x m (w.queue j)) (sym a.2) i) ∙ a.3),
          (λ i. fine.top_grants j r.poster x a.0 a.1.0 (subst (λ m. HasGrant x m (w.top j)) (sym a.2) i) ∙ a.3),
        ))
        (fine.clients k r one waited)
