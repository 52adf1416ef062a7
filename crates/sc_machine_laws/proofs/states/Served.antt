-- Whoever waits for one who lives, and has not been told of a failure, has its request there.
use Rattle.std.proofs.Common.{◌≡◌, ◌≢◌, ◌⊎◌, ⊎_elim, inl, inr, ℕ, true, false, sym, ap, ◌∙◌, subst}
use Rattle.std.proofs.lemmas.Bool.{cases_eq}
use Rattle.sc_machine_laws.specs.states.World.{passes, Wait, Request, Handler, World, requests_of, and_this, and_begun}
use Rattle.sc_machine_laws.specs.states.Steps.{IsTold, MayFail}
use Rattle.sc_machine_laws.specs.states.Consistent.{StackWaits, IsOpen, IsOne, IsConsistent}
use Rattle.sc_machine_laws.proofs.states.Forms.{fail_by_waits, open_to}
use Rattle.sc_machine_laws.proofs.states.Rights.{put-same, put-other}
use Rattle.sc_machine_laws.proofs.states.Waits.{true_false}
use Rattle.sc_machine_laws.proofs.states.Shrinks.{at_each}
use Rattle.sc_machine_laws.proofs.states.Simple.{Simple, changed}
use Rattle.sc_machine_laws.proofs.states.Failures.{Kept, fail-here, fail_kept, fail_told, fail_open_back, still_lives, opens, opened}
use Rattle.sc_machine_laws.specs.states.Served.{Serves, IsServed}

-- a step keeps it, if each open wait was open before or is served now, and its request stays
pub moved_served : (w v : World)
    → ((p : ℕ) (x : Wait) → IsOpen x (v.handlers p) → IsOpen x (w.handlers p) ⊎
    (IsTold (v.handlers p) ⊎ Serves v p x))
    → ((k : ℕ) → (v.handlers k).failed ≡ false → (w.handlers k).failed ≡ false)
    → ((p : ℕ) (x : Wait) → IsOpen x (v.handlers p) → IsTold (w.handlers p) → IsTold (v.handlers p))
    → ((p : ℕ) (x : Wait) (r : Request) → IsOpen x (v.handlers p) → IsOpen x (w.handlers p)
    → (v.handlers x.target).failed ≡ false → IsOne r (requests_of (w.handlers x.target)) → r.number ≡ x.number
    → r.poster ≡ p → r.waited ≡ true
    → IsTold (v.handlers p) ⊎ IsOne r (requests_of (v.handlers x.target)))
    → IsServed w → IsServed v
moved_served w v was alive told keeps served p x now lives = ⊎_elim
    (λ before. ⊎_elim
    (λ t. inl (told p x now t))
    (λ (s : Serves w p x). ⊎_elim (λ t. inl t)
    (λ i. inr (record {
      request = s.request;
      stands = i;
      number = s.number;
      poster = s.poster;
      waited =
          s.waited;
    }))
    (keeps p x s.request now before lives s.stands s.number s.poster s.waited))
    (served p x before (alive x.target lives)))
    (λ new. new)
    (was p x now)

-- a step of one handler
pub simple_served : (w : World) (h : ℕ) (g : Handler) (n : ℕ) → Simple w h g n
    → ((p : ℕ) (x : Wait) (r : Request) → IsOpen x (w.handlers p) → x.target ≡ h → IsOne r
    (requests_of (w.handlers h)) → r.number ≡ x.number → r.poster ≡ p → r.waited ≡ true → IsTold (w.handlers p)
    ⊎ IsOne r (requests_of g))
    → IsServed w → IsServed (changed h g n w)
simple_served w h g n s keeps served =
    let v = changed h g n w in
    let told : (p : ℕ) → IsTold (w.handlers p) → IsTold (v.handlers p) = λ p. at_each
    (λ y. IsTold (w.handlers y) → IsTold (v.handlers y)) h p
    (λ t. subst IsTold (sym (put-same h g w.handlers)) (s.told t))
    (λ ne t. subst IsTold (sym (put-other h g w.handlers p ne)) t) in
    moved_served w v
    (λ p x o. inl (at_each (λ y. IsOpen x (v.handlers y) → IsOpen x (w.handlers y)) h p
    (λ a. s.was x (subst (IsOpen x) (put-same h g w.handlers) a))
    (λ ne a. subst (IsOpen x) (put-other h g w.handlers p ne) a) o))
    (λ k a. at_each (λ y. (v.handlers y).failed ≡ false → (w.handlers y).failed ≡ false) h k (λ _. s.lives)
    (λ ne b. ap (λ (f : Handler). f.failed) (sym (put-other h g w.handlers k ne)) ∙ b) a)
    (λ p x o t. told p t)
    (λ p x r o before lives one num poster waited. ⊎_elim
    (λ th. ⊎_elim
    (λ t. inl (told p t))
    (λ i. inr (subst (λ y. IsOne r (requests_of (v.handlers y))) (sym th)
    (subst (λ f. IsOne r (requests_of f)) (sym (put-same h g w.handlers)) i)))
    (keeps p x r before th (subst (λ y. IsOne r (requests_of (w.handlers y))) th one) num poster waited))
    (λ nh. inr (subst (λ f. IsOne r (requests_of f)) (sym (put-other h g w.handlers x.target nh)) one))
    (cases_eq x.target h))
    served

requests_same : (g f : Handler) → Kept g f → requests_of f ≡ requests_of g
requests_same g f k = ap (λ c. and_this c (and_begun f.stack f.requests)) k.callback ∙ ap
    (λ s. and_this g.callback (and_begun s f.requests)) k.stack ∙ ap
    (λ q. and_this g.callback (and_begun g.stack q)) k.requests

pub failing_served : (h : ℕ) (w : World) → MayFail h w → IsServed w → IsServed (fail_by_waits h w)
failing_served h w may served = moved_served w (fail_by_waits h w)
    (λ p x o. let ne = not_h p x o in ⊎_elim (λ a. inl a) (λ t. inr (inl t)) (fail_open_back h w p x ne o))
    (λ k a. (still_lives h w k a).1)
    (λ p x o t. fail_told h w p (not_h p x o) t)
    (λ p x r o before lives one num poster waited.
    let ne = (still_lives h w x.target lives).0 in
    inr (subst (IsOne r) (sym (requests_same (w.handlers x.target) ((fail_by_waits h w).handlers x.target)
    (fail_kept h w x.target ne))) one))
    served
  where
    not_h : (p : ℕ) (x : Wait) → IsOpen x ((fail_by_waits h w).handlers p) → p ≢ h
    not_h p x o e = subst (λ (g : Handler). StackWaits x g.stack) (fail-here h w)
        (subst (λ y. StackWaits x ((fail_by_waits h w).handlers y).stack) e o.0)

-- Who is told by what stands at the failing handler is who is told by its waits.
pub told_by_requests : (h : ℕ) (w : World) → IsConsistent w → IsServed w → (w.handlers h).failed ≡ false → (p : ℕ)
    → open_to h (w.handlers p) ≡ true
    → IsTold (w.handlers p) ⊎ ((r : Request) × IsOne r (requests_of (w.handlers h)) × (r.waited ≡ true) ×
    (r.poster ≡ p))
told_by_requests h w fine served lives p is =
    let o = opened h (w.handlers p) is in
    ⊎_elim
    (λ t. inl t)
    (λ (s : Serves w p o.0). inr (
      s.request,
      subst (λ y. IsOne s.request (requests_of (w.handlers y))) o.2 s.stands,
      s.waited,
      s.poster,
    ))
    (served p o.0 o.1 (ap (λ y. (w.handlers y).failed) o.2 ∙ lives))

pub told_by_waits : (h : ℕ) (w : World) → IsConsistent w → (r : Request) → IsOne r (requests_of (w.handlers h))
    → r.waited ≡ true → (w.handlers r.poster).failed ≡ false → open_to h (w.handlers r.poster) ≡ true
told_by_waits h w fine r one waited lives = ⊎_elim
    (λ a. true_false (sym a.0 ∙ lives))
    (λ (a : (v : Wait) × IsOpen v (w.handlers r.poster) × (v.number ≡ r.number) × (v.target ≡ h) ×
    (v.passing ≡ passes r) × (v.asked ≡ r.asked)). opens h (w.handlers r.poster) a.0 a.1 a.3)
    (fine.clients h r one waited)
