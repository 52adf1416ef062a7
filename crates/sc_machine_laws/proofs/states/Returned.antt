-- With the end of a request what was listed returns.
use Rattle.std.proofs.Common.{◌≡◌, ◌⊎◌, ⊎_elim, inl, inr, ℕ, suc, ◌<◌, List, [], ◌∷◌, Some, None, Bool, true, false, ◌==◌, refl, sym, ap, ◌∙◌, subst, arith, Option}
use Rattle.std.proofs.lemmas.Bool.Decides.{nat_tests}
use Rattle.std.specs.Prelude.{if◌then◌else◌}
use Rattle.sc_lockpass.specs.Passing.{returned}
use Rattle.std.proofs.Math.Path.{fun_ext}
use Rattle.sc_machine_laws.specs.states.World.{Grant, Request, Handler, World, popped, holder, came_by, without_first, back, pop, requests_of, and_this, and_begun}
use Rattle.sc_machine_laws.specs.states.Steps.{Ends}
use Rattle.sc_machine_laws.specs.states.Consistent.{HasWait, HasGrant, Lends, Nobody, IsFirst, IsTrail, IsStuckFrom, IsOne, IsConsistent}
use Rattle.sc_machine_laws.specs.states.Returns.{IsGranted, ReturnsTo, IsListed}
use Rattle.sc_machine_laws.specs.states.Laws.{ListedReturns}
use Rattle.sc_machine_laws.proofs.states.Rights.{put-same}
use Rattle.sc_machine_laws.proofs.states.PoppedFrames.{popping_keeps, has_lower}
use Rattle.sc_machine_laws.proofs.states.AwaitedEnds.{is_ended, passed_is_here, passed_top_is_here, lower_grants, first_came}
use Rattle.sc_machine_laws.proofs.states.UnheardReplies.{to_h}
use Rattle.sc_machine_laws.proofs.states.ReturningSteps.{grant_of, returns_granted}

-- the request that a handler ends stands at it
pub ending_stands : (h : ℕ) (r : Request) (w : World) → IsConsistent w → Ends h r w → IsOne r
    (requests_of (w.handlers h))
ending_stands h r w fine ends =
    subst (IsOne r) (sym (
    ap (λ o. and_this o (and_begun (w.handlers h).stack (w.handlers h).requests)) (fine.clear h ends.active).1
    ∙ ap (λ s. and_begun s (w.handlers h).requests) ends.stack
    ∙ ap (λ o. and_this o (and_begun ends.below (w.handlers h).requests)) ends.begun))
    (inl refl)

-- and the handler waits for nothing newer
pub ending_older : (h : ℕ) (r : Request) (w : World) → IsConsistent w → Ends h r w → (m : ℕ) → HasWait m
    (w.handlers h).stack → m < r.number
ending_older h r w fine ends m has =
    (is_ended h r w fine ends).older m
    (subst (λ (f : Handler). HasWait m f.stack)
    (sym (put-same h (record (w.handlers h) { stack = popped (w.handlers h).stack }) w.handlers))
    (has_lower m (w.handlers h).stack ends.active.1 has))

no_grant : (n : ℕ) (t : List Grant) → (IsGranted n t → ⊥) → came_by n t ≡ false
no_grant n [] none = refl
no_grant n (e ∷ t) none = by (e.number == n) refl
  where
    by : (b : Bool) → (e.number == n) ≡ b → (e.number == n) ≡ false
    by false so = so
    by true so = absurd (none (inl (grind (arith, nat_tests))))

-- one right: it is the last that was granted, and what is listed of it is whose it was before
one_returns : (w : World) (L : ℕ → ℕ → ℕ → Type 0) (h n : ℕ) (o : Option (Option ℕ)) (t : List Grant) → IsTrail w L t
    → ((x : ℕ) → HasGrant x n t → IsFirst h n t) → IsListed n o t
    → returned o (holder t) ≡ holder (back n t)
one_returns w L h n None t is first a = ap (λ (b : Bool). holder (if b then without_first t else t))
    (sym (no_grant n t a))
one_returns w L h n (Some x) [] is first a = absurd a
one_returns w L h n (Some x) (e ∷ t) is first a = by a (first e.holder)
  where
    by : ((e.number ≡ n) × (holder t ≡ x)) ⊎ ReturnsTo n x t → (HasGrant e.holder n (e ∷ t) → IsFirst h n (e ∷ t))
        → x ≡ holder (back n (e ∷ t))
    by (inl i) f = sym i.1 ∙ ap (λ (b : Bool). holder (if b then t else e ∷ t))
        (sym (first_came e.holder n (e ∷ t) (refl, i.0)))
    by (inr i) f =
        let g = grant_of n t (returns_granted n x t i) in
        let lt = lower_grants w L e t is g.0 n g.1 in
        let is_first = first g.0 (inr g.1) in
        absurd (let a = is_first.1 in omega (arith, lt, a))

not_stuck : {A : Type 0} (h : ℕ) (r : Request) (w : World) → IsConsistent w → Ends h r w → IsStuckFrom w h
    (suc r.number) → A
not_stuck h r w fine ends s = absurd
    (let lt = ending_older h r w fine ends s.0 s.2 in let le = s.1 in omega (arith, lt, le))

pub listed_returns : ListedReturns
listed_returns w law h r p ends passed =
    let fine = law.consistent in
    let u = pop h w in
    let g = popping_keeps h w ends.active fine in
    let e = is_ended h r w fine ends in
    let listed = law.returnable.listed h r p (ending_stands h r w fine ends) passed in
    let queue : (k : ℕ) → returned (p.queue k) (holder (w.queue k)) ≡ holder (back r.number (w.queue k)) = λ k. ⊎_elim
    (λ a. one_returns w Nobody h r.number (p.queue k) (w.queue k) (fine.queue_trails k)
    (λ x i. passed_is_here h r u g e k
    (subst (λ y. HasGrant y r.number (w.queue k)) ((to_h h r u g e k x).0 i) i)) a)
    (λ s. not_stuck h r w fine ends s)
    (listed.queues k) in
    let top : (k : ℕ) → returned (p.top k) (holder (w.top k)) ≡ holder (back r.number (w.top k)) = λ k. ⊎_elim
    (λ a. one_returns w (Lends w k) h r.number (p.top k) (w.top k) (fine.top_trails k)
    (λ x i. passed_top_is_here h r u g e k
    (subst (λ y. HasGrant y r.number (w.top k)) ((to_h h r u g e k x).1 i) i)) a)
    (λ s. not_stuck h r w fine ends s)
    (listed.tops k) in
    λ i. record { queue = fun_ext queue i; top = fun_ext top i }
