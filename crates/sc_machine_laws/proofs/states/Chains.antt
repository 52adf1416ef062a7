-- In the chain of each waited request somebody can post to its target, or has failed; and from a request's
-- post to its end nobody reserves its target.
use Rattle.std.proofs.Common.{◌≡◌, ◌⊎◌, ⊎_elim, inl, inr, ℕ, List, [], ◌∷◌, Option, Some, None, true, refl, sym, ap, ◌∙◌, subst}
use Rattle.sc_machine_laws.specs.states.World.{Grant, Wait, Request, World, holder, requests_of, and_this, and_begun}
use Rattle.sc_machine_laws.specs.states.Steps.{waits_for, IsIdle}
use Rattle.sc_machine_laws.specs.states.Consistent.{HasWait, StackWaits, HasGrant, Lends, Nobody, IsTrail, HadBefore, Stuck, Told, On, IsOne, IsConsistent}
use Rattle.sc_machine_laws.specs.states.Chains.{InChain, Here, Next}
use Rattle.sc_machine_laws.specs.states.Laws.{ChainsHold}
use Rattle.sc_machine_laws.proofs.states.Rights.{not_some}
use Rattle.sc_machine_laws.proofs.states.Waits.{waits_stack, wait_of}

-- one of the chain has failed
abbrev HasFailed : World → ℕ → Type 0
HasFailed w p = (z : ℕ) × ((w.handlers z).failed ≡ true) × InChain w p z

had_grant : (p n : ℕ) (t : List Grant) → HadBefore p n t → (m : ℕ) × HasGrant p m t
had_grant p n [] had = absurd had
had_grant p n (e ∷ t) (inl a) = (e.number, inl (a.0, refl))
had_grant p n (e ∷ t) (inr a) = let r = had_grant p n t a.1 in (r.0, inr r.1)

-- whoever stands in a trail has its first in the chain, or somebody who has failed
climb : (w : World) (L : ℕ → ℕ → ℕ → Type 0) (p : ℕ) (t : List Grant) → IsTrail w L t
    → ((x n d lo : ℕ) → HasGrant x n t → HasWait n (w.handlers d).stack ⊎ L d lo n → InChain w p d → InChain w p x
    ⊎ HasFailed w p)
    → (m : ℕ) → HasGrant p m t → ((z : ℕ) × (holder t ≡ Some z) × InChain w p z) ⊎ HasFailed w p
climb w L p [] is rise m has = absurd has
climb w L p (e ∷ []) is rise m (inl has) = inl (e.holder, refl, subst (InChain w p) (sym has.0) Here)
climb w L p (e ∷ []) is rise m (inr has) = absurd has
climb w L p (e ∷ d ∷ t) is rise m (inl has) = inl (e.holder, refl, subst (InChain w p) (sym has.0) Here)
climb w L p (e ∷ d ∷ t) is rise m (inr has) = ⊎_elim
    (λ (lower : (z : ℕ) × (Some d.holder ≡ Some z) × InChain w p z).
    let so : Some d.holder ≡ Some lower.0 = lower.1 in
    let same : lower.0 ≡ d.holder = cc in
    let to_d : InChain w p d.holder = subst (InChain w p) same lower.2 in
    let up : InChain w p e.holder ⊎ HasFailed w p → ((z : ℕ) × (Some e.holder ≡ Some z) × InChain w p z)
    ⊎ HasFailed w p = λ o. ⊎_elim (λ c. inl (e.holder, refl, c)) (λ f. inr f) o in
    ⊎_elim
    (λ a. up (rise e.holder e.number d.holder d.number (inl (refl, refl)) (inl a) to_d))
    (λ o. ⊎_elim
    (λ a. up (rise e.holder e.number d.holder d.number (inl (refl, refl)) (inr a) to_d))
    (λ lost. inr (d.holder, lost, to_d))
    o)
    is.0)
    (λ failed. inr failed)
    (climb w L p (d ∷ t) is.2 (λ x n y lo h. rise x n y lo (inr h)) m has)

by_wait : (w : World) (p d y n : ℕ) → ((v : Wait) → StackWaits v (w.handlers d).stack → v.number ≡ n → y ≡ v.target)
    → HasWait n (w.handlers d).stack → InChain w p d → InChain w p y
by_wait w p d y n only h c =
    let v = wait_of n (w.handlers d).stack h in
    Next c (v.0, v.1, sym (only v.0 v.1 v.2))

by_queue : (w : World) → IsConsistent w → (p k x n d : ℕ) → HasGrant x n (w.queue k) → HasWait n (w.handlers d).stack
    → InChain w p d → InChain w p x
by_queue w fine p k x n d has h c = by_wait w p d x n
    (λ v s e. fine.queue_grants k d x v s (subst (λ m. HasGrant x m (w.queue k)) (sym e) has)) h c

by_top : (w : World) → IsConsistent w → (p k x n d : ℕ) → HasGrant x n (w.top k) → HasWait n (w.handlers d).stack
    → InChain w p d → InChain w p x
by_top w fine p k x n d has h c = by_wait w p d x n
    (λ v s e. fine.top_grants k d x v s (subst (λ m. HasGrant x m (w.top k)) (sym e) has)) h c

by_lent : (w : World) → IsConsistent w → (p k x n d lo : ℕ) → HasGrant x n (w.top k) → Lends w k d lo n
    → InChain w p d → InChain w p x ⊎ HasFailed w p
by_lent w fine p k x n d lo has l c =
    let to_k : InChain w p k = Next c (l.0.for, waits_stack (w.handlers d).stack l.0.for l.0.waits, l.0.target) in
    ⊎_elim (λ waits. inl (by_top w fine p k x n k has waits to_k)) (λ f. inr (k, f, to_k)) l.1

-- after a stuck wait someone has failed
stuck_failed : (w : World) → IsConsistent w → (p x j : ℕ) → Stuck w x j → InChain w p x → HasFailed w p
stuck_failed w fine p x j (Told is) c = let r = fine.why_told x is in (r.0.target, r.2, Next c (r.0, r.1, refl))
stuck_failed w fine p x j (On v o still is has lt s) c = stuck_failed w fine p v.target o s
    (Next c (v, still.0, refl))

pub chains_hold : (w : World) → IsConsistent w → ChainsHold w
chains_hold w fine p k (v, stack, is) = subst
    (λ j. (z : ℕ) × ((holder (w.queue j) ≡ Some z) ⊎ ((holder (w.top j) ≡ Some z) ⊎ ((w.handlers z).failed ≡ true)))
    × InChain w p z) is (⊎_elim
    (λ had. let a = had_grant p v.number (w.queue v.target) had in ⊎_elim
    (λ (r : (z : ℕ) × (holder (w.queue v.target) ≡ Some z) × InChain w p z). (r.0, inl r.1, r.2))
    (λ (r : HasFailed w p). (r.0, inr (inr r.1), r.2))
    (climb w Nobody p (w.queue v.target) (fine.queue_trails v.target)
    (λ x n d lo h o c. ⊎_elim (λ b. inl (by_queue w fine p v.target x n d h b c)) (λ b. absurd b) o) a.0 a.1))
    (λ o. ⊎_elim
    (λ had. let a = had_grant p v.number (w.top v.target) had in ⊎_elim
    (λ (r : (z : ℕ) × (holder (w.top v.target) ≡ Some z) × InChain w p z). (r.0, inr (inl r.1), r.2))
    (λ (r : HasFailed w p). (r.0, inr (inr r.1), r.2))
    (climb w (Lends w v.target) p (w.top v.target) (fine.top_trails v.target)
    (λ x n d lo h o c. ⊎_elim (λ b. inl (by_top w fine p v.target x n d h b c))
    (λ b. by_lent w fine p v.target x n d lo h b c) o) a.0 a.1))
    (λ stuck. let r = stuck_failed w fine p p stuck.0 stuck.3 Here in (r.0, inr (inr r.1), r.2))
    o)
    (fine.held p v stack))

pub idle_callback : (k : ℕ) (w : World) → IsConsistent w → (w.handlers k).stack ≡ [] → (w.handlers k).callback ≡ None
idle_callback k w fine stack = by (w.handlers k).callback
    (λ r is. let p = (fine.callbacks k r is).1 in not_some p.0 (sym (ap waits_for stack) ∙ p.1))
  where
    by : (o : Option Request) → ((r : Request) → o ≡ Some r → ⊥) → o ≡ None
    by None not = refl
    by (Some r) not = absurd (not r refl)

-- while a request stands at k, k is not reserved
pub none_reserves : (w : World) → IsConsistent w → (k : ℕ) (r : Request) → IsOne r (requests_of (w.handlers k))
    → IsIdle k w → ⊥
none_reserves w fine k r one idle = subst (IsOne r)
    (ap (λ o. and_this o (and_begun (w.handlers k).stack (w.handlers k).requests)) (idle_callback k w fine idle.stack)
    ∙ ap (λ s. and_begun s (w.handlers k).requests) idle.stack ∙ idle.requests) one
