-- A failure, also in the middle of a chain: what it does to handlers and to stuck waits.
use Rattle.std.proofs.Common.{◌≡◌, ◌≢◌, ◌⊎◌, ⊎_elim, inl, inr, ℕ, suc, ◌<◌, ◌≤◌, List, [], ◌∷◌, Option, Some, None, Bool, true, false, ◌==◌, refl, sym, ap, ◌∙◌, subst, arith}
use Rattle.std.proofs.lemmas.Bool.{eq-eqb, cases_eq}
use Rattle.std.proofs.lemmas.Bool.Decides.{nat_tests}
use Rattle.std.specs.Prelude.{if◌then◌else◌}
use Rattle.sc_machine_laws.specs.states.World.{Grant, Wait, Frame, SupplierFailed, Handler, World, has, popped, fallen, ruined}
use Rattle.sc_machine_laws.specs.states.Steps.{answered, waits_for, IsTold}
use Rattle.sc_machine_laws.specs.states.Consistent.{HasWait, StackWaits, IsOpen, HasGrant, IsOver, Lends, Nobody, IsTrail, HadBefore, Stuck, Told, On, IsStuckFrom, IsConsistent}
use Rattle.sc_machine_laws.proofs.states.Forms.{aims, aim, open_to, told_if_open, fail_by_waits}
use Rattle.sc_machine_laws.proofs.states.Rights.{differs}
use Rattle.sc_machine_laws.proofs.states.Waits.{true_false, waits_has, waits_stack, wait_of, popped_stack}

-- what a failure leaves as it is at others
pub record Kept (g f : Handler) : Type 0 where
  pub stack : f.stack ≡ g.stack
  pub failed : f.failed ≡ g.failed
  pub callback : f.callback ≡ g.callback
  pub requests : f.requests ≡ g.requests

told_kept : (h : ℕ) (g : Handler) → Kept g (told_if_open h g)
told_kept h g = elim (open_to h g) as (λ b. Kept g (if b then record g { answer = Some SupplierFailed } else g)) [
  | true ↦ record { stack = refl; failed = refl; callback = refl; requests = refl }
  | false ↦ record { stack = refl; failed = refl; callback = refl; requests = refl }
]

told_cases : (h : ℕ) (g : Handler) → (((told_if_open h g).answer ≡ g.answer) × (open_to h g ≡ false)) ⊎
    (IsTold (told_if_open h g) × (open_to h g ≡ true))
told_cases h g = by (open_to h g) refl
  where
    by : (b : Bool) → open_to h g ≡ b
        → (((if b then record g { answer = Some SupplierFailed } else g).answer ≡ g.answer) × (open_to h g ≡ false)) ⊎
        (IsTold (if b then record g { answer = Some SupplierFailed } else g) × (open_to h g ≡ true))
    by true so = inr (refl, so)
    by false so = inl (refl, so)

aim_in : (h : ℕ) (fs : List Frame) (v : Wait) → StackWaits v fs → v.target ≡ h → aim h fs ≡ true
aim_in h [] v s e = absurd s
aim_in h (f ∷ fs) v (inl i) e = ap (λ (b : Bool). if b then true else aim h fs) (ap (aims h) i ∙ eq-eqb v.target h e)
aim_in h (f ∷ fs) v (inr i) e = elim (aims h f.waits) as
    (λ b. (if b then true else aim h fs) ≡ true) [ true ↦ refl | false ↦ aim_in h fs v i e ]

aims_out : (h : ℕ) (o : Option Wait) → aims h o ≡ true → (v : Wait) × (o ≡ Some v) × (v.target ≡ h)
aims_out h None e = true_false (sym e)
aims_out h (Some v) e = (v, refl, grind (arith, nat_tests))

aim_out : (h : ℕ) (fs : List Frame) → aim h fs ≡ true → (v : Wait) × StackWaits v fs × (v.target ≡ h)
aim_out h [] e = true_false (sym e)
aim_out h (f ∷ fs) e = by (aims h f.waits) refl (λ i. aim_out h fs i) e
  where
    by : (b : Bool) → aims h f.waits ≡ b → (aim h fs ≡ true → (v : Wait) × StackWaits v fs × (v.target ≡ h))
        → (if b then true else aim h fs) ≡ true → (v : Wait) × StackWaits v (f ∷ fs) × (v.target ≡ h)
    by true so more i = let r = aims_out h f.waits so in (r.0, inl r.1, r.2)
    by false so more i = let r = more i in (r.0, inr r.1, r.2)

pub opens : (h : ℕ) (g : Handler) (v : Wait) → IsOpen v g → v.target ≡ h → open_to h g ≡ true
opens h g v (s, o) e = by (answered g.answer) refl
  where
    by : (b : Bool) → answered g.answer ≡ b → aim h (if b then popped g.stack else g.stack) ≡ true
    by true so = ⊎_elim (λ no. true_false (sym so ∙ no)) (λ low. aim_in h (popped g.stack) v low e) o
    by false so = aim_in h g.stack v s e

pub opened : (h : ℕ) (g : Handler) → open_to h g ≡ true → (v : Wait) × IsOpen v g × (v.target ≡ h)
opened h g e = by (answered g.answer) refl e
  where
    by : (b : Bool) → answered g.answer ≡ b → aim h (if b then popped g.stack else g.stack) ≡ true → (v : Wait)
        × IsOpen v g × (v.target ≡ h)
    by true so i = let r = aim_out h (popped g.stack) i in (r.0, (popped_stack r.0 g.stack r.1, inr r.1), r.2)
    by false so i = let r = aim_out h g.stack i in (r.0, (r.1, inl so), r.2)

pub fail-here : (h : ℕ) (w : World) → (fail_by_waits h w).handlers h ≡ ruined (w.handlers h)
fail-here h w = ap (λ (b : Bool). if b then ruined (w.handlers h) else told_if_open h (w.handlers h))
    (eq-eqb h h refl)

pub fail-other : (h : ℕ) (w : World) (j : ℕ) → j ≢ h → (fail_by_waits h w).handlers j ≡ told_if_open h (w.handlers j)
fail-other h w j ne = ap (λ (b : Bool). if b then ruined (w.handlers j) else told_if_open h (w.handlers j))
    (differs j h ne)

pub fail_kept : (h : ℕ) (w : World) (j : ℕ) → j ≢ h → Kept (w.handlers j) ((fail_by_waits h w).handlers j)
fail_kept h w j ne = subst (Kept (w.handlers j)) (sym (fail-other h w j ne)) (told_kept h (w.handlers j))

pub fail_told : (h : ℕ) (w : World) (j : ℕ) → j ≢ h → IsTold (w.handlers j) → IsTold ((fail_by_waits h w).handlers j)
fail_told h w j ne is = subst IsTold (sym (fail-other h w j ne))
    (⊎_elim (λ a. a.0 ∙ is) (λ a. a.0) (told_cases h (w.handlers j)))

pub fail_new : (h : ℕ) (w : World) (j : ℕ) (v : Wait) → j ≢ h → IsOpen v (w.handlers j) → v.target ≡ h → IsTold
    ((fail_by_waits h w).handlers j)
fail_new h w j v ne still e = subst IsTold (sym (fail-other h w j ne))
    (⊎_elim (λ a. true_false (sym (opens h (w.handlers j) v still e) ∙ a.1)) (λ a. a.0) (told_cases h (w.handlers j)))

-- whoever has been told was so before, or waited for h
pub fail_why : (h : ℕ) (w : World) (j : ℕ) → j ≢ h → IsTold ((fail_by_waits h w).handlers j) → IsTold (w.handlers j) ⊎
    ((v : Wait) × IsOpen v (w.handlers j) × (v.target ≡ h))
fail_why h w j ne is = ⊎_elim
    (λ a. inl (sym a.0 ∙ ap (λ (g : Handler). g.answer) (sym (fail-other h w j ne)) ∙ is))
    (λ a. inr (opened h (w.handlers j) a.1))
    (told_cases h (w.handlers j))

told_awaits : (g : Handler) → IsTold g → answered g.answer ≡ false
told_awaits g is = ap answered is

-- no reply comes by a failure
pub fail_awaits : (h : ℕ) (w : World) (j : ℕ) → j ≢ h → answered (w.handlers j).answer ≡ false → answered
    ((fail_by_waits h w).handlers j).answer ≡ false
fail_awaits h w j ne is = ap (λ (g : Handler). answered g.answer) (fail-other h w j ne) ∙ ⊎_elim
    (λ a. ap answered a.0 ∙ is)
    (λ a. told_awaits (told_if_open h (w.handlers j)) a.0)
    (told_cases h (w.handlers j))

-- who is not told keeps its answer
pub fail_answer : (h : ℕ) (w : World) (j : ℕ) → j ≢ h
    → (((fail_by_waits h w).handlers j).answer ≡ (w.handlers j).answer) ⊎ IsTold ((fail_by_waits h w).handlers j)
fail_answer h w j ne = ⊎_elim
    (λ a. inl (ap (λ (g : Handler). g.answer) (fail-other h w j ne) ∙ a.0))
    (λ a. inr (subst IsTold (sym (fail-other h w j ne)) a.0))
    (told_cases h (w.handlers j))

pub fail_open : (h : ℕ) (w : World) (j : ℕ) (v : Wait) → j ≢ h → IsOpen v (w.handlers j) → IsOpen v
    ((fail_by_waits h w).handlers j)
fail_open h w j v ne (s, o) =
    let same = (fail_kept h w j ne).stack in (
      subst (StackWaits v) (sym same) s,
      ⊎_elim (λ a. inl (fail_awaits h w j ne a))
          (λ low. inr (subst (λ fs. StackWaits v (popped fs)) (sym same) low)) o,
    )

pub fail_open_back : (h : ℕ) (w : World) (j : ℕ) (v : Wait) → j ≢ h → IsOpen v ((fail_by_waits h w).handlers j)
    → IsOpen v (w.handlers j) ⊎ IsTold ((fail_by_waits h w).handlers j)
fail_open_back h w j v ne (s, o) =
    let same = (fail_kept h w j ne).stack in
    ⊎_elim
    (λ a. inl (
      subst (StackWaits v) same s,
      ⊎_elim (λ b. inl (ap answered (sym a) ∙ b))
          (λ low. inr (subst (λ fs. StackWaits v (popped fs)) same low)) o,
    ))
    (λ t. inr t)
    (fail_answer h w j ne)

-- what fails waits for nothing
pub fewer : (h : ℕ) (w : World) (q m : ℕ) → HasWait m ((fail_by_waits h w).handlers q).stack → (q ≢ h) × HasWait m
    (w.handlers q).stack
fewer h w q m i =
    let ne : q ≢ h = λ e. absurd (subst (λ (g : Handler). HasWait m g.stack) (fail-here h w)
    (subst (λ y. HasWait m ((fail_by_waits h w).handlers y).stack) e i)) in
    (ne, subst (HasWait m) (fail_kept h w q ne).stack i)

pub fewer_stack : (h : ℕ) (w : World) (q : ℕ) (v : Wait) → StackWaits v ((fail_by_waits h w).handlers q).stack
    → (q ≢ h) × StackWaits v (w.handlers q).stack
fewer_stack h w q v i =
    let ne : q ≢ h = λ e. absurd (subst (λ (g : Handler). StackWaits v g.stack) (fail-here h w)
    (subst (λ y. StackWaits v ((fail_by_waits h w).handlers y).stack) e i)) in
    (ne, subst (StackWaits v) (fail_kept h w q ne).stack i)

pub has_failed : (h : ℕ) (w : World) (x : ℕ) → (w.handlers x).failed ≡ true
    → ((fail_by_waits h w).handlers x).failed ≡ true
has_failed h w x is = ⊎_elim
    (λ i. ap (λ y. ((fail_by_waits h w).handlers y).failed) i ∙ ap (λ (g : Handler). g.failed) (fail-here h w))
    (λ ne. (fail_kept h w x ne).failed ∙ is)
    (cases_eq x h)

pub h_failed : (h : ℕ) (w : World) (x : ℕ) → x ≡ h → ((fail_by_waits h w).handlers x).failed ≡ true
h_failed h w x e = ap (λ y. ((fail_by_waits h w).handlers y).failed) e ∙ ap (λ (g : Handler). g.failed)
    (fail-here h w)

pub still_lives : (h : ℕ) (w : World) (x : ℕ) → ((fail_by_waits h w).handlers x).failed ≡ false → (x ≢ h) ×
    ((w.handlers x).failed ≡ false)
still_lives h w x is =
    let ne : x ≢ h = λ e. true_false (sym (h_failed h w x e) ∙ is) in
    (ne, sym (fail_kept h w x ne).failed ∙ is)

-- a stuck wait stays stuck, but for those of h
pub stuck_on : (h : ℕ) (w : World) (k m : ℕ) → k ≢ h → Stuck w k m → Stuck (fail_by_waits h w) k m
stuck_on h w k m ne (Told is) = Told (fail_told h w k ne is)
stuck_on h w k m ne (On v j still is has lt s) = ⊎_elim
    (λ th. Told (fail_new h w k v ne still th))
    (λ nt. On v j (fail_open h w k v ne still) is (subst (HasWait j) (sym (fail_kept h w v.target nt).stack) has) lt
    (stuck_on h w v.target j nt s))
    (cases_eq v.target h)

pub stuck_from_on : (h : ℕ) (w : World) (p n : ℕ) → p ≢ h → IsStuckFrom w p n → IsStuckFrom (fail_by_waits h w) p n
stuck_from_on h w p n ne (j, le, has, s) =
    (j, le, subst (HasWait j) (sym (fail_kept h w p ne).stack) has, stuck_on h w p j ne s)

-- A right whose holder is h: each who gets it back is stuck when h fails.
-- x is h, or has failed, or has a stuck wait newer than n
pub Sunk : ℕ → World → ℕ → ℕ → Type 0
Sunk h w x n = (x ≡ h) ⊎ (((w.handlers x).failed ≡ true) ⊎
    ((j : ℕ) × (n < j) × HasWait j (w.handlers x).stack × Stuck (fail_by_waits h w) x j))

pub record IsKnown (w : World) (t : List Grant) : Type 0 where
  pub only : (q x : ℕ) (v : Wait) → StackWaits v (w.handlers q).stack → HasGrant x v.number t → x ≡ v.target
  pub fresh : (q x : ℕ) (v : Wait) → waits_for (w.handlers q).stack ≡ Some v → answered (w.handlers q).answer ≡ true
      → HasGrant x v.number t → ⊥

below : (w : World) (e : Grant) (t : List Grant) → IsKnown w (e ∷ t) → IsKnown w t
below w e t k = record {
  only = λ q x v s i. k.only q x v s (inr i);
  fresh = λ q x v a b i. k.fresh q x v a b
      (inr i);
}

-- a wait with a grant has no reply yet
is_open : (w : World) (t : List Grant) → IsKnown w t → (q x : ℕ) (v : Wait) → StackWaits v (w.handlers q).stack
    → HasGrant x v.number t → IsOpen v (w.handlers q)
is_open w t k q x v s i = (s, by (answered (w.handlers q).answer) refl)
  where
    at : (fs : List Frame) → StackWaits v fs → (waits_for fs ≡ Some v) ⊎ StackWaits v (popped fs)
    at [] s = absurd s
    at (f ∷ fs) (inl e) = inl e
    at (f ∷ fs) (inr s) = inr s

    by : (b : Bool) → answered (w.handlers q).answer ≡ b → (answered (w.handlers q).answer ≡ false) ⊎ StackWaits v
        (popped (w.handlers q).stack)
    by false so = inl so
    by true so = ⊎_elim (λ top. absurd (k.fresh q x v top so i)) (λ low. inr low) (at (w.handlers q).stack s)

unfoldable pub LendsWell : ℕ → World → (ℕ → ℕ → ℕ → Type 0) → Type 0
LendsWell h w L = (x lo m : ℕ) → L x lo m → x ≢ h
    → ((q : ℕ) → q ≢ h → HasWait m (w.handlers q).stack → Stuck (fail_by_waits h w) q m)
    → (u : Wait) × (waits_for (w.handlers x).stack ≡ Some u) × (lo < u.number) × Stuck (fail_by_waits h w) x u.number

-- who waits for a sunk one is stuck
wait_sunk : (h : ℕ) (w : World) → IsConsistent w → (e : Grant) (t : List Grant) → IsKnown w (e ∷ t)
    → Sunk h w e.holder e.number → (q : ℕ) → q ≢ h → HasWait e.number (w.handlers q).stack → Stuck
    (fail_by_waits h w) q e.number
unfolding Sunk
wait_sunk h w fine e t known sunk q ne has =
    let r = wait_of e.number (w.handlers q).stack has in
    let v = r.0 in
    let at : HasGrant e.holder v.number (e ∷ t) = inl (refl, sym r.2) in
    let to : e.holder ≡ v.target = known.only q e.holder v r.1 at in
    let still = is_open w (e ∷ t) known q e.holder v r.1 at in
    ⊎_elim
    (λ eh. Told (fail_new h w q v ne still (sym to ∙ eh)))
    (λ o. ⊎_elim
    (λ f. Told (fail_told h w q ne (fine.dead q v still (ap (λ y. (w.handlers y).failed) (sym to) ∙ f))))
    (λ s. ⊎_elim
    (λ th. Told (fail_new h w q v ne still th))
    (λ nt. On v s.0 (fail_open h w q v ne still) r.2
    (subst (HasWait s.0) (sym (fail_kept h w v.target nt).stack)
    (subst (λ y. HasWait s.0 (w.handlers y).stack) to s.2)) s.1
    (subst (λ y. Stuck (fail_by_waits h w) y s.0) to s.3))
    (cases_eq v.target h))
    o)
    sunk

next_sunk : (h : ℕ) (w : World) → IsConsistent w → (L : ℕ → ℕ → ℕ → Type 0) → LendsWell h w L → (e d : Grant)
    (t : List Grant) → IsKnown w (e ∷ t) → IsOver w L e d → d.number < e.number → Sunk h w e.holder e.number
    → Sunk h w d.holder d.number
unfolding Sunk LendsWell
next_sunk h w fine L well e d t known over lt sunk = ⊎_elim
    (λ dh. inl dh)
    (λ nd. inr (⊎_elim
    (λ has. inr (e.number, lt, has, wait_sunk h w fine e t known sunk d.holder nd has))
    (λ o. ⊎_elim
    (λ l. let u = well d.holder d.number e.number l nd (wait_sunk h w fine e t known sunk) in inr
    (u.0.number, u.2, waits_has (w.handlers d.holder).stack u.0 u.1, u.3))
    (λ f. inl f)
    o)
    over))
    (cases_eq d.holder h)

all_sunk : (h : ℕ) (w : World) → IsConsistent w → (L : ℕ → ℕ → ℕ → Type 0) → LendsWell h w L → (e : Grant)
    (t : List Grant) → IsKnown w (e ∷ t) → IsTrail w L (e ∷ t) → Sunk h w e.holder e.number
    → (x n : ℕ) → HasGrant x n (e ∷ t) → (q : ℕ) → q ≢ h → HasWait n (w.handlers q).stack → Stuck
    (fail_by_waits h w) q n
all_sunk h w fine L well e t known is sunk x n (inl here) q ne has =
    subst (Stuck (fail_by_waits h w) q) here.1
    (wait_sunk h w fine e t known sunk q ne (subst (λ m. HasWait m (w.handlers q).stack) (sym here.1) has))
all_sunk h w fine L well e [] known is sunk x n (inr there) q ne has = absurd there
all_sunk h w fine L well e (d ∷ t) known is sunk x n (inr there) q ne has =
    all_sunk h w fine L well d t (below w e (d ∷ t) known) is.2
    (next_sunk h w fine L well e d (d ∷ t) known is.0 is.1 sunk) x n there q ne has

had_sunk : (h : ℕ) (w : World) → IsConsistent w → (L : ℕ → ℕ → ℕ → Type 0) → LendsWell h w L → (e : Grant)
    (t : List Grant) → IsKnown w (e ∷ t) → IsTrail w L (e ∷ t) → Sunk h w e.holder e.number
    → (p n : ℕ) → p ≢ h → (w.handlers p).failed ≡ false → n ≤ e.number
    → ((u : Wait) → waits_for (w.handlers p).stack ≡ Some u → n ≤ u.number) → HadBefore p n t → IsStuckFrom
    (fail_by_waits h w) p n
unfolding LendsWell
had_sunk h w fine L well e [] known is sunk p n ne alive le most had = absurd had
had_sunk h w fine L well e (d ∷ t) known is sunk p n ne alive le most (inr had) =
    had_sunk h w fine L well d t (below w e (d ∷ t) known) is.2
    (next_sunk h w fine L well e d (d ∷ t) known is.0 is.1 sunk) p n ne alive had.0 most had.1
had_sunk h w fine L well e (d ∷ t) known is sunk p n ne alive le most (inl here) =
    let nd : d.holder ≢ h = λ i. ne (sym here.0 ∙ i) in
    let same = (fail_kept h w p ne).stack in
    ⊎_elim
    (λ has. let mine = subst (λ y. HasWait e.number (w.handlers y).stack) here.0 has in
    (e.number, le, subst (HasWait e.number) (sym same) mine, wait_sunk h w fine e (d ∷ t) known sunk p ne mine))
    (λ o. ⊎_elim
    (λ l. let u = well p d.number e.number (subst (λ y. L y d.number e.number) here.0 l) ne
    (wait_sunk h w fine e (d ∷ t) known sunk) in
    (u.0.number, most u.0 u.1, subst (HasWait u.0.number) (sym same) (waits_has (w.handlers p).stack u.0 u.1), u.3))
    (λ f. true_false (sym f ∙ ap (λ y. (w.handlers y).failed) here.0 ∙ alive))
    o)
    is.0

sunk_at : (h : ℕ) (w : World) → IsConsistent w → (L : ℕ → ℕ → ℕ → Type 0) → LendsWell h w L → (e : Grant)
    (t : List Grant) → IsKnown w (e ∷ t) → IsTrail w L (e ∷ t) → Sunk h w e.holder e.number
    → (x n : ℕ) → HasGrant x n (e ∷ t) → Sunk h w x n
sunk_at h w fine L well e t known is sunk x n (inl here) = subst (λ y. Sunk h w y n) here.0
    (subst (Sunk h w e.holder) here.1 sunk)
sunk_at h w fine L well e [] known is sunk x n (inr there) = absurd there
sunk_at h w fine L well e (d ∷ t) known is sunk x n (inr there) =
    sunk_at h w fine L well d t (below w e (d ∷ t) known) is.2
    (next_sunk h w fine L well e d (d ∷ t) known is.0 is.1 sunk) x n there

holds : (h : ℕ) (e : Grant) → (e.holder == h) ≡ true → e.holder ≡ h
holds h e so = grind (arith, nat_tests)

-- p still stands where it stood, or is stuck
pub fall_had : (h : ℕ) (w : World) → IsConsistent w → (L : ℕ → ℕ → ℕ → Type 0) → LendsWell h w L → (t : List Grant)
    → IsKnown w t → IsTrail w L t
    → (p n : ℕ) → p ≢ h → (w.handlers p).failed ≡ false
    → ((u : Wait) → waits_for (w.handlers p).stack ≡ Some u → n ≤ u.number) → HadBefore p n t → HadBefore p n
    (fallen h t) ⊎ IsStuckFrom (fail_by_waits h w) p n
unfolding Sunk
fall_had h w fine L well [] known is p n ne alive most had = absurd had
fall_had h w fine L well (e ∷ t) known is p n ne alive most had = by (e.holder == h) refl
  where
    by : (b : Bool) → (e.holder == h) ≡ b → HadBefore p n (if b then [] else e ∷ t) ⊎ IsStuckFrom
        (fail_by_waits h w) p n
    by false so = inl had
    by true so = inr (⊎_elim
        (λ here. absurd (ne (sym here.0 ∙ holds h e so)))
        (λ low. had_sunk h w fine L well e t known is (inl (holds h e so)) p n ne alive low.0 most low.1)
        had)

-- a grant still stands, or all are gone and its wait is stuck
pub fall_grant : (h : ℕ) (w : World) → IsConsistent w → (L : ℕ → ℕ → ℕ → Type 0) → LendsWell h w L → (t : List Grant)
    → IsKnown w t → IsTrail w L t
    → (x n q : ℕ) → q ≢ h → HasWait n (w.handlers q).stack → HasGrant x n t → HasGrant x n (fallen h t) ⊎
    (Stuck (fail_by_waits h w) q n × (fallen h t ≡ []))
unfolding Sunk
fall_grant h w fine L well [] known is x n q ne has i = absurd i
fall_grant h w fine L well (e ∷ t) known is x n q ne has i = by (e.holder == h) refl
  where
    by : (b : Bool) → (e.holder == h) ≡ b → HasGrant x n (if b then [] else e ∷ t) ⊎
        (Stuck (fail_by_waits h w) q n × ((if b then [] else e ∷ t) ≡ []))
    by false so = inl i
    by true so = inr (all_sunk h w fine L well e t known is (inl (holds h e so)) x n i q ne has, refl)

-- where the right of h falls, whoever has it or gets it back is stuck in a wait that is newer than its grant
pub sunk_below : (h : ℕ) (w : World) → IsConsistent w → (L : ℕ → ℕ → ℕ → Type 0) → LendsWell h w L → (t : List Grant)
    → IsKnown w t → IsTrail w L t
    → has h t ≡ true → (x n : ℕ) → x ≢ h → (w.handlers x).failed ≡ false → HasGrant x n t → IsStuckFrom
    (fail_by_waits h w) x (suc n)
unfolding Sunk
sunk_below h w fine L well [] known is so x n ne alive i = absurd i
sunk_below h w fine L well (e ∷ t) known is so x n ne alive i = ⊎_elim
    (λ here. absurd (ne here))
    (λ o. ⊎_elim
    (λ dead. true_false (sym dead ∙ alive))
    (λ s. (s.0, s.1, subst (HasWait s.0) (sym (fail_kept h w x ne).stack) s.2, s.3))
    o)
    (sunk_at h w fine L well e t known is (inl (holds h e so)) x n i)

pub queue_known : (w : World) → IsConsistent w → (k : ℕ) → IsKnown w (w.queue k)
queue_known w fine k = record { only = fine.queue_grants k; fresh = λ q x v a b i. (fine.spent q v a b k x).0 i }

pub top_known : (w : World) → IsConsistent w → (k : ℕ) → IsKnown w (w.top k)
top_known w fine k = record { only = fine.top_grants k; fresh = λ q x v a b i. (fine.spent q v a b k x).1 i }

pub nobody_well : (h : ℕ) (w : World) → LendsWell h w Nobody
unfolding LendsWell
nobody_well h w x lo m l = absurd l

pub lends_well : (h : ℕ) (w : World) → IsConsistent w → (k : ℕ) → LendsWell h w (Lends w k)
unfolding LendsWell
lends_well h w fine k x lo m (a, o) nx stuck =
    let still : IsOpen a.for (w.handlers x) = (waits_stack (w.handlers x).stack a.for a.waits, inl a.unanswered) in (
      a.for,
      a.waits,
      a.after,
      ⊎_elim
          (λ kh. Told (fail_new h w x a.for nx still (a.target ∙ kh)))
          (λ nk. ⊎_elim
          (λ has. On a.for m (fail_open h w x a.for nx still) refl
          (subst (λ y. HasWait m ((fail_by_waits h w).handlers y).stack) (sym a.target)
          (subst (HasWait m) (sym (fail_kept h w k nk).stack) has)) a.before
          (subst (λ y. Stuck (fail_by_waits h w) y m) (sym a.target) (stuck k nk has)))
          (λ f. Told (fail_told h w x nx (fine.dead x a.for still (ap (λ y. (w.handlers y).failed) a.target ∙ f))))
          o)
          (cases_eq k h),
    )
