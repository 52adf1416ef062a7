-- The waits of a stack.
use Rattle.std.proofs.Common.{◌≡◌, ◌⊎◌, ⊎_elim, inl, inr, ℕ, ◌<◌, ◌≤◌, List, [], ◌∷◌, Option, Some, None, true, false, refl, sym, ap, ◌∙◌, subst, arith}
use Rattle.sc_machine_laws.specs.states.World.{Wait, Request, Frame, Handler, popped}
use Rattle.sc_machine_laws.specs.states.Steps.{waits_for}
use Rattle.sc_machine_laws.specs.states.Consistent.{IsWait, HasWait, StackWaits, IsOrdered, IsBegun, HasPassed}
use Rattle.sc_machine_laws.proofs.states.Rights.{not_some}

pub true_false : {A : Type 0} → true ≡ false → A
true_false e = cc

pub some_wait : (a b : Wait) → Some a ≡ Some b → a ≡ b
some_wait a b e = cc

pub no_wait : {A : Type 0} (n : ℕ) (o : Option Wait) → o ≡ None → IsWait n o → A
no_wait n None e i = absurd i
no_wait n (Some v) e i = cc

pub waits_has : (fs : List Frame) (v : Wait) → waits_for fs ≡ Some v → HasWait v.number fs
waits_has [] v e = not_some v e
waits_has (f ∷ fs) v e = inl (subst (IsWait v.number) (sym e) refl)

pub waits_stack : (fs : List Frame) (v : Wait) → waits_for fs ≡ Some v → StackWaits v fs
waits_stack [] v e = not_some v e
waits_stack (f ∷ fs) v e = inl e

pub stack_has : (v : Wait) (fs : List Frame) → StackWaits v fs → HasWait v.number fs
stack_has v [] s = absurd s
stack_has v (f ∷ fs) (inl e) = inl (subst (IsWait v.number) (sym e) refl)
stack_has v (f ∷ fs) (inr s) = inr (stack_has v fs s)

wait_in : (n : ℕ) (o : Option Wait) → IsWait n o → (v : Wait) × (o ≡ Some v) × (v.number ≡ n)
wait_in n None i = absurd i
wait_in n (Some v) i = (v, refl, i)

pub wait_of : (n : ℕ) (fs : List Frame) → HasWait n fs → (v : Wait) × StackWaits v fs × (v.number ≡ n)
wait_of n [] h = absurd h
wait_of n (f ∷ fs) (inl h) = let r = wait_in n f.waits h in (r.0, inl r.1, r.2)
wait_of n (f ∷ fs) (inr h) = let r = wait_of n fs h in (r.0, inr r.1, r.2)

pub popped_stack : (v : Wait) (fs : List Frame) → StackWaits v (popped fs) → StackWaits v fs
popped_stack v [] s = absurd s
popped_stack v (f ∷ fs) s = inr s

-- the waits of a stack grow older downwards
pub lower_older : (fs : List Frame) (top v : Wait) → IsOrdered fs → waits_for fs ≡ Some top → StackWaits v (popped fs)
    → v.number < top.number
lower_older [] top v is at s = absurd s
lower_older (f ∷ fs) top v is at s = is.2 top at v.number (stack_has v fs s)

pub top_newest : (fs : List Frame) (top v : Wait) → IsOrdered fs → waits_for fs ≡ Some top → StackWaits v fs
    → v.number ≤ top.number
top_newest [] top v is at s = absurd s
top_newest (f ∷ fs) top v is at (inl e) = let same : v ≡ top = some_wait v top
    (sym e ∙ at) in let n : v.number ≡ top.number = ap (λ (x : Wait). x.number) same in omega (arith, n)
top_newest (f ∷ fs) top v is at (inr s) = let lt = is.2 top at v.number (stack_has v fs s) in omega (arith, lt)

pub same_wait : (fs : List Frame) → IsOrdered fs → (u v : Wait) → StackWaits u fs → StackWaits v fs
    → u.number ≡ v.number → u ≡ v
same_wait [] is u v s t e = absurd s
same_wait (f ∷ fs) is u v (inl s) (inl t) e = some_wait u v (sym s ∙ t)
same_wait (f ∷ fs) is u v (inl s) (inr t) e = absurd
    (let lt = is.2 u s v.number (stack_has v fs t) in omega (arith, lt, e))
same_wait (f ∷ fs) is u v (inr s) (inl t) e = absurd
    (let lt = is.2 v t u.number (stack_has u fs s) in omega (arith, lt, e))
same_wait (f ∷ fs) is u v (inr s) (inr t) e = same_wait fs is.1 u v s t e

pub cons_empty : {A : Type 0} (f : Frame) (fs : List Frame) → f ∷ fs ≡ [] → A
cons_empty f fs e = cc

-- who waits below has passed its rights
pub lower_passes : (fs : List Frame) → IsOrdered fs → (v : Wait) → StackWaits v (popped fs) → v.passing ≡ true
lower_passes [] is v s = absurd s
lower_passes (f ∷ []) is v s = absurd s
lower_passes (f ∷ g ∷ gs) is v (inr s) = lower_passes (g ∷ gs) is.1 v s
lower_passes (f ∷ g ∷ gs) is v (inl e) = by f.origin is.0
  where
    by : (o : Option Request) → IsBegun o (g ∷ gs) → v.passing ≡ true
    by None b = not_some v (sym b ∙ e)
    by (Some r) b = ⊎_elim (λ z. cons_empty g gs z)
        (λ (p : HasPassed (g ∷ gs)). ap (λ (x : Wait). x.passing) (some_wait v p.0 (sym e ∙ p.1)) ∙ p.2) b.1

-- an open wait that is not the top one stands below
pub open_top : (g : Handler) (v top : Wait) → IsOrdered g.stack → waits_for g.stack ≡ Some top → StackWaits v g.stack
    → (v ≡ top) ⊎ StackWaits v (popped g.stack)
open_top g v top is at s = by g.stack at s
  where
    by : (fs : List Frame) → waits_for fs ≡ Some top → StackWaits v fs → (v ≡ top) ⊎ StackWaits v (popped fs)
    by [] at s = absurd s
    by (f ∷ fs) at (inl e) = inl (some_wait v top (sym e ∙ at))
    by (f ∷ fs) at (inr s) = inr s
