-- Passing and giving back, right by right.
use Rattle.std.proofs.Common.{◌≡◌, ◌≢◌, ◌⊎◌, inl, inr, ℕ, List, [], ◌∷◌, Some, None, Bool, true, false, ◌==◌, refl, ap, arith}
use Rattle.std.proofs.lemmas.Bool.{eq-eqb}
use Rattle.std.proofs.lemmas.Bool.Decides.{nat_tests}
use Rattle.std.specs.Prelude.{if◌then◌else◌}
use Rattle.sc_machine_laws.specs.states.World.{Grant, put, holder, has, passed_on}

pub put-same : {X : Type 0} (h : ℕ) (x : X) (f : ℕ → X) → put h x f h ≡ x
put-same {X} h x f = ap (λ (b : Bool). if b then x else f h) (eq-eqb h h refl)

pub differs : (k h : ℕ) → k ≢ h → (k == h) ≡ false
differs k h ne = grind (arith, nat_tests)

pub put-other : {X : Type 0} (h : ℕ) (x : X) (f : ℕ → X) (k : ℕ) → k ≢ h → put h x f k ≡ f k
put-other {X} h x f k ne =
    let no : (k == h) ≡ false = grind (arith, nat_tests) in
    ap (λ (b : Bool). if b then x else f k) no

pub not_some : {X A : Type 0} (x : X) → None ≡ Some x → A
not_some x e = cc

pub has_holder : (c : ℕ) (t : List Grant) → has c t ≡ true → holder t ≡ Some c
has_holder c [] e = cc
has_holder c (d ∷ t) e =
    let is : d.holder ≡ c = grind (arith, nat_tests) in
    ap Some is

pub holder_has : (c : ℕ) (t : List Grant) → holder t ≡ Some c → has c t ≡ true
holder_has c [] e = cc
holder_has c (d ∷ t) e =
    let is : d.holder ≡ c = cc in
    eq-eqb d.holder c is

-- who holds a right after c has passed all
pub after_pass : (c x : ℕ) (e : Grant) (t : List Grant) → holder (passed_on c e t) ≡ Some x
    → ((holder t ≡ Some c) × (e.holder ≡ x)) ⊎ ((holder t ≡ Some x) × (has c t ≡ false))
after_pass c x e t is = by (has c t) refl is
  where
    by : (b : Bool) → has c t ≡ b → holder (if b then e ∷ t else t) ≡ Some x → ((holder t ≡ Some c) × (e.holder ≡ x))
        ⊎ ((holder t ≡ Some x) × (has c t ≡ false))
    by true so i = inl (has_holder c t so, cc)
    by false so i = inr (i, so)
