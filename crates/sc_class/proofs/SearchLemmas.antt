-- What searches find, one behind the other.
use Rattle.std.proofs.Common.{◌≡◌, ◌<◌, ◌≤◌, ℕ, Bool, true, false, Option, Some, None, refl, ap, arith, ◌⊎◌, inl, inr}
use Rattle.std.specs.Prelude.{nat_lt, if◌then◌else◌}
use Rattle.sc_class.specs.Internal.Found.{FindsFirst, first_placed}

-- ---- the first of what is found

-- where all of them are this one
pub only_one : {X : Type 0} (start : X → ℕ) {P : X → Type 0} (x : X) → P x → ((y : X) → P y → y ≡ x) → FindsFirst start P (Some x)
only_one start x p all = (p, λ y q. let same : start y ≡ start x = ap start (all y q) in omega (arith, same))

pub first_same : {X : Type 0} (start : X → ℕ) {P Q : X → Type 0} (o : Option X) → ((p : X) → P p → Q p) → ((p : X) → Q p → P p) → FindsFirst start P o → FindsFirst start Q o
first_same start None f g h = λ p q. h p (g p q)
first_same start (Some p) f g h = (f p h.0, λ y q. h.1 y (g y q))

pub first_either : {X : Type 0} (start : X → ℕ) {P Q R : X → Type 0} (a b : Option X) → ((p : X) → P p → R p) → ((p : X) → Q p → R p) → ((p : X) → R p → P p ⊎ Q p) → FindsFirst start P a → FindsFirst start Q b → FindsFirst start R (first_placed start a b)
first_either {X} start {P} {Q} {R} None None f g h i j = λ p r. by p (h p r)
  where
    by : (p : X) → P p ⊎ Q p → ⊥
    by p (inl x) = i p x
    by p (inr y) = j p y
first_either {X} start {P} {Q} {R} None (Some q) f g h i j = (g q j.0, λ y r. by y (h y r))
  where
    by : (y : X) → P y ⊎ Q y → start q ≤ start y
    by y (inl x) = absurd (i y x)
    by y (inr z) = j.1 y z
first_either {X} start {P} {Q} {R} (Some p) None f g h i j = (f p i.0, λ y r. by y (h y r))
  where
    by : (y : X) → P y ⊎ Q y → start p ≤ start y
    by y (inl x) = i.1 y x
    by y (inr z) = absurd (j y z)
first_either {X} start {P} {Q} {R} (Some p) (Some q) f g h i j = by (nat_lt (start q) (start p)) refl
  where
    before : nat_lt (start q) (start p) ≡ true → start q < start p
    before e = grind arith

    behind : nat_lt (start q) (start p) ≡ false → start p ≤ start q
    behind e = grind arith

    least_q : start q < start p → (y : X) → P y ⊎ Q y → start q ≤ start y
    least_q l y (inl x) = let m : start p ≤ start y = i.1 y x in omega (arith, l, m)
    least_q l y (inr z) = j.1 y z

    least_p : start p ≤ start q → (y : X) → P y ⊎ Q y → start p ≤ start y
    least_p l y (inl x) = i.1 y x
    least_p l y (inr z) = let m : start q ≤ start y = j.1 y z in omega (arith, l, m)

    by : (b : Bool) → nat_lt (start q) (start p) ≡ b → FindsFirst start R (if b then Some q else Some p)
    by true e = (g q j.0, λ y r. least_q (before e) y (h y r))
    by false e = (f p i.0, λ y r. least_p (behind e) y (h y r))
