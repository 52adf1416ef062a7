-- Turns that are made one after the other, from the first on or behind one.
use Rattle.std.proofs.Common.{◌≡◌, ℕ, zero, suc, ◌+◌, ◌<◌, Bool, true, false, refl, sym, ◌∙◌, subst, arith}
use Rattle.sc_region.specs.declared.job.Job.{Job}
use Rattle.sc_region.specs.declared.job.Want.{Want}
use Rattle.sc_region.specs.declared.job.Want.TheVariants as want
use Rattle.sc_region.specs.Stores.{PlainStore}
use Rattle.sc_play.specs.Turns.{AreMade, TurnOf, Turns, first, more}

-- one turn more
made_next : (n h : ℕ) (is_told : Bool) (j : Job) (x y z : PlainStore) (w v : Want) → AreMade n h is_told j x y w → w ≡ want.Continue → TurnOf h y z v →
    AreMade (suc n) h is_told j x z v
made_next zero h is_told j x y z w v made nothing turn = first {y = z} {w = v} (made.1 z v turn)
made_next (suc n) h is_told j x y z w v made nothing turn =
    let same : suc n + 1 ≡ suc (suc n) = omega arith in
    subst (λ (k : ℕ). Turns h is_told j x k z v) same (more (subst (λ (u : Want). Turns h is_told j x (suc n) y u) nothing made) turn)

pub made_more : (n h : ℕ) (is_told : Bool) (j : Job) (x y z : PlainStore) (w v : Want) → AreMade n h is_told j x y w → w ≡ want.Continue → TurnOf h y z v →
    AreMade (n + 1) h is_told j x z v
made_more n h is_told j x y z w v made nothing turn =
    let same : suc n ≡ n + 1 = omega arith in
    subst (λ (k : ℕ). AreMade k h is_told j x z v) same (made_next n h is_told j x y z w v made nothing turn)

-- they are turns, where there are some
pub are_turns : (n h : ℕ) (is_told : Bool) (j : Job) (x y : PlainStore) (w : Want) → 0 < n → AreMade n h is_told j x y w → Turns h is_told j x n y w
are_turns zero h is_told j x y w some made = absurd (omega (arith, some))
are_turns (suc n) h is_told j x y w some made = made

-- there are some where something is asked
pub some_made : (n : ℕ) (P : Type 0) (b : Bool) → (P → b ≡ true) → b ≡ false → (n ≡ 0 → P) → 0 < n
some_made zero P b is isnt p = let same : false ≡ true = sym isnt ∙ is (p refl) in absurd (cc)
some_made (suc n) P b is isnt p = omega arith
