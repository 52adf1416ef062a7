-- Handlers that are done.
use Rattle.std.proofs.Common.{◌≡◌, ◌∙◌, ℕ, zero, suc, ◌+◌, ◌-◌, ◌<◌, ◌&&◌, Bool, true, false, refl, ap, subst, arith}
use Rattle.sc_request.specs.Logs.{Center}
use Rattle.sc_test_cases.specs.Passing.{are_done, is_done}

first_not : (b d : Bool) → b ≡ false → (b && d) ≡ false
first_not false d e = refl
first_not true d e = cc

second_not : (b d : Bool) → d ≡ false → (b && d) ≡ false
second_not false d e = refl
second_not true d e = e

-- the number that is so much greater than the next one
further : ℕ → ℕ → ℕ
further zero h = suc h
further (suc k) h = suc (further k h)

further_is : (h k : ℕ) → further k h ≡ k + suc h
unfolding further
further_is h zero = let now : suc h ≡ zero + suc h = omega arith in now
further_is h (suc k) = let next : suc (k + suc h) ≡ suc k + suc h = omega arith in ap suc (further_is h k) ∙ next

undone_from : (c : Center) (h k : ℕ) → is_done h c ≡ false → are_done (further k h) c ≡ false
unfolding further
undone_from c h zero not = first_not (is_done h c) (are_done h c) not
undone_from c h (suc k) not = second_not (is_done (further k h) c) (are_done (further k h) c) (undone_from c h k not)

-- where one handler isn't, not all are
pub one_undone : (c : Center) (h n : ℕ) → h < n → is_done h c ≡ false → are_done n c ≡ false
one_undone c h n below not =
    let all : (n - suc h) + suc h ≡ n = omega (arith, below) in
    subst (λ (m : ℕ). are_done m c ≡ false) (further_is h (n - suc h) ∙ all) (undone_from c h (n - suc h) not)
