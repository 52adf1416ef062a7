-- How a world opens.
use Rattle.std.proofs.Common.{◌≡◌, ◌+◌, ℕ, zero, suc, List, [], ◌∷◌, ◌++◌, refl, sym, ap, ◌∙◌, add-one, arith}
use Rattle.sc_code.specs.declared.program.Image.{Image}
use Rattle.sc_play.specs.Regions.{PlainRegion, new_region}
use Rattle.sc_world.specs.Worlds.{new_regions}

pub regions-none : (p : Image) (h : ℕ) → new_regions p h 0 ≡ []
unfolding new_regions
regions-none p h = refl

regions-behind : (p : Image) (h n : ℕ) → new_regions p h (suc n) ≡ new_regions p h n ++ new_region p (h + n) ∷ []
unfolding new_regions
regions-behind p h zero = let same : h ≡ h + 0 = omega arith in ap (λ (k : ℕ). new_region p k ∷ []) same
regions-behind p h (suc n) =
    let same : suc h + n ≡ h + suc n = omega arith in
    ap (λ (xs : List PlainRegion). new_region p h ∷ xs) (regions-behind p (suc h) n)
    ∙ ap (λ (k : ℕ). new_region p h ∷ (new_regions p (suc h) n ++ new_region p k ∷ [])) same

-- one region more
pub regions-more : (p : Image) (n : ℕ) (xs ys : List PlainRegion) (x : PlainRegion) → xs ≡ new_regions p 0 n → x ≡ new_region p n → ys ≡ xs ++ x ∷ [] →
    ys ≡ new_regions p 0 (n + 1)
regions-more p n xs ys x so-far is more =
    let place : n ≡ 0 + n = omega arith in
    more ∙ ap (λ (r : PlainRegion). xs ++ r ∷ []) is ∙ ap (λ (rs : List PlainRegion). rs ++ new_region p n ∷ []) so-far
    ∙ ap (λ (k : ℕ). new_regions p 0 n ++ new_region p k ∷ []) place ∙ sym (regions-behind p 0 n)
    ∙ ap (λ (k : ℕ). new_regions p 0 k) (sym (add-one n))
