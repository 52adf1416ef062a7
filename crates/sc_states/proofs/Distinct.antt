-- Lists without repetitions.
use Rattle.std.proofs.Common.{◌≡◌, ◌⊎◌, ◌++◌, ◌∷◌, [], ◌∙◌, inl, inr, ℕ, zero, suc, List, Some, length, slice_get, refl, sym, ap}
use Rattle.sc_states.specs.Distinct.{AreDistinct}

-- what stands in the longer list stood before, or is the last one, at its place
get_split : {X : Type 0} (xs : List X) (x : X) (i : ℕ) (k : X) → slice_get (xs ++ x ∷ []) i ≡ Some k → (slice_get xs i ≡ Some k) ⊎ ((i ≡ length xs) × (k ≡ x))
get_split [] x zero k e = inr (refl, cc)
get_split [] x (suc i) k e = cc
get_split (y ∷ xs) x zero k e = inl e
get_split (y ∷ xs) x (suc i) k e = elim (get_split xs x i k e) [
  | inl before ↦ inl before
  | inr last ↦ inr (ap (λ (n : ℕ). suc n) last.0, last.1)
]

pub distinct_more : {X : Type 0} (xs : List X) (x : X) → AreDistinct xs → ((i : ℕ) → slice_get xs i ≡ Some x → ⊥) → AreDistinct (xs ++ x ∷ [])
distinct_more xs x distinct new = λ i j k at_i at_j. elim (get_split xs x i k at_i) [
  | inl before ↦ elim (get_split xs x j k at_j) [
    | inl too ↦ distinct i j k before too
    | inr last ↦ absurd (new i (before ∙ ap Some last.1))
  ]
  | inr last ↦ elim (get_split xs x j k at_j) [
    | inl too ↦ absurd (new j (too ∙ ap Some last.1))
    | inr both ↦ last.0 ∙ sym both.0
  ]
]
