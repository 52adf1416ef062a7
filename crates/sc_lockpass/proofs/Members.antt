-- Sets of numbers as the bits of words.
use Rattle.std.proofs.Common.{◌≡◌, ◌≢◌, ℕ, ◌*◌, ◌/◌, ◌%◌, ◌^◌, ◌<◌, ◌==◌, ◌||◌, List, length, slice_index_or, slice_set, bit_or, w64, inl, inr, refl, ap, arith, get_or-set_same, get_or-set_other}
use Rattle.std.proofs.lemmas.Bool.{cases_eq, eq-eqb, ne_eqb}
use Rattle.std.proofs.lemmas.Nat.Bits.{bit_at_set_same, bit_at_set_other}
use Rattle.std.specs.Int.{bit_at}
use Rattle.sc_lockpass.specs.Tables.{is_member}

-- the words of a set, with the bit of a number set
abbrev pub with_bit : List ℕ → ℕ → List ℕ
with_bit words h = slice_set words (h / 64) (bit_or (slice_index_or words (h / 64) 0) (1 * 2 ^ (h % 64) % 18446744073709551616))

-- the bit at a place of the word that changed
in_word : (w h k : ℕ) → k / 64 ≡ h / 64 →
    (bit_at (bit_or w (1 * 2 ^ (h % 64) % 18446744073709551616)) (k % 64) == 1) ≡ (k == h || bit_at w (k % 64) == 1)
in_word w h k same =
    let within : h % 64 < 64 = omega arith in
    elim (cases_eq k h) [
      | inl e ↦ rw (eq-eqb k h e) (rw e (eq-eqb _ _ (bit_at_set_same w64 w (h % 64) within)))
      | inr other ↦
          let apart : k % 64 ≢ h % 64 = λ e. other (omega (arith, e)) in
          rw (ne_eqb k h other, bit_at_set_other w64 w (h % 64) within (k % 64) apart) refl
    ]

-- a number is in the set with another bit exactly where it is that bit's, or was in the set
pub is_member-with_bit : (words : List ℕ) (h k : ℕ) → h / 64 < length words → is_member (with_bit words h) k ≡ (k == h || is_member words k)
is_member-with_bit words h k within =
    elim (cases_eq (k / 64) (h / 64)) [
      | inl same ↦ rw same (rw (get_or-set_same words (h / 64) (bit_or (slice_index_or words (h / 64) 0) (1 * 2 ^ (h % 64) % 18446744073709551616)) 0 within) (in_word (slice_index_or words (h / 64) 0) h k same))
      | inr other ↦
          let apart : k ≢ h = λ e. other (ap (λ n. n / 64) e) in
          rw (get_or-set_other words (h / 64) (k / 64) (bit_or (slice_index_or words (h / 64) 0) (1 * 2 ^ (h % 64) % 18446744073709551616)) 0 other, ne_eqb k h apart) refl
    ]
