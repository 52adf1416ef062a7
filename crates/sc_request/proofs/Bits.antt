-- Sets of numbers as the bits of words: one is taken out, another set is added or taken out, and the least from a number on is found.
use Rattle.std.proofs.Common.{◌≡◌, ◌≢◌, ℕ, zero, suc, ◌+◌, ◌-◌, ◌*◌, ◌/◌, ◌%◌, ◌^◌, ◌<◌, ◌≤◌, ◌==◌, ◌&&◌, ◌||◌, Bool, true, false, not, List, [], length, max, min, slice_index_or, slice_set, bit_and, bit_or, bit_xor, w64, inl, inr, refl, sym, ap, ◌∙◌, arith, get_or-set_same, get_or-set_other}
use Rattle.std.proofs.lemmas.Bool.{cases_eq, cases_lt, eq-eqb, ne_eqb}
use Rattle.std.proofs.lemmas.Nat.{shr-shr, shr_le}
use Rattle.std.proofs.lemmas.Nat.Bits.{bit_at_and, bit_at_or, bit_at_xor, bit_at-zero, bit_at-lt, bit_at_above, bit_at-trailing_zeros, bit_at_clear_same, bit_at_clear_other}
use Rattle.std.specs.Int.{bit_at, bit_not, trailing_zeros}
use Rattle.sc_lockpass.specs.Tables.{is_member}
use Rattle.sc_request.specs.Candidates.{HasNoneIn, IsFirstIn}

-- ---- one is taken out

-- the words of a set, with the bit of a number cleared
abbrev pub without_bit : List ℕ → ℕ → List ℕ
without_bit words h = slice_set words (h / 64) (bit_and (slice_index_or words (h / 64) 0) (bit_not w64 (1 * 2 ^ (h % 64) % 18446744073709551616)))

cleared_in_word : (w h k : ℕ) → k / 64 ≡ h / 64 →
    (bit_at (bit_and w (bit_not w64 (1 * 2 ^ (h % 64) % 18446744073709551616))) (k % 64) == 1) ≡ (not (k == h) && bit_at w (k % 64) == 1)
cleared_in_word w h k same =
    let within : h % 64 < 64 = omega arith in
    elim (cases_eq k h) [
      | inl e ↦ rw (eq-eqb k h e) (rw e (ap (λ b. b == 1) (bit_at_clear_same w64 w (h % 64) within)))
      | inr other ↦
          let apart : k % 64 ≢ h % 64 = λ e. other (omega (arith, e)) in
          let below : k % 64 < 64 = omega arith in
          rw (ne_eqb k h other, bit_at_clear_other w64 w (h % 64) within (k % 64) below apart) refl
    ]

pub is_member-without_bit : (words : List ℕ) (h k : ℕ) → h / 64 < length words → is_member (without_bit words h) k ≡ (not (k == h) && is_member words k)
is_member-without_bit words h k within =
    elim (cases_eq (k / 64) (h / 64)) [
      | inl same ↦ rw same (rw (get_or-set_same words (h / 64) (bit_and (slice_index_or words (h / 64) 0) (bit_not w64 (1 * 2 ^ (h % 64) % 18446744073709551616))) 0 within) (cleared_in_word (slice_index_or words (h / 64) 0) h k same))
      | inr other ↦
          let apart : k ≢ h = λ e. other (ap (λ n. n / 64) e) in
          rw (get_or-set_other words (h / 64) (k / 64) (bit_and (slice_index_or words (h / 64) 0) (bit_not w64 (1 * 2 ^ (h % 64) % 18446744073709551616))) 0 other, ne_eqb k h apart) refl
    ]

-- ---- another set is added

or_bits : (x y : ℕ) → x < 2 → y < 2 → (max x y == 1) ≡ (x == 1 || y == 1)
or_bits zero zero l u = refl
or_bits zero (suc zero) l u = refl
or_bits (suc zero) zero l u = refl
or_bits (suc zero) (suc zero) l u = refl
or_bits (suc (suc x)) y l u = absurd (omega (arith, l))
or_bits x (suc (suc y)) l u = absurd (omega (arith, u))

pub added_here : (old other new : List ℕ) (k : ℕ) → slice_index_or new (k / 64) 0 ≡ bit_or (slice_index_or old (k / 64) 0) (slice_index_or other (k / 64) 0) →
    is_member new k ≡ (is_member old k || is_member other k)
added_here old other new k e =
    let a = slice_index_or old (k / 64) 0 in
    let b = slice_index_or other (k / 64) 0 in
    ap (λ w. bit_at w (k % 64) == 1) e ∙ ap (λ x. x == 1) (bit_at_or a b (k % 64)) ∙ or_bits (bit_at a (k % 64)) (bit_at b (k % 64)) (bit_at-lt a (k % 64)) (bit_at-lt b (k % 64))

or-false : (b : Bool) → (b || false) ≡ b
or-false true = refl
or-false false = refl

pub added_past : (old other new : List ℕ) (k : ℕ) → slice_index_or new (k / 64) 0 ≡ slice_index_or old (k / 64) 0 → slice_index_or other (k / 64) 0 ≡ 0 →
    is_member new k ≡ (is_member old k || is_member other k)
added_past old other new k e none =
    let empty : is_member other k ≡ false = ap (λ w. bit_at w (k % 64) == 1) none ∙ ap (λ x. x == 1) (bit_at-zero (k % 64)) in
    ap (λ w. bit_at w (k % 64) == 1) e ∙ sym (or-false (is_member old k)) ∙ ap (λ b. is_member old k || b) (sym empty)

-- ---- another set is taken out

left_bits : (x y : ℕ) → x < 2 → y < 2 → ((x + min x y) % 2 == 1) ≡ (not (y == 1) && x == 1)
left_bits zero zero l u = refl
left_bits zero (suc zero) l u = refl
left_bits (suc zero) zero l u = refl
left_bits (suc zero) (suc zero) l u = refl
left_bits (suc (suc x)) y l u = absurd (omega (arith, l))
left_bits x (suc (suc y)) l u = absurd (omega (arith, u))

pub taken_out_here : (old other new : List ℕ) (k : ℕ) →
    slice_index_or new (k / 64) 0 ≡ bit_xor (slice_index_or old (k / 64) 0) (bit_and (slice_index_or old (k / 64) 0) (slice_index_or other (k / 64) 0)) →
    is_member new k ≡ (not (is_member other k) && is_member old k)
taken_out_here old other new k e =
    let a = slice_index_or old (k / 64) 0 in
    let b = slice_index_or other (k / 64) 0 in
    ap (λ w. bit_at w (k % 64) == 1) e
    ∙ ap (λ x. x == 1) (bit_at_xor a (bit_and a b) (k % 64) ∙ ap (λ x. (bit_at a (k % 64) + x) % 2) (bit_at_and a b (k % 64)))
    ∙ left_bits (bit_at a (k % 64)) (bit_at b (k % 64)) (bit_at-lt a (k % 64)) (bit_at-lt b (k % 64))

pub taken_out_past : (old other new : List ℕ) (k : ℕ) → slice_index_or new (k / 64) 0 ≡ slice_index_or old (k / 64) 0 → slice_index_or other (k / 64) 0 ≡ 0 →
    is_member new k ≡ (not (is_member other k) && is_member old k)
taken_out_past old other new k e none =
    let empty : is_member other k ≡ false = ap (λ w. bit_at w (k % 64) == 1) none ∙ ap (λ x. x == 1) (bit_at-zero (k % 64)) in
    ap (λ w. bit_at w (k % 64) == 1) e ∙ ap (λ b. not b && is_member old k) (sym empty)

-- nothing is in a set without words
pub none_in_nothing : (k : ℕ) → is_member [] k ≡ false
none_in_nothing k = ap (λ x. x == 1) (bit_at-zero (k % 64))

-- ---- the least from a number on

-- a bit of the word from the number's bit on
shifted : (w s i : ℕ) → bit_at (w / 2 ^ s) i ≡ bit_at w (s + i)
shifted w s i = ap (λ x. x % 2) (shr-shr w s i)

-- the bit of a number of the same word
in_rest : (words : List ℕ) (at j : ℕ) → at ≤ j → j / 64 ≡ at / 64 →
    is_member words j ≡ (bit_at (slice_index_or words (at / 64) 0 / 2 ^ (at % 64)) (j - at) == 1)
in_rest words at j start same =
    let place : j % 64 ≡ at % 64 + (j - at) = omega (arith, start, same) in
    ap (λ q. bit_at (slice_index_or words q 0) (j % 64) == 1) same
    ∙ ap (λ i. bit_at (slice_index_or words (at / 64) 0) i == 1) place
    ∙ ap (λ b. b == 1) (sym (shifted (slice_index_or words (at / 64) 0) (at % 64) (j - at)))

-- none of the word is left
pub none_in_rest : (words : List ℕ) (at rest : ℕ) → rest ≡ slice_index_or words (at / 64) 0 / 2 ^ (at % 64) → rest ≡ 0 →
    HasNoneIn words at ((at / 64 + 1) * 64)
none_in_rest words at rest e empty j start end =
    let same : j / 64 ≡ at / 64 = omega (arith, start, end) in
    in_rest words at j start same ∙ ap (λ w. bit_at w (j - at) == 1) (sym e ∙ empty) ∙ ap (λ b. b == 1) (bit_at-zero (j - at))

-- the lowest bit that is left is that of the least number
pub lowest : (words : List ℕ) (at rest : ℕ) → rest ≡ slice_index_or words (at / 64) 0 / 2 ^ (at % 64) → slice_index_or words (at / 64) 0 < 2 ^ 64 → 0 < rest →
    ((at + trailing_zeros w64 rest) / 64 ≡ at / 64) × (is_member words (at + trailing_zeros w64 rest) ≡ true) × HasNoneIn words at (at + trailing_zeros w64 rest)
lowest words at rest e fits some =
    let word = slice_index_or words (at / 64) 0 in
    let t = trailing_zeros w64 rest in
    let small : rest < 2 ^ 64 = omega (arith, e, fits, shr_le word (at % 64)) in
    let bits = bit_at-trailing_zeros w64 rest some small in
    let set : bit_at word (at % 64 + t) ≡ 1 = sym (shifted word (at % 64) t) ∙ ap (λ w. bit_at w t) (sym e) ∙ bits.1 in
    let within : at % 64 + t < 64 = elim (cases_lt (at % 64 + t) 64) [
      | inl l ↦ l
      | inr beyond ↦ let never : ◌≡◌ {A = ℕ} 0 1 = sym (bit_at_above word 64 (at % 64 + t) fits beyond) ∙ set in omega (arith, never)
    ] in
    let same : (at + t) / 64 ≡ at / 64 = omega (arith, within) in
    let here : (at + t) - at ≡ t = omega arith in
    let start : at ≤ at + t = omega arith in (
      same,
      in_rest words at (at + t) start same ∙ ap (λ w. bit_at w ((at + t) - at) == 1) (sym e) ∙ ap (λ i. bit_at rest i == 1) here ∙ ap (λ b. b == 1) bits.1,
      λ j first end.
          let in_word : j / 64 ≡ at / 64 = omega (arith, first, end, within) in
          let before : j - at < t = omega (arith, first, end) in
          in_rest words at j first in_word ∙ ap (λ w. bit_at w (j - at) == 1) (sym e) ∙ ap (λ b. b == 1) (bits.2 (j - at) before),
    )

pub lowest_in_rest : (words : List ℕ) (at to rest : ℕ) → rest ≡ slice_index_or words (at / 64) 0 / 2 ^ (at % 64) → slice_index_or words (at / 64) 0 < 2 ^ 64 →
    0 < rest → at + trailing_zeros w64 rest < to → IsFirstIn words at to (at + trailing_zeros w64 rest)
lowest_in_rest words at to rest e fits some below =
    let low = lowest words at rest e fits some in
    record {
      start = omega arith;
      below = below;
      member = low.1;
      least = low.2;
    }

-- what is empty up to a number, and from there on
pub none_more : (words : List ℕ) (from at to : ℕ) → HasNoneIn words from at → HasNoneIn words at to → HasNoneIn words from to
none_more words from at to before behind k start end = elim (cases_lt k at) [
  | inl l ↦ before k start l
  | inr l ↦ behind k l end
]

pub none_fewer : (words : List ℕ) (from at to : ℕ) → to ≤ at → HasNoneIn words from at → HasNoneIn words from to
none_fewer words from at to l none k start end = none k start (omega (arith, l, end))

-- where the least from there on is below, it is the least
pub first_more : (words : List ℕ) (from at to k : ℕ) → from ≤ at → HasNoneIn words from at → IsFirstIn words at to k → IsFirstIn words from to k
first_more words from at to k start before is =
    let l = is.start in
    record { start = omega (arith, start, l); below = is.below; member = is.member; least = none_more words from at k before is.least }
