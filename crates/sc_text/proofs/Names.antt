-- A name ends where no character of the text is cut.
use Rattle.std.proofs.Common.{◌≡◌, ℕ, zero, suc, ◌+◌, ◌<◌, true, List, ◌∷◌, length, drop, get_or, ap, sym, subst, ◌∙◌, arith, IsUtf8}
use Rattle.std.specs.Prelude.{if◌then◌else◌, slice_index}
use Rattle.std.specs.List.{prefix_len}
use Rattle.std.specs.Str.{IsCharBoundary}
use Rattle.std.proofs.lemmas.Bool.Decides.{nat_tests}
use Rattle.std.proofs.lemmas.List.{drop_more}
use Rattle.std.proofs.lemmas.List.Sums.{prefix_len-le-length, prefix_len_passes}
use Rattle.std.proofs.lemmas.Str.{IsCharBoundary-after_ascii}
use Rattle.sc_text.specs.Characters.{is_letter, is_name_part}
use Rattle.sc_text.proofs.Classes.{letter_name_part}

-- a name has a letter at least
is_some_long : (text : List ℕ) (place : ℕ) → place < length text → is_letter (get_or text place 0) ≡ true → 0 < prefix_len is_name_part (drop place text)
is_some_long text place within e =
    subst (λ cs. 0 < prefix_len is_name_part cs) there longer
  where
    there : get_or text place 0 ∷ drop (place + 1) text ≡ drop place text
    there = sym (drop_more text place 0 within)

    one_more : (n : ℕ) → 0 < 1 + n
    one_more n = omega arith

    longer : 0 < prefix_len is_name_part (get_or text place 0 ∷ drop (place + 1) text)
    longer =
        subst (λ b. 0 < (if b then 1 + prefix_len is_name_part (drop (place + 1) text) else 0)) (sym (letter_name_part (get_or text place 0) e))
        (one_more (prefix_len is_name_part (drop (place + 1) text)))

ends : (rest : List ℕ) (n : ℕ) → IsUtf8 rest → n ≡ prefix_len is_name_part rest → 0 < n → IsCharBoundary rest n
ends rest zero utf8 e some = absurd (never some)
  where
    never : 0 < 0 → ⊥
    never l = omega (arith, l)
ends rest (suc m) utf8 e some =
    subst (IsCharBoundary rest) next (IsCharBoundary-after_ascii rest m utf8 within (small (get_or rest m 0) (prefix_len_passes is_name_part rest m 0 before)))
  where
    next : m + 1 ≡ suc m
    next = omega arith

    before : m < prefix_len is_name_part rest
    before = omega (arith, e)

    within : m < length rest
    within = let most = prefix_len-le-length is_name_part rest in omega (arith, e, most)

    small : (c : ℕ) → is_name_part c ≡ true → c < 128
    small c e = grind (arith, nat_tests)

-- The name that a letter begins at a place of the text.
pub name_ends : (text rest bytes : List ℕ) (place n : ℕ) → place < length text → is_letter (slice_index text place) ≡ true → IsUtf8 rest → bytes ≡ rest → rest ≡ drop place text →
    n ≡ prefix_len is_name_part bytes → IsCharBoundary rest n
name_ends text rest bytes place n within begins utf8 same behind long =
    let length_is : n ≡ prefix_len is_name_part rest = long ∙ ap (prefix_len is_name_part) same in
    let longer = is_some_long text place within begins in
    let some : 0 < n = let there = length_is ∙ ap (prefix_len is_name_part) behind in omega (arith, there, longer) in
    ends rest n utf8 length_is some
