-- A word and the same in lower case are the same reserved word, or none.
use Rattle.std.proofs.Common.{◌≡◌, ℕ, List, [], ◌∷◌, map, Option, true, refl, ap, sym, ◌∙◌}
use Rattle.std.specs.Prelude.{bytes_eq}
use Rattle.std.specs.Char.{to_ascii_lowercase}
use Rattle.std.proofs.lemmas.Slice.Eq.{bytes_eq-Decides}
use Rattle.std.proofs.lemmas.Str.Ascii.{lowercase-lowercase}
use Rattle.sc_text.specs.declared.token.Terminal.{Terminal}
use Rattle.sc_text.specs.Reading.Front.{kind_of_lower, kind_of_word}
use Rattle.sc_text.specs.Words.{reserved, reserved_words, word_among}

lowered_twice : (cs : List ℕ) → map to_ascii_lowercase (map to_ascii_lowercase cs) ≡ map to_ascii_lowercase cs
lowered_twice [] = refl
lowered_twice (c ∷ cs) = rw (lowercase-lowercase c, lowered_twice cs) refl

lowered_among : (ws : List (List ℕ × Terminal)) (cs : List ℕ) → word_among ws (map to_ascii_lowercase cs) ≡ word_among ws cs
lowered_among [] cs = refl
lowered_among (w ∷ ws) cs = rw (lowered_twice cs, lowered_among ws cs) refl

pub reserved_lowered : (cs : List ℕ) → reserved (map to_ascii_lowercase cs) ≡ reserved cs
unfolding reserved
reserved_lowered cs = lowered_among reserved_words cs

-- what is kept with a word that was met
pub kept_is : (low cs : List ℕ) (t : Option Terminal) → low ≡ map to_ascii_lowercase cs → t ≡ reserved cs → reserved low ≡ t
kept_is low cs t e f = ap reserved e ∙ reserved_lowered cs ∙ sym f

-- What is kept with a word says what the same word is, in any letter case.
pub kept_stands : (low cs : List ℕ) (t : Option Terminal) → bytes_eq low (map to_ascii_lowercase cs) ≡ true → reserved low ≡ t →
    kind_of_lower low t ≡ kind_of_word cs (reserved cs)
kept_stands low cs t e f =
    let same = (bytes_eq-Decides low (map to_ascii_lowercase cs)).0 e in
    rw (sym f, same, reserved_lowered cs) refl
