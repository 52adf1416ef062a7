-- A text is a reserved word only if it is as long, so that words of other lengths may be left out.
use Rattle.std.proofs.Common.{◌≡◌, ◌≢◌, ◌≤◌, ℕ, suc, Bool, true, false, nat_eq, List, [], ◌∷◌, length, Option, None, Some, refl, ap, sym, ◌∙◌, arith}
use Rattle.std.specs.Prelude.{nat_le, ◌==◌, ◌&&◌, if◌then◌else◌}
use Rattle.std.specs.Char.{to_ascii_lowercase}
use Rattle.std.specs.Cmp.{unsigned_Decides}
use Rattle.std.specs.Str.{str_eq_ignore_ascii_case}
use Rattle.sc_text.specs.declared.token.Terminal.{Terminal}
use Rattle.sc_text.specs.Words.{reserved, reserved_words, word_among}

and_false : (a b : Bool) → b ≡ false → (a && b) ≡ false
and_false true b e = e
and_false false b e = refl

not_both : {b : Bool} → b ≡ true → b ≡ false → ⊥
not_both e d = let q : true ≡ false = sym e ∙ d in cc

-- texts of two lengths
unlike : (a b : List ℕ) → length b ≢ length a → str_eq_ignore_ascii_case a b ≡ false
unlike [] [] d = absurd (d refl)
unlike [] (y ∷ b) d = refl
unlike (x ∷ a) [] d = refl
unlike (x ∷ a) (y ∷ b) d = and_false (nat_eq (to_ascii_lowercase x) (to_ascii_lowercase y)) (str_eq_ignore_ascii_case a b) (unlike a b (λ e. d (ap suc e)))

-- the words of this length
abbrev pub of_length : ℕ → List (List ℕ × Terminal) → List (List ℕ × Terminal)
of_length n [] = []
of_length n (w ∷ ws) = if length w.0 == n then w ∷ of_length n ws else of_length n ws

-- one word more, by whether it is of the length
one_more : (w : List ℕ × Terminal) (ws : List (List ℕ × Terminal)) (text : List ℕ) (b : Bool) → (length w.0 == length text) ≡ b →
    word_among ws text ≡ word_among (of_length (length text) ws) text → word_among (w ∷ ws) text ≡ word_among (of_length (length text) (w ∷ ws)) text
one_more w ws text true e h = rw e (ap (λ (r : Option Terminal). if str_eq_ignore_ascii_case text w.0 then Some w.1 else r) h)
one_more w ws text false e h = let f = unlike text w.0 (λ q. not_both ((unsigned_Decides (length w.0) (length text)).1 q) e) in rw (e, f) h

pub among_of_length : (ws : List (List ℕ × Terminal)) (text : List ℕ) → word_among ws text ≡ word_among (of_length (length text) ws) text
among_of_length [] text = refl
among_of_length (w ∷ ws) text = one_more w ws text (length w.0 == length text) refl (among_of_length ws text)

-- the reserved word that a text of this length is
pub reserved_among : (n : ℕ) (text : List ℕ) → length text ≡ n → reserved text ≡ word_among (of_length n reserved_words) text
unfolding reserved
reserved_among n text e = among_of_length reserved_words text ∙ ap (λ (k : ℕ). word_among (of_length k reserved_words) text) e

-- whether each of these words has two to ten letters
abbrev pub lie_within : List (List ℕ × Terminal) → Bool
lie_within [] = true
lie_within (w ∷ ws) = nat_le 2 (length w.0) && (nat_le (length w.0) 10 && lie_within ws)

and_first : (a b : Bool) → (a && b) ≡ true → a ≡ true
and_first true b e = refl
and_first false b e = e

and_second : (a b : Bool) → (a && b) ≡ true → b ≡ true
and_second true b e = e
and_second false b e = let q : true ≡ false = sym e in cc

le_of : (m n : ℕ) → nat_le m n ≡ true → m ≤ n
le_of m n e = grind arith

no_word : (n : ℕ) (ws : List (List ℕ × Terminal)) → ((k : ℕ) → 2 ≤ k → k ≤ 10 → k ≡ n → ⊥) → lie_within ws ≡ true → of_length n ws ≡ []
no_word n [] d h = refl
no_word n (w ∷ ws) d h =
    let few = and_second (nat_le 2 (length w.0)) _ h in
    let low = le_of 2 (length w.0) (and_first _ _ h) in
    let high = le_of (length w.0) 10 (and_first _ _ few) in
    no_more w ws n (length w.0 == n) refl (λ q. d (length w.0) low high q) (no_word n ws d (and_second (nat_le (length w.0) 10) _ few))
  where
    no_more : (w : List ℕ × Terminal) (ws : List (List ℕ × Terminal)) (n : ℕ) (b : Bool) → (length w.0 == n) ≡ b → (length w.0 ≡ n → ⊥) → of_length n ws ≡ [] → of_length n (w ∷ ws) ≡ []
    no_more w ws n true e d h = absurd (d ((unsigned_Decides (length w.0) n).0 e))
    no_more w ws n false e d h = rw e h

-- A text that has fewer than two or more than ten letters is no reserved word.
pub none_reserved : (text : List ℕ) → ((k : ℕ) → 2 ≤ k → k ≤ 10 → k ≡ length text → ⊥) → None ≡ reserved text
unfolding reserved_words
none_reserved text d =
    sym (reserved_among (length text) text refl ∙ ap (λ (ws : List (List ℕ × Terminal)). word_among ws text) (no_word (length text) reserved_words d refl))
