-- Reading gives each gap, token and fault that stands at the front of a text.
use Rattle.std.proofs.Common.{◌≡◌, ℕ, ◌+◌, Bool, true, false, List, [], ◌∷◌, ◌++◌, length, take, Option, Some, None, refl, ap, sym, ◌∙◌, append_assoc, append-nil, length-append, arith}
use Rattle.std.specs.Prelude.{◌&&◌, ◌==◌, is_some}
use Rattle.std.specs.List.{list_all, prefix_len}
use Rattle.std.proofs.lemmas.List.{take_at}
use Rattle.sc_text.specs.declared.token.Terminal.{Terminal}
use Rattle.sc_text.specs.declared.fault.LexFault.{LexFault}
use Rattle.sc_text.specs.declared.fault.LexFault.TheVariants as fault
use Rattle.sc_text.specs.Kind.{Kind, STRING, TERMINAL}
use Rattle.sc_text.specs.Characters.{is_white_space, is_letter, is_digit, is_name_part, is_comment_part, ends_line, escape, begins_with, digit_follows, decimal, quote, percent, hyphen}
use Rattle.sc_text.specs.Words.{long_symbol, short_symbol, goes_on}
use Rattle.sc_text.specs.Spelling.{span_at, IsWord, word as a_word, IsInteger, last_digit, digit, IsManifest, IsQuoted, pair, IsGap, white_space, comment, IsToken, name, reserved_word, integer as an_integer, manifest_string as a_manifest_string, long, short, IsFault, bad_character, unclosed_string, bad_escape, integer_too_large}
use Rattle.sc_text.specs.Reading.Lengths.{integer_end, closing}
use Rattle.sc_text.specs.Reading.Front.{Gap, Lexed, Flaw, kind_of_word, word_of, word, number, integer_of, integer, with_mark, marks_read, manifest_of, manifest_by, manifest_string, symbol_of, symbol, front}
use Rattle.sc_text.proofs.PartLengths.{prefix_len-split}
use Rattle.sc_text.proofs.Integers.{integer_end-split}
use Rattle.sc_text.proofs.Strings.{quoted_manifest, IsQuoted-append, closing_complete, closing_none, marks_complete}
use Rattle.sc_text.proofs.Classes.{choose_true, choose_false, or_false, true_le, false_le, begins_other, other_is, letter_not_white_space, letter_name_part, digit_not_white_space, digit_not_letter, short_symbol_other, long_symbol_other, long_symbol_none, and_false, none_is}

-- ---- which part is read

front_white_space : (place c : ℕ) (cs : List ℕ) → is_white_space c ≡ true → front place (c ∷ cs) ≡ Gap 1
unfolding front
front_white_space place c cs e = choose_true _ _ _ e

front_word : (place c : ℕ) (cs : List ℕ) → is_letter c ≡ true → front place (c ∷ cs) ≡ word (c ∷ cs)
unfolding front
front_word place c cs e = choose_false _ _ _ (letter_not_white_space c e) ∙ choose_true _ _ _ e

front_integer : (place c : ℕ) (cs : List ℕ) → is_digit c ≡ true → front place (c ∷ cs) ≡ integer place (c ∷ cs)
unfolding front
front_integer place c cs e = choose_false _ _ _ (digit_not_white_space c e) ∙ choose_false _ _ _ (digit_not_letter c e) ∙ choose_true _ _ _ e

front_manifest_string : (place : ℕ) (cs : List ℕ) → front place (quote ∷ cs) ≡ manifest_string place cs
unfolding front
front_manifest_string place cs = refl

front_symbol : (place c : ℕ) (cs : List ℕ) → begins_other c ≡ false → front place (c ∷ cs) ≡ symbol place (c ∷ cs)
unfolding front
front_symbol place c cs e =
    let h = other_is c e in
    choose_false _ _ _ h.not_white_space ∙ choose_false _ _ _ h.not_letter ∙ choose_false _ _ _ h.not_digit ∙ choose_false _ _ _ h.not_quote

-- ---- gaps

comment_read : (place : ℕ) (cs rest : List ℕ) → list_all is_comment_part cs ≡ true → begins_with is_comment_part rest ≡ false →
    symbol place (hyphen ∷ hyphen ∷ (cs ++ rest)) ≡ Gap (length (hyphen ∷ hyphen ∷ cs))
unfolding symbol
comment_read place cs rest all stops =
    let n : prefix_len is_comment_part (cs ++ rest) ≡ length cs = prefix_len-split is_comment_part cs rest all stops in
    let m : 2 + prefix_len is_comment_part (cs ++ rest) ≡ length (hyphen ∷ hyphen ∷ cs) = omega (arith, n) in
    ap Gap m

pub gap_complete : {cs rest : List ℕ} → IsGap cs rest → (place : ℕ) → front place (cs ++ rest) ≡ Gap (length cs)
gap_complete (white_space {c} {rest} e) place = front_white_space place c rest e
gap_complete (comment {cs} {rest} all stops) place = front_symbol place hyphen (hyphen ∷ (cs ++ rest)) refl ∙ comment_read place cs rest all stops

-- ---- words

word_read : (cs rest : List ℕ) → list_all is_name_part cs ≡ true → begins_with is_name_part rest ≡ false → word (cs ++ rest) ≡ word_of cs
unfolding word
word_read cs rest all stops =
    ap word_of (ap (λ (n : ℕ). take n (cs ++ rest)) (prefix_len-split is_name_part cs rest all stops) ∙ take_at cs rest (length cs) refl)

word_front : {cs : List ℕ} (rest : List ℕ) → IsWord cs → begins_with is_name_part rest ≡ false → (place : ℕ) → front place (cs ++ rest) ≡ word_of cs
word_front {cs} rest (a_word {c} {cs = ds} first all) stops place =
    front_word place c (ds ++ rest) first ∙ word_read (c ∷ ds) rest (ap (λ (b : Bool). b && list_all is_name_part ds) (letter_name_part c first) ∙ all) stops

-- ---- integers

integer_first : {ds : List ℕ} → IsInteger ds → (place : ℕ) (rest : List ℕ) → front place (ds ++ rest) ≡ integer place (ds ++ rest)
integer_first (last_digit {d} e) place rest = front_integer place d rest e
integer_first (digit {d} us {ds} e all more) place rest = front_integer place d ((us ++ ds) ++ rest) e

integer_read : (place : ℕ) (ds rest : List ℕ) → integer_end 0 0 (ds ++ rest) ≡ length ds → integer place (ds ++ rest) ≡ integer_of place (length ds) (number ds)
unfolding integer
integer_read place ds rest end =
    ap (λ (n : ℕ). integer_of place n (number (take n (ds ++ rest)))) end
    ∙ ap (λ (cs : List ℕ). integer_of place (length ds) (number cs)) (take_at ds rest (length ds) refl)

integer_front : {ds : List ℕ} → IsInteger ds → (rest : List ℕ) → digit_follows rest ≡ false → (place : ℕ) → front place (ds ++ rest) ≡ integer_of place (length ds) (number ds)
integer_front {ds} h rest stops place = integer_first h place rest ∙ integer_read place ds rest (integer_end-split h rest stops 0 0 ∙ omega arith)

-- ---- manifest strings

manifest_read : (place : ℕ) (cs rest : List ℕ) → closing 0 false (cs ++ quote ∷ rest) ≡ Some (0 + length cs) →
    manifest_string place (cs ++ quote ∷ rest) ≡ manifest_of (length cs + 2) (marks_read false [] (place + 1) cs)
unfolding manifest_string
manifest_read place cs rest end =
    let n : 0 + length cs ≡ length cs = omega arith in
    ap (manifest_by place (cs ++ quote ∷ rest)) (end ∙ ap Some n)
    ∙ ap (λ (body : List ℕ). manifest_of (length cs + 2) (marks_read false [] (place + 1) body)) (take_at cs (quote ∷ rest) (length cs) refl)

-- a manifest string that is closed is read from what stands between the quotes
manifest_front : {cs : List ℕ} → IsQuoted cs → (rest : List ℕ) (place : ℕ) → front place (quote ∷ (cs ++ quote ∷ rest)) ≡ manifest_of (length cs + 2) (marks_read false [] (place + 1) cs)
manifest_front {cs} h rest place = front_manifest_string place (cs ++ quote ∷ rest) ∙ manifest_read place cs rest (closing_complete h 0 rest)

unclosed_read : (place : ℕ) (rest : List ℕ) → closing 0 false rest ≡ None → manifest_string place rest ≡ Flaw (fault.UnclosedString (span_at place 1))
unfolding manifest_string
unclosed_read place rest e = ap (manifest_by place rest) e

bad_escape_front : (place c : ℕ) {cs vs ds : List ℕ} (rest : List ℕ) → IsManifest cs vs → escape c ≡ None → ends_line c ≡ false → IsQuoted ds →
    front place (quote ∷ (cs ++ percent ∷ c ∷ (ds ++ quote ∷ rest))) ≡ Flaw (fault.BadEscape (span_at (place + 1 + length cs) 1))
bad_escape_front place c {cs} {vs} {ds} rest h none in_line quoted =
    ap (λ (l : List ℕ). front place (quote ∷ l)) (sym (append_assoc cs (percent ∷ c ∷ ds) (quote ∷ rest)))
    ∙ manifest_front (IsQuoted-append (quoted_manifest h) (pair in_line quoted)) rest place
    ∙ ap (manifest_of (length (cs ++ percent ∷ c ∷ ds) + 2)) (marks_complete h [] (place + 1) (percent ∷ c ∷ ds)
    ∙ ap (with_mark (fault.BadEscape (span_at (place + 1 + length cs) 1)) (λ (v : ℕ). marks_read false (vs ++ v ∷ []) (place + 1 + length cs + 2) ds)) none)

-- ---- symbols

symbol_long : (place a b : ℕ) (rest : List ℕ) (t : Terminal) → long_symbol a b ≡ Some t → symbol place (a ∷ b ∷ rest) ≡ Lexed (TERMINAL t) 2
unfolding symbol
symbol_long place a b rest t e =
    choose_false _ _ _ (ap (λ (x : Bool). x && b == hyphen) (long_symbol_other a b t e).1) ∙ ap (λ (o : Option Terminal). symbol_of place o (short_symbol a)) e

-- a character that doesn't go on is read alone
symbol_alone : (place a : ℕ) (rest : List ℕ) → goes_on a rest ≡ false → symbol place (a ∷ rest) ≡ symbol_of place None (short_symbol a)
unfolding symbol
symbol_alone place a [] stops =
    choose_false _ _ _ (and_false (a == hyphen)) ∙ ap (λ (o : Option Terminal). symbol_of place o (short_symbol a)) (long_symbol_none a)
symbol_alone place a (b ∷ rest) stops =
    let h = or_false (is_some (long_symbol a b)) (a == hyphen && b == hyphen) stops in
    choose_false (a == hyphen && b == hyphen) _ _ h.1 ∙ ap (λ (o : Option Terminal). symbol_of place o (short_symbol a)) (none_is (long_symbol a b) h.0)

pub token_complete : {k : Kind} {cs rest : List ℕ} → IsToken k cs rest → (place : ℕ) → front place (cs ++ rest) ≡ Lexed k (length cs)
token_complete (name {cs} {rest} h stops e) place = word_front rest h stops place ∙ ap (λ (o : Option Terminal). Lexed (kind_of_word cs o) (length cs)) e
token_complete (reserved_word {cs} {rest} {t} h stops e) place = word_front rest h stops place ∙ ap (λ (o : Option Terminal). Lexed (kind_of_word cs o) (length cs)) e
token_complete (an_integer {cs} {rest} h stops le) place =
    integer_front h rest stops place ∙ ap (integer_of place (length cs)) (choose_true _ _ _ (true_le (decimal cs) 9223372036854775807 le))
token_complete (a_manifest_string {cs} {vs} {rest} h) place =
    let n : length cs + 2 ≡ length (quote ∷ (cs ++ quote ∷ [])) = omega (arith, length-append cs (quote ∷ [])) in
    ap (λ (l : List ℕ). front place (quote ∷ l)) (append_assoc cs (quote ∷ []) rest) ∙ manifest_front (quoted_manifest h) rest place
    ∙ ap (manifest_of (length cs + 2)) (ap (marks_read false [] (place + 1)) (sym (append-nil cs)) ∙ marks_complete h [] (place + 1) [])
    ∙ ap (Lexed (STRING vs)) n
token_complete (long {a} {b} {rest} {t} e) place = front_symbol place a (b ∷ rest) (long_symbol_other a b t e).0 ∙ symbol_long place a b rest t e
token_complete (short {a} {rest} {t} e stops) place =
    front_symbol place a rest (short_symbol_other a t e) ∙ symbol_alone place a rest stops ∙ ap (symbol_of place None) e

pub fault_complete : {place : ℕ} {text : List ℕ} {e : LexFault} → IsFault place text e → front place text ≡ Flaw e
fault_complete (bad_character {place} {c} {rest} other none stops) =
    front_symbol place c rest other ∙ symbol_alone place c rest stops ∙ ap (symbol_of place None) none
fault_complete (unclosed_string {place} {rest} unclosed) = front_manifest_string place rest ∙ unclosed_read place rest (closing_none rest unclosed)
fault_complete (bad_escape {place} c {cs} {vs} {ds} rest h none in_line quoted) = bad_escape_front place c rest h none in_line quoted
fault_complete (integer_too_large {place} {cs} rest h stops large) =
    integer_front h rest stops place ∙ ap (integer_of place (length cs)) (choose_false _ _ _ (false_le (decimal cs) 9223372036854775807 large))
