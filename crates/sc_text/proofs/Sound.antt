-- What reading gives stands at the front of the text.
use Rattle.std.proofs.Common.{◌≡◌, ℕ, ℤ, ◌+◌, true, false, List, [], ◌∷◌, ◌++◌, length, take, Option, Some, None, Result, refl, ap, sym, ◌∙◌, subst, append_assoc, length-append, arith}
use Rattle.std.specs.Prelude.{◌&&◌, ◌||◌, nat_le, ◌==◌, is_some}
use Rattle.std.specs.List.{list_all, prefix_len}
use Rattle.std.proofs.lemmas.List.{take_at}
use Rattle.sc_text.specs.declared.token.Terminal.{Terminal}
use Rattle.sc_text.specs.declared.fault.LexFault.{LexFault}
use Rattle.sc_text.specs.declared.fault.LexFault.TheVariants as fault
use Rattle.sc_text.specs.Kind.{Kind}
use Rattle.sc_text.specs.Characters.{is_white_space, is_letter, is_digit, is_name_part, is_comment_part, begins_with, digit_follows, decimal, quote, percent, hyphen}
use Rattle.sc_text.specs.Words.{reserved, long_symbol, short_symbol, goes_on}
use Rattle.sc_text.specs.Spelling.{span_at, IsWord, word as a_word, IsInteger, IsGap, white_space, comment, IsToken, name, reserved_word, integer as an_integer, manifest_string as a_manifest_string, long, short, IsFault, bad_character, unclosed_string, bad_escape, integer_too_large}
use Rattle.sc_text.specs.Reading.Lengths.{integer_end, closing}
use Rattle.sc_text.specs.Reading.Front.{Front, Gap, Lexed, Flaw, kind_of_word, word_of, word, number, integer_of, integer, marks_read, manifest_of, manifest_by, manifest_string, symbol_of, symbol, front}
use Rattle.sc_text.proofs.PartLengths.{IsPrefix, prefix_len-IsPrefix}
use Rattle.sc_text.proofs.Integers.{number_sound}
use Rattle.sc_text.proofs.Strings.{IsClosed, IsClosed-closing, closing_complete, Marked, whole, broken, marks_sound}
use Rattle.sc_text.proofs.Classes.{chosen, and_true, and_false, eq_true, le_true, le_false, begins_other, is_other_from, letter_name_part, long_symbol_none}

-- what stands at the front of the text
pub data IsFront (place : ℕ) (text : List ℕ) : Front → Type 0 where
  a_gap : {n : ℕ} (cs rest : List ℕ) → text ≡ cs ++ rest → length cs ≡ n → IsGap cs rest → IsFront place text (Gap n)
  a_token : {k : Kind} {n : ℕ} (cs rest : List ℕ) → text ≡ cs ++ rest → length cs ≡ n → IsToken k cs rest → IsFront place text (Lexed k n)
  a_fault : {e : LexFault} → IsFault place text e → IsFront place text (Flaw e)

-- ---- words

-- what a prefix that begins with a letter is
pub record IsWordFront (text : List ℕ) (n : ℕ) : Type 0 where
  pub word : List ℕ
  pub rest : List ℕ
  pub split : text ≡ word ++ rest
  pub count : length word ≡ n
  pub is_word : IsWord word
  pub stops : begins_with is_name_part rest ≡ false

word_prefix : (c : ℕ) (cs front rest : List ℕ) (n : ℕ) → is_letter c ≡ true → c ∷ cs ≡ front ++ rest → length front ≡ n → list_all is_name_part front ≡ true → begins_with is_name_part rest ≡ false → IsWordFront (c ∷ cs) n
word_prefix c cs [] rest n l split count all stops =
    let part : is_name_part c ≡ false = ap (begins_with is_name_part) split ∙ stops in
    let part' : is_name_part c ≡ true = letter_name_part c l in
    cc
word_prefix c cs (d ∷ ds) rest n l split count all stops =
    let same : c ≡ d = cc in
    record { word = d ∷ ds; rest = rest; split = split; count = count; is_word = a_word (ap is_letter (sym same) ∙ l) (and_true (is_name_part d) (list_all is_name_part ds) all).1; stops = stops }

word_kinds : (place : ℕ) (text cs rest : List ℕ) (o : Option Terminal) → reserved cs ≡ o → text ≡ cs ++ rest → IsWord cs → begins_with is_name_part rest ≡ false →
    IsFront place text (Lexed (kind_of_word cs o) (length cs))
word_kinds place text cs rest None e split h stops = a_token cs rest split refl (name h stops e)
word_kinds place text cs rest (Some t) e split h stops = a_token cs rest split refl (reserved_word h stops e)

word_taken : (place : ℕ) (text : List ℕ) (n : ℕ) → IsWordFront text n → IsFront place text (word_of (take n text))
word_taken place text n h =
    subst (λ (cs : List ℕ). IsFront place text (word_of cs)) (sym (ap (take n) h.split ∙ take_at h.word h.rest n h.count))
    (word_kinds place text h.word h.rest (reserved h.word) refl h.split h.is_word h.stops)

word_sound : (place c : ℕ) (cs : List ℕ) → is_letter c ≡ true → IsFront place (c ∷ cs) (word (c ∷ cs))
unfolding word
word_sound place c cs l =
    let p = prefix_len-IsPrefix is_name_part (c ∷ cs) in
    word_taken place (c ∷ cs) (prefix_len is_name_part (c ∷ cs)) (word_prefix c cs p.front p.rest _ l p.split p.count p.all p.stops)

-- ---- integers

integer_taken : (place : ℕ) (text ds rest : List ℕ) (n : ℕ) → text ≡ ds ++ rest → IsInteger ds → digit_follows rest ≡ false → length ds ≡ n →
    IsFront place text (integer_of place n (number ds))
integer_taken place text ds rest n split h stops count =
    chosen (λ (o : Option ℤ). IsFront place text (integer_of place n o)) (nat_le (decimal ds) 9223372036854775807) _ _
    (λ le. a_token ds rest split count (an_integer h stops (le_true (decimal ds) 9223372036854775807 le)))
    (λ gt. a_fault (subst (λ (m : ℕ). IsFault place text (fault.IntegerTooLarge (span_at place m))) count
    (subst (λ (t : List ℕ). IsFault place t (fault.IntegerTooLarge (span_at place (length ds)))) (sym split) (integer_too_large rest h stops (le_false (decimal ds) 9223372036854775807 gt)))))

integer_sound : (place c : ℕ) (cs : List ℕ) → is_digit c ≡ true → IsFront place (c ∷ cs) (integer place (c ∷ cs))
unfolding integer
integer_sound place c cs d =
    let h = number_sound c cs d in
    let n : length h.digits ≡ integer_end 0 0 (c ∷ cs) = omega (arith, h.count) in
    subst (λ (ds : List ℕ). IsFront place (c ∷ cs) (integer_of place (integer_end 0 0 (c ∷ cs)) (number ds)))
    (sym (ap (take (integer_end 0 0 (c ∷ cs))) h.split ∙ take_at h.digits h.rest (integer_end 0 0 (c ∷ cs)) n))
    (integer_taken place (c ∷ cs) h.digits h.rest (integer_end 0 0 (c ∷ cs)) h.split h.integer h.stops n)

-- ---- manifest strings

manifest_marked : (place : ℕ) (body rest : List ℕ) (n : ℕ) (r : Result (List ℕ) LexFault) → length body ≡ n → Marked [] (place + 1) body r → IsFront place (quote ∷ (body ++ quote ∷ rest)) (manifest_of (n + 2) r)
manifest_marked place body rest n r count (whole vs h e) =
    subst (λ (r : Result (List ℕ) LexFault). IsFront place (quote ∷ (body ++ quote ∷ rest)) (manifest_of (n + 2) r)) (sym e)
    (a_token (quote ∷ (body ++ quote ∷ [])) rest (ap (λ (l : List ℕ). quote ∷ l) (sym (append_assoc body (quote ∷ []) rest))) (omega (arith, count, length-append body (quote ∷ []))) (a_manifest_string h))
manifest_marked place body rest n r count (broken cs vs c ds split h none in_line quoted e) =
    subst (λ (r : Result (List ℕ) LexFault). IsFront place (quote ∷ (body ++ quote ∷ rest)) (manifest_of (n + 2) r)) (sym e)
    (a_fault (subst (λ (l : List ℕ). IsFault place (quote ∷ l) (fault.BadEscape (span_at (place + 1 + length cs) 1)))
    (sym (ap (λ (l : List ℕ). l ++ quote ∷ rest) split ∙ append_assoc cs (percent ∷ c ∷ ds) (quote ∷ rest))) (bad_escape c rest h none in_line quoted)))

manifest_closed : (place : ℕ) (text : List ℕ) (n : ℕ) → IsClosed text n → IsFront place (quote ∷ text) (manifest_of (n + 2) (marks_read false [] (place + 1) (take n text)))
manifest_closed place text n h =
    let taken : take n text ≡ h.body = ap (take n) h.split ∙ take_at h.body (quote ∷ h.rest) n h.count in
    subst (λ (l : List ℕ). IsFront place (quote ∷ l) (manifest_of (n + 2) (marks_read false [] (place + 1) (take n text)))) (sym h.split)
    (subst (λ (l : List ℕ). IsFront place (quote ∷ (h.body ++ quote ∷ h.rest)) (manifest_of (n + 2) (marks_read false [] (place + 1) l))) (sym taken)
    (manifest_marked place h.body h.rest n _ h.count (marks_sound h.quoted [] (place + 1))))

manifest_cases : (place : ℕ) (text : List ℕ) (o : Option ℕ) → closing 0 false text ≡ o → IsFront place (quote ∷ text) (manifest_by place text o)
manifest_cases place text None e =
    a_fault (unclosed_string (λ cs after quoted split. let f = closing_complete quoted 0 after in let g : closing 0 false text ≡ Some (0 + length cs) = ap (closing 0 false) split ∙ f in cc))
manifest_cases place text (Some n) e = manifest_closed place text n (IsClosed-closing text n e)

manifest_sound : (place c : ℕ) (cs : List ℕ) → (c == quote) ≡ true → IsFront place (c ∷ cs) (manifest_string place cs)
unfolding manifest_string
manifest_sound place c cs q =
    subst (λ (x : ℕ). IsFront place (x ∷ cs) (manifest_by place cs (closing 0 false cs))) (sym (eq_true c quote q)) (manifest_cases place cs (closing 0 false cs) refl)

-- ---- symbols

comment_taken : (place : ℕ) (text : List ℕ) (n : ℕ) → IsPrefix is_comment_part text n → IsFront place (hyphen ∷ hyphen ∷ text) (Gap (2 + n))
comment_taken place text n p = a_gap (hyphen ∷ hyphen ∷ p.front) p.rest (ap (λ (l : List ℕ). hyphen ∷ hyphen ∷ l) p.split) (omega (arith, p.count)) (comment p.all p.stops)

short_cases : (place a : ℕ) (rest : List ℕ) (o : Option Terminal) → begins_other a ≡ false → goes_on a rest ≡ false → short_symbol a ≡ o → IsFront place (a ∷ rest) (symbol_of place None o)
short_cases place a rest None other stops e = a_fault (bad_character other e stops)
short_cases place a rest (Some t) other stops e = a_token (a ∷ []) rest refl refl (short e stops)

symbol_cases : (place a b : ℕ) (rest : List ℕ) (o : Option Terminal) → begins_other a ≡ false → (a == hyphen && b == hyphen) ≡ false → long_symbol a b ≡ o → IsFront place (a ∷ b ∷ rest) (symbol_of place o (short_symbol a))
symbol_cases place a b rest None other apart e =
    short_cases place a (b ∷ rest) (short_symbol a) other (ap (λ (o : Option Terminal). is_some o || (a == hyphen && b == hyphen)) e ∙ apart) refl
symbol_cases place a b rest (Some t) other apart e = a_token (a ∷ b ∷ []) rest refl refl (long e)

symbol_sound : (place a : ℕ) (rest : List ℕ) → begins_other a ≡ false → IsFront place (a ∷ rest) (symbol place (a ∷ rest))
unfolding symbol
symbol_sound place a [] other =
    chosen (IsFront place (a ∷ [])) (a == hyphen && 0 == hyphen) _ _ (λ e. let f = and_false (a == hyphen) in cc)
    (λ e. subst (λ (o : Option Terminal). IsFront place (a ∷ []) (symbol_of place o (short_symbol a))) (sym (long_symbol_none a)) (short_cases place a [] (short_symbol a) other refl refl))
symbol_sound place a (b ∷ rest) other =
    chosen (IsFront place (a ∷ b ∷ rest)) (a == hyphen && b == hyphen) _ _
    (λ e. let h = and_true (a == hyphen) (b == hyphen) e in
    subst (λ (x : ℕ). IsFront place (x ∷ b ∷ rest) (Gap (2 + prefix_len is_comment_part rest))) (sym (eq_true a hyphen h.0))
    (subst (λ (x : ℕ). IsFront place (hyphen ∷ x ∷ rest) (Gap (2 + prefix_len is_comment_part rest))) (sym (eq_true b hyphen h.1))
    (comment_taken place rest (prefix_len is_comment_part rest) (prefix_len-IsPrefix is_comment_part rest))))
    (λ apart. symbol_cases place a b rest (long_symbol a b) other apart refl)

-- ---- the front

pub front_sound : (place c : ℕ) (cs : List ℕ) → IsFront place (c ∷ cs) (front place (c ∷ cs))
unfolding front
front_sound place c cs =
    chosen (IsFront place (c ∷ cs)) (is_white_space c) _ _ (λ w. a_gap (c ∷ []) cs refl refl (white_space w))
    (λ w. chosen (IsFront place (c ∷ cs)) (is_letter c) _ _ (λ l. word_sound place c cs l)
    (λ l. chosen (IsFront place (c ∷ cs)) (is_digit c) _ _ (λ d. integer_sound place c cs d)
    (λ d. chosen (IsFront place (c ∷ cs)) (c == quote) _ _ (λ q. manifest_sound place c cs q)
    (λ q. symbol_sound place c cs (is_other_from c w l d q)))))
