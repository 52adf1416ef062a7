-- The tokens of a whole text: what reading gives one after the other.
use Rattle.std.proofs.Common.{◌≡◌, ℕ, zero, suc, ◌+◌, ◌-◌, ◌≤◌, ◌<◌, List, [], ◌∷◌, ◌++◌, length, take, drop, true, Result, Ok, Err, refl, ap, sym, ◌∙◌, subst, append-nil, length-append, length-drop, arith}
use Rattle.std.specs.Prelude.{slice_index, slice_range}
use Rattle.std.proofs.lemmas.List.{take_at, drop_at, drop-drop, drop_all, drop_more}
use Rattle.sc_text.specs.declared.fault.LexFault.{LexFault}
use Rattle.sc_text.specs.declared.fault.LexFault.TheVariants as fault
use Rattle.sc_text.specs.Characters.{is_white_space}
use Rattle.sc_text.specs.Kind.{Kind}
use Rattle.sc_text.specs.Spelling.{max_source_bytes, Lexeme, IsGap, white_space, comment, IsToken, name, reserved_word, integer, manifest_string, long, short, IsWord, word, IsInteger, last_digit, digit, IsFault, bad_character, unclosed_string, bad_escape, integer_too_large, BeginsWith, here, gap, token, Spells, HasFault, IsRefused, StandInOrder}
use Rattle.sc_text.specs.Reading.Front.{Front, Gap, Lexed, Flaw, front}
use Rattle.sc_text.specs.Reading.Answers.{Refuses}
use Rattle.sc_text.proofs.Complete.{gap_complete, token_complete, fault_complete}
use Rattle.sc_text.proofs.Sound.{IsFront, a_gap, a_token, a_fault, front_sound}

abbrev pub Lexemes : Type 0
Lexemes = Result (List Lexeme) LexFault

abbrev pub prepend : List Lexeme → Lexemes → Lexemes
prepend ts (Ok us) = Ok (ts ++ us)
prepend ts (Err e) = Err e

abbrev pub lexeme : Kind → ℕ → ℕ → Lexeme
lexeme k start end = record { kind = k; span = record { start = start; end = end } }

-- what one part leads to, where the rest is read so
abbrev pub ahead : (ℕ → List ℕ → Lexemes) → ℕ → List ℕ → Front → Lexemes
ahead next place text (Gap n) = next (place + n) (drop n text)
ahead next place text (Lexed k n) = prepend (lexeme k place (place + n) ∷ []) (next (place + n) (drop n text))
ahead next place text (Flaw e) = Err e

-- the tokens of a text that begins at this place and has at most so many bytes
unfoldable pub read : ℕ → ℕ → List ℕ → Lexemes
read f place [] = Ok []
read zero place (c ∷ cs) = Ok []
read (suc f) place (c ∷ cs) = ahead (read f) place (c ∷ cs) (front place (c ∷ cs))

read_end : (f place : ℕ) → read f place [] ≡ Ok []
unfolding read
read_end zero place = refl
read_end (suc f) place = refl

read_ahead : (f place : ℕ) (text : List ℕ) → 0 < length text → length text ≤ f → read f place text ≡ ahead (read (f - 1)) place text (front place text)
unfolding read
read_ahead f place [] some le = absurd (omega arith)
read_ahead zero place (c ∷ cs) some le = absurd (omega arith)
read_ahead (suc f) place (c ∷ cs) some le =
    let e : f ≡ suc f - 1 = omega arith in
    ap (λ (g : ℕ). ahead (read g) place (c ∷ cs) (front place (c ∷ cs))) e

-- ---- each part has a byte

gap_some : {cs rest : List ℕ} → IsGap cs rest → 0 < length cs
gap_some (white_space e) = omega arith
gap_some (comment all stops) = omega arith

word_some : {cs : List ℕ} → IsWord cs → 0 < length cs
word_some (word first all) = omega arith

integer_some : {cs : List ℕ} → IsInteger cs → 0 < length cs
integer_some (last_digit d) = omega arith
integer_some (digit us d all h) = omega arith

token_some : {k : Kind} {cs rest : List ℕ} → IsToken k cs rest → 0 < length cs
token_some (name h stops e) = word_some h
token_some (reserved_word h stops e) = word_some h
token_some (integer h stops le) = integer_some h
token_some (manifest_string h) = omega arith
token_some (long e) = omega arith
token_some (short e stops) = omega arith

longer : (cs rest : List ℕ) → 0 < length cs → 0 < length (cs ++ rest)
longer cs rest some = omega (arith, length-append cs rest)

fault_some : {place : ℕ} {text : List ℕ} {e : LexFault} → IsFault place text e → 0 < length text
fault_some (bad_character other none stops) = omega arith
fault_some (unclosed_string unclosed) = omega arith
fault_some (bad_escape c rest h none in_line quoted) = omega arith
fault_some (integer_too_large {place} {cs} rest h stops large) = longer cs rest (integer_some h)

-- ---- one reading

prepend-nil : (x : Lexemes) → x ≡ prepend [] x
prepend-nil (Ok us) = refl
prepend-nil (Err e) = refl

prepend-cons : (t : Lexeme) (ts : List Lexeme) (x : Lexemes) → prepend (t ∷ []) (prepend ts x) ≡ prepend (t ∷ ts) x
prepend-cons t ts (Ok us) = refl
prepend-cons t ts (Err e) = refl

gap_step : {cs text : List ℕ} → IsGap cs text → (f place : ℕ) → length (cs ++ text) ≤ f → read f place (cs ++ text) ≡ read (f - 1) (place + length cs) text
gap_step {cs} {text} h f place le =
    read_ahead f place (cs ++ text) (longer cs text (gap_some h)) le ∙ ap (ahead (read (f - 1)) place (cs ++ text)) (gap_complete h place)
    ∙ ap (read (f - 1) (place + length cs)) (drop_at cs text (length cs) refl)

token_step : {k : Kind} {cs text : List ℕ} → IsToken k cs text → (f place : ℕ) → length (cs ++ text) ≤ f →
    read f place (cs ++ text) ≡ prepend (lexeme k place (place + length cs) ∷ []) (read (f - 1) (place + length cs) text)
token_step {k} {cs} {text} h f place le =
    read_ahead f place (cs ++ text) (longer cs text (token_some h)) le ∙ ap (ahead (read (f - 1)) place (cs ++ text)) (token_complete h place)
    ∙ ap (λ (t : List ℕ). prepend (lexeme k place (place + length cs) ∷ []) (read (f - 1) (place + length cs) t)) (drop_at cs text (length cs) refl)

-- the reading of a text goes through each of its beginnings
pub read_through : {place end : ℕ} {text rest : List ℕ} {ts : List Lexeme} → BeginsWith place text ts end rest →
    (x : Lexemes) → ((f : ℕ) → length rest ≤ f → read f end rest ≡ x) → (f : ℕ) → length text ≤ f → read f place text ≡ prepend ts x
read_through here x more f le = more f le ∙ prepend-nil x
read_through (gap {place} {end} {cs} {text} {rest} {ts} h b) x more f le =
    let some = gap_some h in
    gap_step h f place le ∙ read_through b x more (f - 1) (omega (arith, length-append cs text))
read_through (token {place} {end} {k} {cs} {text} {rest} {ts} h b) x more f le =
    let some = token_some h in
    token_step h f place le ∙ ap (prepend (lexeme k place (place + length cs) ∷ [])) (read_through b x more (f - 1) (omega (arith, length-append cs text)))
    ∙ prepend-cons (lexeme k place (place + length cs)) ts x

read_spelled : (text : List ℕ) (ts : List Lexeme) → Spells text ts → read (length text) 0 text ≡ Ok (ts ++ [])
read_spelled text ts h = read_through h (Ok []) (λ f le. read_end f (length text)) (length text) (omega arith)

read_fault : (place : ℕ) (text : List ℕ) (e : LexFault) → IsFault place text e → (f : ℕ) → length text ≤ f → read f place text ≡ Err e
read_fault place text e h f le = read_ahead f place text (fault_some h) le ∙ ap (ahead (read (f - 1)) place text) (fault_complete h)

read_faulty : (text : List ℕ) (e : LexFault) → HasFault text e → read (length text) 0 text ≡ Err e
read_faulty text e h = read_through h.spelled (Err e) (λ f le. read_fault h.place h.rest e h.wrong f le) (length text) (omega arith)

-- ---- the laws

ok_same : (xs ys : List Lexeme) (x : Lexemes) → x ≡ Ok xs → x ≡ Ok ys → xs ≡ ys
ok_same xs ys x p q = cc

err_same : (d e : LexFault) (x : Lexemes) → x ≡ Err d → x ≡ Err e → d ≡ e
err_same d e x p q = cc

ok_not_err : (xs : List Lexeme) (e : LexFault) (x : Lexemes) → x ≡ Ok xs → x ≡ Err e → ⊥
ok_not_err xs e x p q = cc

pub one_spelling_lem : (text : List ℕ) (ts us : List Lexeme) → Spells text ts → Spells text us → ts ≡ us
one_spelling_lem text ts us p q =
    sym (append-nil ts) ∙ ok_same _ _ (read (length text) 0 text) (read_spelled text ts p) (read_spelled text us q) ∙ append-nil us

pub one_fault_lem : (text : List ℕ) (d e : LexFault) → HasFault text d → HasFault text e → d ≡ e
one_fault_lem text d e p q = err_same d e (read (length text) 0 text) (read_faulty text d p) (read_faulty text e q)

pub no_spelling_of_faults_lem : (text : List ℕ) (ts : List Lexeme) (e : LexFault) → Spells text ts → HasFault text e → ⊥
no_spelling_of_faults_lem text ts e p q = ok_not_err _ e (read (length text) 0 text) (read_spelled text ts p) (read_faulty text e q)

-- ---- one more part

more_gap : {place end : ℕ} {text rest : List ℕ} {ts : List Lexeme} → BeginsWith place text ts end rest →
    (cs after : List ℕ) → rest ≡ cs ++ after → IsGap cs after → BeginsWith place text ts (end + length cs) after
more_gap (here {place} {text}) cs after split h = subst (λ (t : List ℕ). BeginsWith place t [] (place + length cs) after) (sym split) (gap h here)
more_gap (gap g b) cs after split h = gap g (more_gap b cs after split h)
more_gap (token t b) cs after split h = token t (more_gap b cs after split h)

more_token : {place end : ℕ} {text rest : List ℕ} {ts : List Lexeme} → BeginsWith place text ts end rest →
    (k : Kind) (cs after : List ℕ) → rest ≡ cs ++ after → IsToken k cs after → BeginsWith place text (ts ++ lexeme k end (end + length cs) ∷ []) (end + length cs) after
more_token (here {place} {text}) k cs after split h =
    subst (λ (t : List ℕ). BeginsWith place t (lexeme k place (place + length cs) ∷ []) (place + length cs) after) (sym split) (token h here)
more_token (gap g b) k cs after split h = gap g (more_token b k cs after split h)
more_token (token t b) k cs after split h = token t (more_token b k cs after split h)

-- the text is spelled up to this place, which lies within it
pub record IsRead (text : List ℕ) (ts : List Lexeme) (place : ℕ) : Type 0 where
  pub within : place ≤ length text
  pub spelled : BeginsWith 0 text ts place (drop place text)

front_at : (place : ℕ) (text : List ℕ) → 0 < length text → IsFront place text (front place text)
front_at place [] some = absurd (omega arith)
front_at place (c ∷ cs) some = front_sound place c cs

left : (text : List ℕ) (place : ℕ) → place < length text → 0 < length (drop place text)
left text place lt = omega (arith, length-drop place text)

-- what is left behind a part
rest_is : (text cs rest : List ℕ) (place n : ℕ) → drop place text ≡ cs ++ rest → length cs ≡ n → rest ≡ drop (place + n) text
rest_is text cs rest place n split count = sym (drop_at cs rest n count) ∙ ap (drop n) (sym split) ∙ drop-drop n place text

pub record Goes (text : List ℕ) (ts : List Lexeme) (place n : ℕ) : Type 0 where
  pub some : 0 < n
  pub read : IsRead text ts (place + n)

part_fits : (text cs rest : List ℕ) (place n : ℕ) → place < length text → drop place text ≡ cs ++ rest → length cs ≡ n → place + n ≤ length text
part_fits text cs rest place n lt split count = omega (arith, length-drop place text, ap length split, length-append cs rest)

goes_gap : (text : List ℕ) (ts : List Lexeme) (place n : ℕ) → place < length text → IsFront place (drop place text) (Gap n) → IsRead text ts place → Goes text ts place n
goes_gap text ts place n lt (a_gap cs rest split count h) r = record {
  some = omega (arith, gap_some h, count);
  read = record {
    within = part_fits text cs rest place n lt split count;
    spelled = subst (λ (t : List ℕ). BeginsWith 0 text ts (place + n) t) (rest_is text cs rest place n split count)
        (subst (λ (m : ℕ). BeginsWith 0 text ts (place + m) rest) count (more_gap r.spelled cs rest split h));
  };
}

-- a gap brings the reading on
pub step_gap : (text : List ℕ) (ts : List Lexeme) (place n : ℕ) → place < length text → front place (drop place text) ≡ Gap n → IsRead text ts place → Goes text ts place n
step_gap text ts place n lt e r = goes_gap text ts place n lt (subst (IsFront place (drop place text)) e (front_at place (drop place text) (left text place lt))) r

goes_token : (text : List ℕ) (ts : List Lexeme) (place n : ℕ) (k : Kind) → place < length text → IsFront place (drop place text) (Lexed k n) → IsRead text ts place → Goes text (ts ++ lexeme k place (place + n) ∷ []) place n
goes_token text ts place n k lt (a_token cs rest split count h) r = record {
  some = omega (arith, token_some h, count);
  read = record {
    within = part_fits text cs rest place n lt split count;
    spelled = subst (λ (t : List ℕ). BeginsWith 0 text (ts ++ lexeme k place (place + n) ∷ []) (place + n) t) (rest_is text cs rest place n split count)
        (subst (λ (m : ℕ). BeginsWith 0 text (ts ++ lexeme k place (place + m) ∷ []) (place + m) rest) count (more_token r.spelled k cs rest split h));
  };
}

-- so does a token, which joins the tokens
pub step_token : (text : List ℕ) (ts : List Lexeme) (place n : ℕ) (k : Kind) → place < length text → front place (drop place text) ≡ Lexed k n → IsRead text ts place →
    Goes text (ts ++ lexeme k place (place + n) ∷ []) place n
step_token text ts place n k lt e r = goes_token text ts place n k lt (subst (IsFront place (drop place text)) e (front_at place (drop place text) (left text place lt))) r

has_fault : (text : List ℕ) (ts : List Lexeme) (place : ℕ) (e : LexFault) → IsFront place (drop place text) (Flaw e) → IsRead text ts place → HasFault text e
has_fault text ts place e (a_fault h) r = record { before = ts; place = place; rest = drop place text; spelled = r.spelled; wrong = h }

-- where reading stops, the text has that fault
pub step_fault : (text : List ℕ) (ts : List Lexeme) (place : ℕ) (e : LexFault) → place < length text → front place (drop place text) ≡ Flaw e → IsRead text ts place → HasFault text e
step_fault text ts place e lt f r = has_fault text ts place e (subst (IsFront place (drop place text)) f (front_at place (drop place text) (left text place lt))) r

-- ---- what lex answers

pub nothing_read : (text : List ℕ) → IsRead text [] 0
nothing_read text = record { within = omega arith; spelled = here }

pub all_read : (text : List ℕ) (ts : List Lexeme) (place : ℕ) → length text ≤ place → IsRead text ts place → Spells text ts
all_read text ts place le r =
    let e : place ≡ length text = omega (arith, r.within) in
    subst (λ (n : ℕ). BeginsWith 0 text ts n []) e (subst (BeginsWith 0 text ts place) (drop_all place text le) r.spelled)

pub refused_by : (text : List ℕ) (ts : List Lexeme) (place : ℕ) (e : LexFault) → place < length text → IsRead text ts place → Refuses (front place (drop place text)) e → IsRefused text e
refused_by text ts place fault.OutOfMemory lt r h = tt
refused_by text ts place fault.SourceTooLong lt r h = absurd h
refused_by text ts place (fault.BadCharacter p) lt r h = step_fault text ts place (fault.BadCharacter p) lt h r
refused_by text ts place (fault.UnclosedString p) lt r h = step_fault text ts place (fault.UnclosedString p) lt h r
refused_by text ts place (fault.BadEscape p) lt r h = step_fault text ts place (fault.BadEscape p) lt h r
refused_by text ts place (fault.IntegerTooLarge p) lt r h = step_fault text ts place (fault.IntegerTooLarge p) lt h r

-- a text with a spelling is refused only where memory ran out
pub spelled_not_refused : (text : List ℕ) (ts : List Lexeme) (e : LexFault) → Spells text ts → length text ≤ max_source_bytes → IsRefused text e → e ≡ fault.OutOfMemory
spelled_not_refused text ts fault.OutOfMemory s le h = refl
spelled_not_refused text ts fault.SourceTooLong s le h = absurd (omega arith)
spelled_not_refused text ts (fault.BadCharacter p) s le h = absurd (no_spelling_of_faults_lem text ts _ s h)
spelled_not_refused text ts (fault.UnclosedString p) s le h = absurd (no_spelling_of_faults_lem text ts _ s h)
spelled_not_refused text ts (fault.BadEscape p) s le h = absurd (no_spelling_of_faults_lem text ts _ s h)
spelled_not_refused text ts (fault.IntegerTooLarge p) s le h = absurd (no_spelling_of_faults_lem text ts _ s h)

-- ---- slices

earlier : (text : List ℕ) (from to : ℕ) (ts : List Lexeme) → from ≤ to → StandInOrder text to ts → StandInOrder text from ts
earlier text from to [] le h = omega arith
earlier text from to (t ∷ ts) le h = (omega (arith, h.0), h.1, h.2, h.3)

slice_is : (text cs rest : List ℕ) (place : ℕ) → cs ++ rest ≡ drop place text → cs ≡ slice_range text place (place + length cs)
slice_is text cs rest place split =
    let n : place + length cs - place ≡ length cs = omega arith in
    sym (take_at cs rest (length cs) refl) ∙ ap (take (length cs)) split ∙ ap (λ (m : ℕ). take m (drop place text)) (sym n)

in_order : {place end : ℕ} {t rest : List ℕ} {ts : List Lexeme} → BeginsWith place t ts end rest → (text : List ℕ) → t ≡ drop place text → place + length t ≡ length text → StandInOrder text place ts
in_order here text split fits = omega arith
in_order (gap {place} {end} {cs} {text = t} {rest} {ts} h b) text split fits =
    earlier text place (place + length cs) ts (omega arith) (in_order b text (rest_is text cs t place (length cs) (sym split) refl) (omega (arith, length-append cs t)))
in_order (token {place} {end} {k} {cs} {text = t} {rest} {ts} h b) text split fits =
    let after = rest_is text cs t place (length cs) (sym split) refl in (
      omega arith,
      omega (arith, token_some h),
      subst (λ (r : List ℕ). IsToken k (slice_range text place (place + length cs)) r) after (subst (λ (c : List ℕ). IsToken k c t) (slice_is text cs t place split) h),
      in_order b text after (omega (arith, length-append cs t)),
    )

pub spelled_in_order : (text : List ℕ) (ts : List Lexeme) → Spells text ts → StandInOrder text 0 ts
spelled_in_order text ts h = in_order h text refl (omega arith)

white_ahead : (place c : ℕ) (cs : List ℕ) → is_white_space c ≡ true → front place (c ∷ cs) ≡ Gap 1
unfolding front
white_ahead place c cs e = rw e refl

-- white space is read as a gap of one character
pub white_front : (text : List ℕ) (place : ℕ) → place < length text → is_white_space (slice_index text place) ≡ true → front place (drop place text) ≡ Gap 1
white_front text place within e =
    subst (λ (cs : List ℕ). front place cs ≡ Gap 1) (sym (drop_more text place 0 within)) (white_ahead place (slice_index text place) (drop (place + 1) text) e)
