-- Reading, as a function on lists: what is at the front of a text.
use Rattle.std.specs.Prelude.{ℕ, ℤ, ◌+◌, pos, nat_le, Bool, true, false, ◌&&◌, ◌==◌, if◌then◌else◌, List, [], ◌∷◌, ◌++◌, length, take, drop, map, slice_index, Option, Some, None, Result, Ok, Err}
use Rattle.std.specs.Char.{to_ascii_lowercase}
use Rattle.std.specs.List.{prefix_len}
use Rattle.sc_text.specs.declared.token.Terminal.{Terminal}
use Rattle.sc_text.specs.declared.fault.LexFault.{LexFault}
use Rattle.sc_text.specs.declared.fault.LexFault.TheVariants as fault
use Rattle.sc_text.specs.Kind.{Kind, NAME, INTEGER, STRING, TERMINAL}
use Rattle.sc_text.specs.Characters.{is_white_space, is_letter, is_digit, is_name_part, is_comment_part, escape, decimal, quote, percent, hyphen}
use Rattle.sc_text.specs.Words.{reserved, long_symbol, short_symbol}
use Rattle.sc_text.specs.Spelling.{span_at}
use Rattle.sc_text.specs.Reading.Lengths.{integer_end, closing}

-- a gap or a token of this length in bytes, or why there is neither
pub data Front : Type 0 where
  Gap : ℕ → Front
  Lexed : Kind → ℕ → Front
  Flaw : LexFault → Front

-- ---- each part

-- a name in lower case, or a reserved word
abbrev pub kind_of_lower : List ℕ → Option Terminal → Kind
kind_of_lower cs None = NAME cs
kind_of_lower cs (Some t) = TERMINAL t

-- a name, or a reserved word
abbrev pub kind_of_word : List ℕ → Option Terminal → Kind
kind_of_word cs t = kind_of_lower (map to_ascii_lowercase cs) t

abbrev pub word_of : List ℕ → Front
word_of cs = Lexed (kind_of_word cs (reserved cs)) (length cs)

unfoldable pub word : List ℕ → Front
word text = word_of (take (prefix_len is_name_part text) text)

abbrev pub number : List ℕ → Option ℤ
number cs = if nat_le (decimal cs) 9223372036854775807 then Some (pos (decimal cs)) else None

abbrev pub integer_of : ℕ → ℕ → Option ℤ → Front
integer_of place n None = Flaw (fault.IntegerTooLarge (span_at place n))
integer_of place n (Some v) = Lexed (INTEGER v) n

unfoldable pub integer : ℕ → List ℕ → Front
integer place text = integer_of place (integer_end 0 0 text) (number (take (integer_end 0 0 text) text))

-- the character that the escape at the front means
abbrev pub mark_ahead : List ℕ → Option ℕ
mark_ahead [] = None
mark_ahead (c ∷ []) = None
mark_ahead (c ∷ d ∷ cs) = escape d

abbrev pub with_mark : LexFault → (ℕ → Result (List ℕ) LexFault) → Option ℕ → Result (List ℕ) LexFault
with_mark e next None = Err e
with_mark e next (Some v) = next v

-- A manifest string with its marks read, behind what was found so far. `at` is the place of what comes next, or, where
-- a percent sign lies just behind, of that sign.
abbrev pub marks_read : Bool → List ℕ → ℕ → List ℕ → Result (List ℕ) LexFault
marks_read false found at [] = Ok found
marks_read true found at [] = Err (fault.BadEscape (span_at at 1))
marks_read false found at (c ∷ cs) =
    if c == percent then marks_read true found at cs else marks_read false (found ++ c ∷ []) (at + 1) cs
marks_read true found at (c ∷ cs) =
    with_mark (fault.BadEscape (span_at at 1)) (λ v. marks_read false (found ++ v ∷ []) (at + 2) cs) (escape c)

abbrev pub manifest_of : ℕ → Result (List ℕ) LexFault → Front
manifest_of n (Ok vs) = Lexed (STRING vs) n
manifest_of n (Err e) = Flaw e

abbrev pub manifest_by : ℕ → List ℕ → Option ℕ → Front
manifest_by place body None = Flaw (fault.UnclosedString (span_at place 1))
manifest_by place body (Some n) = manifest_of (n + 2) (marks_read false [] (place + 1) (take n body))

-- a manifest string, whose opening quote is at this place and has this text after it
unfoldable pub manifest_string : ℕ → List ℕ → Front
manifest_string place body = manifest_by place body (closing 0 false body)

abbrev pub symbol_of : ℕ → Option Terminal → Option Terminal → Front
symbol_of place (Some t) s = Lexed (TERMINAL t) 2
symbol_of place None (Some t) = Lexed (TERMINAL t) 1
symbol_of place None None = Flaw (fault.BadCharacter (span_at place 1))

-- a comment or a symbol; past the text's end the second character reads as 0
unfoldable pub symbol : ℕ → List ℕ → Front
symbol place text =
    if slice_index text 0 == hyphen && slice_index text 1 == hyphen
    then Gap (2 + prefix_len is_comment_part (drop 2 text))
    else symbol_of place (long_symbol (slice_index text 0) (slice_index text 1)) (short_symbol (slice_index text 0))

-- what is at the front of a text that isn't empty
unfoldable pub front : ℕ → List ℕ → Front
front place text =
    if is_white_space (slice_index text 0) then Gap 1
    else (if is_letter (slice_index text 0) then word text
    else (if is_digit (slice_index text 0) then integer place text
    else (if slice_index text 0 == quote then manifest_string place (drop 1 text)
    else symbol place text)))
