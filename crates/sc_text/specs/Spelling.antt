-- Which texts spell which tokens (ECMA-367, 8.32). A text is the tokens in order, with white space and
-- comments between them, and each of these is as long as it can be.
use Rattle.std.specs.Prelude.{◌≡◌, ℕ, ◌+◌, ◌≤◌, ◌<◌, pos, ◌||◌, ◌==◌, List, [], ◌∷◌, ◌++◌, length, map, Some, None, IsTrue, IsFalse, slice_range, drop}
use Rattle.std.specs.Char.{to_ascii_lowercase}
use Rattle.std.specs.List.{list_all}
use Rattle.sc_text.specs.declared.token.Terminal.{Terminal}
use Rattle.sc_text.specs.declared.token.Span.{Span}
use Rattle.sc_text.specs.declared.token.Token.{Token}
use Rattle.sc_text.specs.declared.fault.LexFault.{LexFault}
use Rattle.sc_text.specs.declared.fault.LexFault.TheVariants as fault
use Rattle.sc_text.specs.Kind.{Kind, NAME, INTEGER, STRING, TERMINAL, kind_of}
use Rattle.sc_text.specs.Characters.{is_white_space, is_letter, is_digit, is_underscore, is_name_part, is_comment_part, ends_line, is_plain, escape, begins_with, digit_follows, decimal, quote, percent, hyphen}
use Rattle.sc_text.specs.Words.{reserved, long_symbol, short_symbol, goes_on}

-- the span of this length at this place
abbrev pub span_at : ℕ → ℕ → Span
span_at place n = record { start = place; end = place + n }

-- the greatest number of bytes of a text
abbrev pub max_source_bytes : ℕ
max_source_bytes = 1048576

-- a token, and its place in the text
pub record Lexeme : Type 0 where
  pub kind : Kind
  pub span : Span

abbrev pub lexeme_of : Token → Lexeme
lexeme_of t = record { kind = kind_of t.kind; span = t.span }

abbrev pub lexemes_of : List Token → List Lexeme
lexemes_of ts = map lexeme_of ts

-- ---- the parts of a text

-- a letter, then letters, digits and underscores
pub data IsWord : List ℕ → Type 0 where
  word : {c : ℕ} {cs : List ℕ} → IsTrue (is_letter c) → IsTrue (list_all is_name_part cs) → IsWord (c ∷ cs)

-- digits, with underscores allowed between two of them
pub data IsInteger : List ℕ → Type 0 where
  last_digit : {d : ℕ} → IsTrue (is_digit d) → IsInteger (d ∷ [])
  digit : {d : ℕ} (us : List ℕ) {ds : List ℕ} → IsTrue (is_digit d) → IsTrue (list_all is_underscore us) →
      IsInteger ds → IsInteger (d ∷ (us ++ ds))

-- the text between the quotes of a manifest string, and the characters that it is read as
pub data IsManifest : List ℕ → List ℕ → Type 0 where
  nothing : IsManifest [] []
  itself : {c : ℕ} {cs vs : List ℕ} → IsTrue (is_plain c) → IsManifest cs vs → IsManifest (c ∷ cs) (c ∷ vs)
  mark : {c v : ℕ} {cs vs : List ℕ} → escape c ≡ Some v → IsManifest cs vs → IsManifest (percent ∷ c ∷ cs) (v ∷ vs)

-- what a closing quote may end: a percent sign and the character after it count as one, a mark or not
pub data IsQuoted : List ℕ → Type 0 where
  empty : IsQuoted []
  plain : {c : ℕ} {cs : List ℕ} → IsTrue (is_plain c) → IsQuoted cs → IsQuoted (c ∷ cs)
  pair : {c : ℕ} {cs : List ℕ} → IsFalse (ends_line c) → IsQuoted cs → IsQuoted (percent ∷ c ∷ cs)

-- White space or a comment, before this rest of the text. A comment goes to the end of its line.
pub data IsGap : List ℕ → List ℕ → Type 0 where
  white_space : {c : ℕ} {rest : List ℕ} → IsTrue (is_white_space c) → IsGap (c ∷ []) rest
  comment : {cs rest : List ℕ} → IsTrue (list_all is_comment_part cs) → IsFalse (begins_with is_comment_part rest) →
      IsGap (hyphen ∷ hyphen ∷ cs) rest

-- A token's text, before this rest of the text, which doesn't go on with it.
pub data IsToken : Kind → List ℕ → List ℕ → Type 0 where
  name : {cs rest : List ℕ} → IsWord cs → IsFalse (begins_with is_name_part rest) → reserved cs ≡ None →
      IsToken (NAME (map to_ascii_lowercase cs)) cs rest
  reserved_word : {cs rest : List ℕ} {t : Terminal} → IsWord cs → IsFalse (begins_with is_name_part rest) →
      reserved cs ≡ Some t → IsToken (TERMINAL t) cs rest
  integer : {cs rest : List ℕ} → IsInteger cs → IsFalse (digit_follows rest) → decimal cs ≤ 9223372036854775807 →
      IsToken (INTEGER (pos (decimal cs))) cs rest
  manifest_string : {cs vs rest : List ℕ} → IsManifest cs vs → IsToken (STRING vs) (quote ∷ (cs ++ quote ∷ [])) rest
  long : {a b : ℕ} {rest : List ℕ} {t : Terminal} → long_symbol a b ≡ Some t → IsToken (TERMINAL t) (a ∷ b ∷ []) rest
  short : {a : ℕ} {rest : List ℕ} {t : Terminal} → short_symbol a ≡ Some t → IsFalse (goes_on a rest) →
      IsToken (TERMINAL t) (a ∷ []) rest

-- ---- the whole

-- From this place on the text begins with these tokens, and up to a further place it holds nothing else but
-- white space and comments; from there the rest follows.
pub data BeginsWith : ℕ → List ℕ → List Lexeme → ℕ → List ℕ → Type 0 where
  here : {place : ℕ} {text : List ℕ} → BeginsWith place text [] place text
  gap : {place end : ℕ} {cs text rest : List ℕ} {ts : List Lexeme} → IsGap cs text →
      BeginsWith (place + length cs) text ts end rest → BeginsWith place (cs ++ text) ts end rest
  token : {place end : ℕ} {k : Kind} {cs text rest : List ℕ} {ts : List Lexeme} → IsToken k cs text →
      BeginsWith (place + length cs) text ts end rest →
      BeginsWith place (cs ++ text) (record { kind = k; span = span_at place (length cs) } ∷ ts) end rest

-- The text spells these tokens.
abbrev pub Spells : List ℕ → List Lexeme → Type 0
Spells text ts = BeginsWith 0 text ts (length text) []

-- ---- what is wrong

-- At this place is no token, white space or comment: a character that begins none of them, a manifest string that no
-- quote closes on its line or that has a percent sign without an escape, or an integer that is too large. At fault
-- are the character, the opening quote, the percent sign, or the digits.
pub data IsFault : ℕ → List ℕ → LexFault → Type 0 where
  bad_character : {place c : ℕ} {rest : List ℕ} →
      IsFalse (is_white_space c || is_letter c || is_digit c || c == quote) → short_symbol c ≡ None →
      IsFalse (goes_on c rest) → IsFault place (c ∷ rest) (fault.BadCharacter (span_at place 1))
  unclosed_string : {place : ℕ} {rest : List ℕ} → ((cs after : List ℕ) → IsQuoted cs → rest ≡ cs ++ quote ∷ after → ⊥) →
      IsFault place (quote ∷ rest) (fault.UnclosedString (span_at place 1))
  bad_escape : {place : ℕ} (c : ℕ) {cs vs ds : List ℕ} (rest : List ℕ) →
      IsManifest cs vs → escape c ≡ None → IsFalse (ends_line c) → IsQuoted ds →
      IsFault place (quote ∷ (cs ++ percent ∷ c ∷ (ds ++ quote ∷ rest)))
      (fault.BadEscape (span_at (place + 1 + length cs) 1))
  integer_too_large : {place : ℕ} {cs : List ℕ} (rest : List ℕ) →
      IsInteger cs → IsFalse (digit_follows rest) → 9223372036854775807 < decimal cs →
      IsFault place (cs ++ rest) (fault.IntegerTooLarge (span_at place (length cs)))

-- The text before the fault is the beginning of a spelling, and the fault comes next.
pub record HasFault (text : List ℕ) (e : LexFault) : Type 0 where
  pub before : List Lexeme
  pub place : ℕ
  pub rest : List ℕ
  pub spelled : BeginsWith 0 text before place rest
  pub wrong : IsFault place rest e

-- why a text is refused
abbrev pub IsRefused : List ℕ → LexFault → Type 0
IsRefused text fault.OutOfMemory = Unit {0}
IsRefused text fault.SourceTooLong = max_source_bytes < length text
IsRefused text (fault.BadCharacter span) = HasFault text (fault.BadCharacter span)
IsRefused text (fault.UnclosedString span) = HasFault text (fault.UnclosedString span)
IsRefused text (fault.BadEscape span) = HasFault text (fault.BadEscape span)
IsRefused text (fault.IntegerTooLarge span) = HasFault text (fault.IntegerTooLarge span)

-- From this place on the tokens follow one another within the text, and each is spelled by its own slice of it.
abbrev pub StandInOrder : List ℕ → ℕ → List Lexeme → Type 0
StandInOrder text from [] = from ≤ length text
StandInOrder text from (t ∷ ts) =
    (from ≤ t.span.start) × (t.span.start < t.span.end)
    × IsToken t.kind (slice_range text t.span.start t.span.end) (drop t.span.end text) × StandInOrder text t.span.end ts

-- ---- laws

-- no text spells two lists of tokens
abbrev pub OneSpelling : Type 0
OneSpelling = (text : List ℕ) (ts us : List Lexeme) → Spells text ts → Spells text us → ts ≡ us

-- no text has two faults, each the first
abbrev pub OneFault : Type 0
OneFault = (text : List ℕ) (d e : LexFault) → HasFault text d → HasFault text e → d ≡ e

-- no text that has a fault spells tokens
abbrev pub NoSpellingOfFaults : Type 0
NoSpellingOfFaults = (text : List ℕ) (ts : List Lexeme) (e : LexFault) → Spells text ts → HasFault text e → ⊥
