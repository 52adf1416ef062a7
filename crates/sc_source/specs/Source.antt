-- The source text of a system, and the places in its files. A text is the list of its bytes.
use Rattle.std.specs.Prelude.{ℕ, ◌+◌, ◌-◌, ◌==◌, Bool, not, List, [], ◌∷◌, ◌++◌, Option, Some, None, if◌then◌else◌, length, map, take, drop, count_by, nat_eq, nat_le}
use Rattle.std.specs.List.{starts_with, suffix_len}
use Rattle.std.specs.Option.{option_and_then}
use Rattle.sc_text.specs.Spelling.{max_source_bytes}
use Rattle.sc_text.specs.declared.token.Span.{Span}
use Rattle.sc_source.specs.declared.source.Place as code

-- A file's name and its text.
pub record File : Type 0 where
  pub name : List ℕ
  pub text : List ℕ

-- A place: a file's name, and the line and the column, both from 1. A column is a byte.
pub record Place : Type 0 where
  pub file : List ℕ
  pub line : ℕ
  pub column : ℕ

-- a place as code holds it
abbrev pub seen : code.Place → Place
seen p = record { file = p.file.now; line = p.line; column = p.column }

abbrev pub line_feed : ℕ
line_feed = 10

abbrev pub is_line_feed : ℕ → Bool
is_line_feed c = c == line_feed

-- U+FEFF in UTF-8
abbrev pub byte_order_mark : List ℕ
byte_order_mark = 239 ∷ 187 ∷ 191 ∷ []

-- a text without the byte order mark at its start, if it has one
abbrev pub unmarked : List ℕ → List ℕ
unmarked text = if starts_with nat_eq text byte_order_mark then drop 3 text else text

-- texts one after the other, each with a line feed after it
abbrev pub joined_texts : List (List ℕ) → List ℕ
joined_texts [] = []
joined_texts (t ∷ ts) = t ++ (line_feed ∷ joined_texts ts)

-- the names of files
abbrev pub names_of : List File → List (List ℕ)
names_of fs = map (λ f. f.name) fs

-- the texts of files
abbrev pub texts_of : List File → List (List ℕ)
texts_of fs = map (λ f. f.text) fs

-- The source text of files: the text of each in order, each with a line feed after it.
abbrev pub joined : List File → List ℕ
joined fs = joined_texts (texts_of fs)

-- How short the text of one more file has to be: it has fewer bytes than this, for the line feed after it.
abbrev pub room_after : List File → ℕ
room_after fs = max_source_bytes - length (joined fs)

-- the line on which a text ends
abbrev pub line_after : List ℕ → ℕ
line_after text = 1 + count_by is_line_feed text

-- the column of what comes next after a text: the bytes since the last line feed are before it
abbrev pub column_after : List ℕ → ℕ
column_after text = 1 + suffix_len (λ c. not (is_line_feed c)) text

-- the place of the byte at an offset of a file's text
abbrev pub place_in : File → ℕ → Place
place_in f offset =
    record { file = f.name; line = line_after (take offset f.text); column = column_after (take offset f.text) }

-- The place of the byte at an offset of the source text of files. The line feed after a file's text belongs to that
-- file.
abbrev pub place_of : List File → ℕ → Option Place
place_of [] offset = None
place_of (f ∷ fs) offset =
    if nat_le offset (length f.text) then Some (place_in f offset) else place_of fs (offset - (length f.text + 1))

-- where a part of their source text begins, if there is one
abbrev pub place_at : List File → Option Span → Option Place
place_at fs span = option_and_then (λ (s : Span). place_of fs s.start) span
