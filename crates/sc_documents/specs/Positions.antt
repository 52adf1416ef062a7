-- Positions in a text, which is the list of its bytes, in UTF-8: a line and a character of it, both from 0. A character
-- is a unit of UTF-16.
use Rattle.std.specs.Prelude.{ℕ, zero, suc, ◌≡◌, ◌+◌, ◌-◌, ◌==◌, ◌||◌, ◌&&◌, Bool, false, not, List, [], ◌∷◌, drop, if◌then◌else◌, nat_lt, slice_index}
use Rattle.std.specs.Str.{IsCharBoundary}
use Rattle.sc_documents.specs.declared.position.Position.{Position}

-- how many units the character has that begins with this byte: two if it has four bytes. A byte that doesn't begin a
-- character has none.
abbrev pub units_of : ℕ → ℕ
units_of byte =
    if nat_lt byte 128 then 1 else if nat_lt byte 192 then 0 else if nat_lt byte 240 then 1 else 2

-- a byte of what ends a line: a line feed, or a carriage return
abbrev pub is_break : ℕ → Bool
is_break byte = byte == 10 || byte == 13

-- the first byte is a line feed
abbrev pub begins_feed : List ℕ → Bool
begins_feed [] = false
begins_feed (byte ∷ rest) = byte == 10

-- A line ends after the first byte: after a line feed, and after a carriage return if no line feed follows.
abbrev pub ends_line : List ℕ → Bool
ends_line [] = false
ends_line (byte ∷ rest) = byte == 10 || (byte == 13 && not (begins_feed rest))

-- ---- offsets

-- how many bytes come before a line; all if there are fewer lines
abbrev pub bytes_before : ℕ → List ℕ → ℕ
bytes_before zero text = 0
bytes_before (suc line) [] = 0
bytes_before (suc line) (byte ∷ rest) =
    1 + (if ends_line (byte ∷ rest) then bytes_before line rest else bytes_before (suc line) rest)

-- how many bytes the characters at the beginning of a line have that fit in so many units
abbrev pub bytes_within : ℕ → List ℕ → ℕ
bytes_within room [] = 0
bytes_within room (byte ∷ rest) =
    if is_break byte || nat_lt room (units_of byte) then 0 else 1 + bytes_within (room - units_of byte) rest

-- The offset of a position: the bytes before its line, and those of the characters before it. A character after the
-- end of the line is that end.
abbrev pub offset_of : List ℕ → Position → ℕ
offset_of text p =
    bytes_before p.line text + bytes_within p.character (drop (bytes_before p.line text) text)

-- ---- positions

-- how many lines end in the first bytes
abbrev pub line_at : ℕ → List ℕ → ℕ
line_at zero text = 0
line_at (suc offset) [] = 0
line_at (suc offset) (byte ∷ rest) = (if ends_line (byte ∷ rest) then 1 else 0) + line_at offset rest

-- how many units the first bytes have after the last end of a line among them
abbrev pub character_at : ℕ → List ℕ → ℕ
character_at zero text = 0
character_at (suc offset) [] = 0
character_at (suc offset) (byte ∷ rest) =
    (if line_at (suc offset) (byte ∷ rest) == 0 then units_of byte else 0) + character_at offset rest

abbrev pub position_of : List ℕ → ℕ → Position
position_of text offset = record { line = line_at offset text; character = character_at offset text }

-- the position after so many bytes of the text that begins at a position
abbrev pub advanced : Position → List ℕ → ℕ → Position
advanced from text count =
    record { line = from.line + line_at count text; character = (if line_at count text == 0 then from.character else 0) + character_at count text }

-- ---- and back

-- No carriage return is before the place with a line feed after it.
abbrev pub IsWholeEnd : List ℕ → ℕ → Type 0
IsWholeEnd text zero = Unit {0}
IsWholeEnd text (suc before) = slice_index text before ≡ 13 → (slice_index text (suc before) == 10) ≡ false

-- The offset of the position of a place is that place.
-- Neither a character nor a carriage return with its line feed is cut there.
abbrev pub IsPlace : List ℕ → ℕ → Type 0
IsPlace text offset = IsCharBoundary text offset × IsWholeEnd text offset

abbrev pub PlacesComeBack : Type 0
PlacesComeBack = (text : List ℕ) (offset : ℕ) → IsPlace text offset → offset_of text (position_of text offset) ≡ offset
