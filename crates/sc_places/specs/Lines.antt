-- The lines of a source text, as the table has them.
use Rattle.std.specs.Prelude.{ℕ, ◌≡◌, ◌+◌, ◌-◌, ◌<◌, ◌≤◌, Bool, not, List, Some}
use Rattle.sc_source.specs.Source.{File, is_line_feed, place_of}
use Rattle.sc_places.specs.declared.lines.Line.{Line}

-- The bytes from the line's first one to its last one have their places in this line.
abbrev pub IsLine : List File → Line → Type 0
IsLine files l = (offset : ℕ) → l.start ≤ offset → offset < l.end →
    place_of files offset ≡ Some (record { file = l.file.now; line = l.number; column = offset - l.start + 1 })

-- It is such a line, and begins at this byte.
abbrev pub Begins : List File → ℕ → Line → Type 0
Begins files offset l = IsLine files l × (l.start ≡ offset) × (offset < l.end)

abbrev pub is_in_line : ℕ → Bool
is_in_line c = not (is_line_feed c)

-- A byte has its place in the line of this number, from 1, of this file.
pub record IsInLine (files : List File) (offset : ℕ) (file : List ℕ) (number : ℕ) : Type 0 where
  pub counted : 0 < number
  pub column : ℕ
  pub place : place_of files offset ≡ Some (record { file = file; line = number; column = column })
