-- What is read of a record's text, and how one byte goes on from it.
use Rattle.std.specs.Prelude.{ℕ, ◌≡◌, ◌+◌, ◌<◌, ◌≤◌, List, [], ◌∷◌, ◌++◌, Option, Result, Ok, Err, codes, decimal, length, take, MatchOption, MatchResult}
use Rattle.sc_lockpass.specs.declared.version.Version.{Version}
use Rattle.sc_lockpass.specs.Versions.{most_handlers}
use Rattle.sc_audit.specs.declared.line.RecordLine.{RecordLine}
use Rattle.sc_audit.specs.declared.beginning.Expected.{Expected}
use Rattle.sc_audit.specs.declared.beginning.Expected.TheVariants as expected
use Rattle.sc_audit.specs.declared.beginning.Beginning.{Beginning}
use Rattle.std.specs.Io.KnownBytes.{Consumes}
use Rattle.std.specs.IoError.{error_kind}
use Rattle.sc_audit.specs.declared.beginning.Record.{Record}
use Rattle.sc_audit.specs.declared.beginning.ReadFault.{ReadFault}
use Rattle.sc_audit.specs.declared.beginning.ReadFault.TheVariants as fault
use Rattle.sc_audit.specs.Records.{BeginsRecord, IsRecord, last_line, most_lines, most_turns, text_of, turns_of, version_number}
use Rattle.sc_audit.specs.Faults.{IsAtFault}
use Rattle.sc_audit.specs.Reading.{IsForGood}
use Rattle.sc_audit.specs.Internal.Parts.{head_of, title}

-- The bytes that were read, from the lines that are whole and from what is expected next.
abbrev pub bytes_read : Version → List RecordLine → Expected → List ℕ
bytes_read version lines (expected.Title read) = take read title
bytes_read version lines expected.VersionNumber = title
bytes_read version lines expected.VersionEnd = title ++ decimal (version_number version)
bytes_read version lines expected.Line = head_of version lines
bytes_read version lines (expected.Handler number) = head_of version lines ++ decimal number
bytes_read version lines (expected.Turns handler) = head_of version lines ++ (decimal handler ++ codes " ")
bytes_read version lines (expected.MoreTurns handler number) =
    head_of version lines ++ (decimal handler ++ (codes " " ++ decimal number))
bytes_read version lines (expected.LastLine read) = head_of version lines ++ take read (last_line (length lines))
bytes_read version lines expected.Nothing = text_of version lines

-- There is room for another line.
abbrev pub HasRoom : List RecordLine → Type 0
HasRoom lines = (length lines < most_lines) × (turns_of lines < most_turns)

-- What is expected goes on to a record.
abbrev pub IsOpen : Version → List RecordLine → Expected → Type 0
IsOpen version lines (expected.Title read) = (lines ≡ []) × (read < length title)
IsOpen version lines expected.VersionNumber = lines ≡ []
IsOpen version lines expected.VersionEnd = lines ≡ []
IsOpen version lines expected.Line = Unit {0}
IsOpen version lines (expected.Handler number) = HasRoom lines × (number < most_handlers version)
IsOpen version lines (expected.Turns handler) = HasRoom lines × (handler < most_handlers version)
IsOpen version lines (expected.MoreTurns handler number) =
    (length lines < most_lines) × (handler < most_handlers version) × (0 < number)
    × (turns_of lines + number ≤ most_turns)
IsOpen version lines (expected.LastLine read) = (0 < read) × (read < length (last_line (length lines)))
IsOpen version lines expected.Nothing = Unit {0}

-- What was read goes on to a record.
pub record IsKept (b : Beginning) : Type 0 where
  pub limits : IsRecord b.version b.lines.items
  pub total : b.turns ≡ turns_of b.lines.items
  pub open_end : IsOpen b.version b.lines.items b.expected

abbrev pub read_of : Beginning → List ℕ
read_of b = bytes_read b.version b.lines.items b.expected

-- the line of the next byte, after `n` whole lines
abbrev pub line_at : ℕ → Expected → ℕ
line_at count (expected.Title read) = 1
line_at count expected.VersionNumber = 1
line_at count expected.VersionEnd = 1
line_at count expected.Nothing = count + 3
line_at count _ = count + 2

abbrev pub line_of : Beginning → ℕ
line_of b = line_at (length b.lines.items) b.expected

-- What may follow if this byte goes on to a record, and None only if it goes on to none.
abbrev pub GoesOn : Beginning → ℕ → Option Expected → Type 0
GoesOn b byte next = MatchOption next (¬ BeginsRecord (read_of b ++ byte ∷ []))
    (λ e. IsOpen b.version b.lines.items e × (bytes_read b.version b.lines.items e ≡ read_of b ++ byte ∷ []))

-- what is wrong with a byte
abbrev pub IsMisfit : Beginning → ℕ → ReadFault → Type 0
IsMisfit b byte (fault.BadRecord line) = (line ≡ line_of b) × (¬ BeginsRecord (read_of b ++ byte ∷ []))
IsMisfit b byte (fault.Unreadable error) = ⊥
IsMisfit b byte fault.OutOfMemory = Unit {0}

-- One byte was taken, or doesn't fit, or memory ran out.
abbrev pub Takes : Beginning → ℕ → Beginning → Result (Unit {0}) ReadFault → Type 0
Takes old byte new (Ok done) = IsKept new × (read_of new ≡ read_of old ++ byte ∷ [])
Takes old byte new (Err why) = IsMisfit old byte why

-- what is wrong with one of these bytes
abbrev pub IsMisfitIn : Beginning → List ℕ → ReadFault → Type 0
IsMisfitIn b bytes (fault.BadRecord line) = (rest : List ℕ) → IsAtFault (read_of b ++ (bytes ++ rest)) line
IsMisfitIn b bytes (fault.Unreadable error) = ⊥
IsMisfitIn b bytes fault.OutOfMemory = Unit {0}

-- The bytes were taken, or one of them doesn't fit, or memory ran out.
abbrev pub TakesAll : Beginning → List ℕ → Beginning → Result (Unit {0}) ReadFault → Type 0
TakesAll old bytes new (Ok done) = IsKept new × (read_of new ≡ read_of old ++ bytes)
TakesAll old bytes new (Err why) = IsMisfitIn old bytes why

-- What is wrong with a block: where the reader failed, it did so for good and gave nothing.
abbrev pub IsBlockFault : Beginning → List ℕ → ReadFault → Type 0
IsBlockFault b bytes (fault.BadRecord line) = (rest : List ℕ) → IsAtFault (read_of b ++ (bytes ++ rest)) line
IsBlockFault b bytes (fault.Unreadable error) = IsForGood (error_kind error) × (bytes ≡ [])
IsBlockFault b bytes fault.OutOfMemory = Unit {0}

-- A reader gave a block.
pub record ReadsBlock {T : Type 0} (most : ℕ) (known now : Option (List ℕ)) (old new : Beginning)
    (result : Result T ReadFault) : Type 0 where
  pub bytes : List ℕ
  pub consumed : Consumes known now bytes
  pub few : length bytes ≤ most
  pub outcome : MatchResult result (λ _. IsKept new × (read_of new ≡ read_of old ++ bytes)) (IsBlockFault old bytes)

-- The text ends here.
abbrev pub Ends : Beginning → Result Record ReadFault → Type 0
Ends b (Ok whole) = IsRecord whole.version whole.lines.items × (read_of b ≡ text_of whole.version whole.lines.items)
Ends b (Err (fault.BadRecord line)) = IsAtFault (read_of b) line
Ends b (Err (fault.Unreadable error)) = ⊥
Ends b (Err fault.OutOfMemory) = ⊥
