-- Records: which handler took how many turns, line after line, and the one text of each.
use Rattle.std.specs.Prelude.{ℕ, ◌+◌, ◌<◌, ◌≤◌, ◌≡◌, List, [], ◌∷◌, ◌++◌, All, codes, decimal, length, sum_by}
use Rattle.std.specs.List.{flat_map}
use Rattle.sc_lockpass.specs.declared.version.Version.{Version}
use Rattle.sc_lockpass.specs.declared.version.Version.TheVariants.{One, Two}
use Rattle.sc_lockpass.specs.Versions.{most_handlers}
use Rattle.sc_audit.specs.declared.line.RecordLine.{RecordLine}

-- the most lines of a record
abbrev pub most_lines : ℕ
most_lines = 1000000

-- the most turns of a record, all its lines together
abbrev pub most_turns : ℕ
most_turns = 10000000

-- how many turns these lines are, all together
abbrev pub turns_of : List RecordLine → ℕ
turns_of lines = sum_by (λ (line : RecordLine). line.turns) lines

-- Lines are those of a record of this version: each names a handler that there can be, with one turn at least, and
-- there are neither too many lines nor too many turns.
pub record IsRecord (version : Version) (lines : List RecordLine) : Type 0 where
  pub handlers : All (λ (line : RecordLine). line.handler < most_handlers version) lines
  pub some : All (λ (line : RecordLine). 0 < line.turns) lines
  pub few : length lines ≤ most_lines
  pub short : turns_of lines ≤ most_turns

abbrev pub line_feed : ℕ
line_feed = 10

-- the number of a version
abbrev pub version_number : Version → ℕ
version_number One = 1
version_number Two = 2

-- the first line, which names the version
abbrev pub first_line : Version → List ℕ
first_line version = codes "scoop record " ++ (decimal (version_number version) ++ line_feed ∷ [])

-- a line: the handler's number, a space, and how many turns it takes
abbrev pub line_text : RecordLine → List ℕ
line_text line = decimal line.handler ++ (codes " " ++ (decimal line.turns ++ line_feed ∷ []))

-- the last line, which says how many lines there are between the first and it
abbrev pub last_line : ℕ → List ℕ
last_line count = codes "end " ++ (decimal count ++ line_feed ∷ [])

-- The text of a record: its first line, each of its lines and its last one. Numbers are decimal without leading zeros.
abbrev pub text_of : Version → List RecordLine → List ℕ
text_of version lines = first_line version ++ (flat_map line_text lines ++ last_line (length lines))

-- The text is that of a record.
abbrev pub IsRecordText : List ℕ → Type 0
IsRecordText text =
    (version : Version) × (lines : List RecordLine) × (IsRecord version lines × (text ≡ text_of version lines))

-- The text of a record begins with these bytes.
abbrev pub BeginsRecord : List ℕ → Type 0
BeginsRecord bytes = (rest : List ℕ) × IsRecordText (bytes ++ rest)
