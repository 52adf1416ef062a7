-- Parts of a record's text.
use Rattle.std.specs.Prelude.{ℕ, ◌+◌, ◌-◌, ◌*◌, List, ◌++◌, codes}
use Rattle.std.specs.Int.{IsInRange}
use Rattle.std.specs.List.{flat_map}
use Rattle.sc_lockpass.specs.declared.version.Version.{Version}
use Rattle.sc_audit.specs.declared.line.RecordLine.{RecordLine}
use Rattle.sc_audit.specs.Records.{first_line, last_line, line_text}

-- a digit in ASCII
abbrev pub IsDigit : ℕ → Type 0
IsDigit c = IsInRange 48 57 c

-- a number with one digit more
abbrev pub with_digit : ℕ → ℕ → ℕ
with_digit number digit = number * 10 + (digit - 48)

-- what the first line begins with
abbrev pub title : List ℕ
title = codes "scoop record "

-- the first line and these lines
abbrev pub head_of : Version → List RecordLine → List ℕ
head_of version lines = first_line version ++ flat_map line_text lines

-- these lines, and the last one after `n` others
abbrev pub rest_of : List RecordLine → ℕ → List ℕ
rest_of lines count = flat_map line_text lines ++ last_line count
