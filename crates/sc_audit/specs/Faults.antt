-- What is wrong with a text that is no record's.
use Rattle.std.specs.Prelude.{ℕ, ◌+◌, ◌≤◌, ◌==◌, ◌≡◌, List, ◌++◌, count_by, length}
use Rattle.std.specs.Io.{IsEmptyOrEndsWith}
use Rattle.sc_audit.specs.Records.{BeginsRecord, IsRecordText, line_feed}

-- how many lines end in these bytes
abbrev pub lines_in : List ℕ → ℕ
lines_in bytes = count_by (λ c. c == line_feed) bytes

-- Bytes are whole lines that the text of a record begins with.
abbrev pub AreFitting : List ℕ → Type 0
AreFitting bytes = IsEmptyOrEndsWith bytes line_feed × BeginsRecord bytes

-- The text is no record's, and this line of it, from 1, is the first that doesn't fit: the lines before it are the
-- longest whole lines of the text that the text of a record begins with.
pub record IsAtFault (text : List ℕ) (line : ℕ) : Type 0 where
  pub before : List ℕ
  pub rest : List ℕ
  pub parts : text ≡ before ++ rest
  pub fitting : AreFitting before
  pub longest : (others after : List ℕ) → text ≡ others ++ after → AreFitting others → length others ≤ length before
  pub number : line ≡ lines_in before + 1
  pub no_record : ¬ IsRecordText text
