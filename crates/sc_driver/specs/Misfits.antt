-- Lines that are no record's.
use Rattle.std.specs.Prelude.{◌≡◌, ◌+◌, ◌<◌, ◌≤◌, ℕ, List, take}
use Rattle.sc_lockpass.specs.declared.version.Version.{Version}
use Rattle.sc_lockpass.specs.Versions.{most_handlers}
use Rattle.sc_audit.specs.declared.line.RecordLine.{RecordLine}
use Rattle.sc_audit.specs.Records.{IsRecord}

-- A record of the version may have the line, with this number of turns left.
pub record IsLine (version : Version) (turns_left : ℕ) (line : RecordLine) : Type 0 where
  pub handler : line.handler < most_handlers version
  pub some : 0 < line.turns
  pub few : line.turns ≤ turns_left

-- The line of this number in the text, from 1, is the first that doesn't fit: the lines before it are a record's,
-- and with it they aren't. One line comes before them all.
pub record IsFirstMisfit (version : Version) (lines : List RecordLine) (number : ℕ) : Type 0 where
  pub before : ℕ
  pub number_is : number ≡ before + 2
  pub fits : IsRecord version (take before lines)
  pub misfit : IsRecord version (take (before + 1) lines) → ⊥
