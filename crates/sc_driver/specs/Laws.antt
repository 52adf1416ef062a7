-- Laws of audits.
use Rattle.std.specs.Prelude.{◌≡◌, ◌≤◌, ℕ, List}
use Rattle.sc_lockpass.specs.declared.version.Version.{Version}
use Rattle.sc_audit.specs.declared.line.RecordLine.{RecordLine}
use Rattle.sc_audit.specs.Records.{IsRecord, most_turns}
use Rattle.sc_code.specs.declared.program.Image.{Image}
use Rattle.sc_world.specs.Reports.{report}
use Rattle.sc_world.specs.Worlds.{PlainWorld, max_handlers}
use Rattle.sc_plant.specs.declared.left.Left.{Left}
use Rattle.sc_plant.specs.Left.{IsRun}
use Rattle.sc_recording.specs.Same.{IsSame}
use Rattle.sc_driver.specs.Audits.{IsAudited}
use Rattle.sc_driver.specs.Misfits.{IsFirstMisfit}

-- Lines with one that doesn't fit are no record's.
abbrev pub MisfitsAreNoRecord : Type 0
MisfitsAreNoRecord = (version : Version) (lines : List RecordLine) (number : ℕ) → IsFirstMisfit version lines number →
    IsRecord version lines → ⊥

-- and there is one first line that doesn't.
abbrev pub OneMisfit : Type 0
OneMisfit = (version : Version) (lines : List RecordLine) (number other : ℕ) → IsFirstMisfit version lines number →
    IsFirstMisfit version lines other → number ≡ other

-- What a run left, which may have had no more turns than a record, is what the turns of its record end in.
abbrev pub RunsAuditYes : Type 0
RunsAuditYes = (p : Image) (limit : ℕ) (left : Left) → limit ≤ most_turns → IsRun p limit left → ∥ IsAudited p left ∥₁

-- Worlds that hold the same have equal reports, if there are no more handlers than are compared.
abbrev pub SameWorldsHaveSameReports : Type 0
SameWorldsHaveSameReports = (w v : PlainWorld) → w.center.state.count ≤ max_handlers →
    v.center.state.count ≤ max_handlers →
    IsSame w v → report w ≡ report v
