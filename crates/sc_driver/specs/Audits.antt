-- What an audit answers.
use Rattle.std.specs.Prelude.{ℕ, List, replicate}
use Rattle.std.specs.List.{flat_map}
use Rattle.sc_audit.specs.declared.line.RecordLine.{RecordLine}
use Rattle.sc_audit.specs.Records.{IsRecord}
use Rattle.sc_code.specs.declared.program.Image.{Image}
use Rattle.sc_world.specs.Turning.{Runs}
use Rattle.sc_world.specs.Worlds.{PlainWorld, opened}
use Rattle.sc_plant.specs.declared.left.Left.{Left}
use Rattle.sc_plant.specs.Left.{world_of}
use Rattle.sc_recording.specs.Same.{FirstDiffers, IsSame}
use Rattle.sc_driver.specs.declared.auditing.AuditFault.{AuditFault}
use Rattle.sc_driver.specs.declared.auditing.AuditFault.TheVariants.{BadRecord, Differs, OutOfMemory}
use Rattle.sc_driver.specs.Misfits.{IsFirstMisfit}

-- the turns of lines: line after line the number of its handler, once for each turn
abbrev pub turns_of : List RecordLine → List ℕ
turns_of lines = flat_map (λ (line : RecordLine). replicate line.turns line.handler) lines

-- From the opening of the program, with as many handlers as the version has, the turns of the record lead to this
-- world.
abbrev pub LeadsTo : Image → Left → PlainWorld → Type 0
LeadsTo p left w = Runs (turns_of left.lines.items) (opened p left.version) w

-- The record is one, and its turns end in what is left.
pub record IsAudited (p : Image) (left : Left) : Type 0 where
  pub is_record : IsRecord left.version left.lines.items
  pub world : PlainWorld
  pub leads : LeadsTo p left world
  pub same : IsSame world (world_of left)

-- The record is one, and its turns end in a world that differs from what is left. The handler is the lowest at which
-- it does.
pub record DiffersAt (p : Image) (left : Left) (h : ℕ) : Type 0 where
  pub is_record : IsRecord left.version left.lines.items
  pub world : PlainWorld
  pub leads : LeadsTo p left world
  pub differs : FirstDiffers h world (world_of left)

-- Why an audit doesn't say yes. Memory is wanted only to play a record.
abbrev pub TellsWhy : Image → Left → AuditFault → Type 0
TellsWhy p left (BadRecord line) = IsFirstMisfit left.version left.lines.items line
TellsWhy p left (Differs h) = DiffersAt p left h
TellsWhy p left OutOfMemory = IsRecord left.version left.lines.items
