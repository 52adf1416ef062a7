-- What threads leave.
use Rattle.std.specs.Prelude.{◌≡◌, ◌<◌, ◌≤◌, ℕ, List, None, Some, length, map, slice_get}
use Rattle.std.specs.List.{All}
use Rattle.sc_lockpass.specs.Versions.{most_handlers}
use Rattle.sc_lockpass.specs.declared.version.Version.{Version}
use Rattle.sc_lockpass.specs.declared.version.Version.TheVariants.{Two}
use Rattle.sc_audit.specs.Records.{IsRecord, most_turns}
use Rattle.sc_audit.specs.declared.line.RecordLine.{RecordLine}
use Rattle.sc_code.specs.declared.program.Image.{Image}
use Rattle.sc_handler.specs.declared.settlement.Settlement.{Settlement}
use Rattle.sc_request.specs.declared.center.Core as coded
use Rattle.sc_request.specs.Cores.{center_of, log_of, state_of}
use Rattle.sc_play.specs.Regions.{PlainRegion, new_region}
use Rattle.sc_worklog.specs.LoggedRegions.{region_of}
use Rattle.sc_worklog.specs.Replaying.{AreMade, Replays}
use Rattle.sc_world.specs.Turning.{MakeTurns}
use Rattle.sc_world.specs.Worlds.{PlainWorld, max_handlers, opened}
use Rattle.sc_recording.specs.Due.{AreBelow, PlaysTo}
use Rattle.sc_recording.specs.Ending.{IsOver}
use Rattle.sc_recording.specs.Recorded.{lines_of, settlements_for, turns_of}
use Rattle.sc_recording.specs.Regions.{AgreesIn}
use Rattle.sc_plant.specs.declared.left.Left.{Left}
use Rattle.sc_plant.specs.declared.left.LoggedLeft.{LoggedLeft}
use Rattle.sc_plant.specs.declared.left.RunFault.{RunFault}
use Rattle.sc_plant.specs.declared.left.RunFault.TheVariants.{OutOfMemory, ThreadRefused, LogsDiffer}
use Rattle.sc_plant.specs.OneThread.{EndsIn}

-- the world that is left
abbrev pub world_of : Left → PlainWorld
world_of left = record { most = most_handlers left.version; center = center_of left.core; regions = left.regions.items }

-- The regions are of this program, the settlements play from the opening to the state of the core, each under the job
-- that was due, and are the lines of the record.
pub record IsLeftWith (p : Image) (v : Version) (rs : List PlainRegion) (core : coded.Core)
    (ls : List RecordLine) : Type 0 where
  pub version : v ≡ Two
  pub count : length rs ≡ max_handlers
  pub programs : All (λ (x : PlainRegion). x.store.program ≡ p) rs
  pub plays : ∥ PlaysTo p (log_of core) (state_of core) ∥₁
  pub below : AreBelow (log_of core)
  pub lines : ls ≡ lines_of (log_of core)

-- So is whatever a run of the program leaves.
abbrev pub IsLeft : Image → Left → Type 0
IsLeft p left = IsLeftWith p left.version left.regions.items left.core left.lines.items

-- What a run leaves, of regions with their logs.
abbrev pub IsLeftLogged : Image → LoggedLeft → Type 0
IsLeftLogged p left = IsLeftWith p left.version (map region_of left.regions.items) left.core left.lines.items

-- The log of the handler's region is that of its settlements.
abbrev pub AgreesAt : LoggedLeft → ℕ → Type 0
AgreesAt left h = AgreesIn left.regions.items (log_of left.core) h

-- The turns of each handler's settlements, one after the other, lead its new region to the one of its number.
abbrev pub AreMadeBy : Image → List Settlement → List PlainRegion → Type 0
AreMadeBy p es rs = (h : ℕ) (x : PlainRegion) → slice_get rs h ≡ Some x →
    ∥ AreMade (settlements_for h es) (new_region p h) x ∥₁

-- They replay to it, with turns among them that memory was refused to.
abbrev pub AreReplayed : Image → List Settlement → List PlainRegion → Type 0
AreReplayed p es rs = (h : ℕ) (x : PlainRegion) → slice_get rs h ≡ Some x → ∥ Replays p h (settlements_for h es) x ∥₁

-- What a run leaves that ends: each region is the one to which its handler's settlements lead.
pub record IsRun (p : Image) (limit : ℕ) (left : Left) : Type 0 where
  pub left_is : IsLeft p left
  pub over : IsOver limit (center_of left.core) left.lines.items
  pub made : AreMadeBy p (log_of left.core) left.regions.items

-- What a run leaves that memory was refused to: no handler is out, and its settlements replay to each region.
pub record IsStopped (p : Image) (left : Left) : Type 0 where
  pub left_is : IsLeft p left
  pub home : (h : ℕ) → (center_of left.core).out h ≡ None
  pub replays : AreReplayed p (log_of left.core) left.regions.items

-- What a run that doesn't end says.
abbrev pub SaysWhy : Image → RunFault → Type 0
SaysWhy p (OutOfMemory None) = Unit {0}
SaysWhy p (OutOfMemory (Some left)) = IsStopped p left
SaysWhy p ThreadRefused = Unit {0}
SaysWhy p (LogsDiffer h left) = IsLeftLogged p left × (AgreesAt left h → ⊥) × ((k : ℕ) → k < h → AgreesAt left k)

-- It is that memory was refused.
abbrev pub IsOutOfMemory : RunFault → Type 0
IsOutOfMemory (OutOfMemory left) = Unit {0}
IsOutOfMemory ThreadRefused = ⊥
IsOutOfMemory (LogsDiffer h left) = ⊥

-- If memory was refused, it has what is left.
abbrev pub TellsLeft : RunFault → Type 0
TellsLeft (OutOfMemory None) = ⊥
TellsLeft (OutOfMemory (Some left)) = Unit {0}
TellsLeft ThreadRefused = Unit {0}
TellsLeft (LogsDiffer h left) = Unit {0}

-- Memory was refused, and nothing is left.
abbrev pub LeavesNothing : RunFault → Type 0
LeavesNothing (OutOfMemory None) = Unit {0}
LeavesNothing (OutOfMemory (Some left)) = ⊥
LeavesNothing ThreadRefused = ⊥
LeavesNothing (LogsDiffer h left) = ⊥

-- ---- the laws

-- One thread that makes the turns of the record's lines, each of a handler that has something to do, ends in just what
-- a run left.
abbrev pub RunsAreOneThreads : Type 0
RunsAreOneThreads = (p : Image) (limit : ℕ) (left : Left) → IsRun p limit left →
    ∥ ((y : PlainWorld) × MakeTurns (turns_of (log_of left.core)) (opened p Two) y
    × EndsIn y (state_of left.core) left.regions.items) ∥₁

-- What a run of no more turns than a record may have leaves is a record: its lines name handlers that there can be,
-- each with one turn at least, and there are neither too many lines nor too many turns.
abbrev pub LinesAreARecord : Type 0
LinesAreARecord = (p : Image) (limit : ℕ) (left : Left) → IsRun p limit left → limit ≤ most_turns →
    IsRecord left.version left.lines.items
