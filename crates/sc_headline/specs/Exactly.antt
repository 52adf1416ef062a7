-- What an audit's answer says of each run of the record, from the bytes of a source text on.
use Rattle.std.specs.Prelude.{◌≡◌, ◌≤◌, ◌↔◌, ℕ, List, Result, Ok, Err, OnOk, IfErr}
use Rattle.sc_class.specs.ClassNames.{Root}
use Rattle.sc_lockpass.specs.declared.version.Version.{Version}
use Rattle.sc_audit.specs.Records.{IsRecord, most_turns}
use Rattle.sc_code.specs.declared.program.Image.{Image}
use Rattle.sc_world.specs.Turning.{Runs}
use Rattle.sc_world.specs.Worlds.{PlainWorld, opened}
use Rattle.sc_plant.specs.declared.left.Left.{Left}
use Rattle.sc_plant.specs.Left.{IsRun, world_of}
use Rattle.sc_driver.specs.declared.auditing.AuditFault.{AuditFault}
use Rattle.sc_driver.specs.declared.auditing.AuditFault.TheVariants.{BadRecord, Differs, OutOfMemory}
use Rattle.sc_driver.specs.Audits.{IsAudited, LeadsTo, TellsWhy}
use Rattle.sc_driver.specs.Misfits.{IsFirstMisfit}
use Rattle.sc_recording.specs.Same.{FirstDiffers, IsSame}
use Rattle.sc_frontend.specs.Texts.{IsLoaded}

-- From the opening of a text's program, turns of the same handlers in the same order lead to one world.
abbrev pub OneWorld : Type 0
OneWorld =
    (text : List ℕ) (root : Root) (program : Image) (version : Version) (handlers : List ℕ) (x y : PlainWorld) →
    IsLoaded text root program → Runs handlers (opened program version) x → Runs handlers (opened program version) y →
    x ≡ y

-- The record is one, there is a run of it, and each run of it ends in a world with this property.
pub record EachEnds (p : Image) (left : Left) (Ends : PlainWorld → Type 0) : Type 0 where
  pub is_record : IsRecord left.version left.lines.items
  pub world : PlainWorld
  pub leads : LeadsTo p left world
  pub each : (w : PlainWorld) → LeadsTo p left w → Ends w

-- Each ends in what is left.
abbrev pub EndsInLeft : Image → Left → Type 0
EndsInLeft p left = EachEnds p left (λ w. IsSame w (world_of left))

-- Each differs from what is left, and of this handler first.
abbrev pub EndsApart : Image → Left → ℕ → Type 0
EndsApart p left h = EachEnds p left (λ w. FirstDiffers h w (world_of left))

-- an answer that an audit may give
abbrev pub IsAnswer : Image → Left → Result Unit AuditFault → Type 0
IsAnswer p left answer = OnOk answer (IsAudited p left) × IfErr answer (TellsWhy p left)

-- It says yes exactly where each run ends in what is left, A2 exactly where each differs of the handler first, and A1
-- exactly where the line is the first that doesn't fit.
pub record IsExact (p : Image) (left : Left) (answer : Result Unit AuditFault) : Type 0 where
  pub yes : (answer ≡ Ok tt) ↔ EndsInLeft p left
  pub differs : (h : ℕ) → (answer ≡ Err (Differs h)) ↔ EndsApart p left h
  pub misfits : (line : ℕ) → (answer ≡ Err (BadRecord line)) ↔ IsFirstMisfit left.version left.lines.items line

-- Whatever is left, the answer of an audit of a text's program is exact, if there is memory to play the record.
abbrev pub AuditsAreExact : Type 0
AuditsAreExact =
    (text : List ℕ) (root : Root) (program : Image) (left : Left) (answer : Result Unit AuditFault) →
    IsLoaded text root program → IsAnswer program left answer → (answer ≡ Err OutOfMemory → ⊥) →
    IsExact program left answer

-- So it says yes to what a run of the program left, which may have had no more turns than a record.
abbrev pub RunsAreAnsweredYes : Type 0
RunsAreAnsweredYes =
    (text : List ℕ) (root : Root) (program : Image) (limit : ℕ) (left : Left) (answer : Result Unit AuditFault) →
    IsLoaded text root program → limit ≤ most_turns → IsRun program limit left → IsAnswer program left answer →
    (answer ≡ Err OutOfMemory → ⊥) → answer ≡ Ok tt
