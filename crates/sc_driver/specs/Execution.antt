-- The results of runs and replays of a program.
use Rattle.std.specs.Prelude.{ℕ, ◌≡◌, ◌≤◌, ◌+◌, ◌↔◌, ◌⊎◌, None, List, [], ◌∷◌, ◌++◌, length, replicate}
use Rattle.std.specs.List.{flat_map}
use Rattle.sc_class.specs.ClassNames.{Root}
use Rattle.sc_model.specs.declared.status.Status.{Status}
use Rattle.sc_code.specs.declared.program.Image.{Image}
use Rattle.sc_lockpass.specs.declared.version.Version.{Version}
use Rattle.sc_lockpass.specs.declared.version.Version.TheVariants.{Two}
use Rattle.sc_audit.specs.declared.line.RecordLine.{RecordLine}
use Rattle.sc_audit.specs.Records.{most_lines, turns_of}
use Rattle.sc_request.specs.Logs.{next}
use Rattle.sc_world.specs.Worlds.{PlainWorld, opened}
use Rattle.sc_world.specs.Turning.{MakeTurns, Runs}
use Rattle.sc_world.specs.Reports as told
use Rattle.sc_frontend.specs.Texts.{IsLoaded}

-- The report and the handlers' statuses are those of the world.
pub record Leaves (world : PlainWorld) (text : List ℕ) (statuses : List Status) : Type 0 where
  pub report_is : text ≡ told.report world
  pub statuses_are : statuses ≡ told.statuses world

-- the turns of a line of a record: the number of its handler, once for each
abbrev pub line_turns : RecordLine → List ℕ
line_turns line = replicate line.turns line.handler

-- A run on threads whose record has these lines. From the opening of the program, with 512 handlers at most, one
-- thread that makes the lines' turns, one after the other, ends in a world with this report and these statuses. Each
-- of these turns is one of a handler that has a job then. There are at most `limit` turns, and at most 1,000,000
-- lines. Both are fewer only if no handler of that world has a job any more.
pub record IsThreadRun (program : Image) (limit : ℕ) (lines : List RecordLine) (text : List ℕ)
    (statuses : List Status) :
    Type 0 where
  pub world : PlainWorld
  pub makes : MakeTurns (flat_map line_turns lines) (opened program Two) world
  pub leaves : Leaves world text statuses
  pub few : turns_of lines ≤ limit
  pub short : length lines ≤ most_lines
  pub ends : (next world.center ≡ None) ⊎ ((turns_of lines ≡ limit) ⊎ (length lines ≡ most_lines))

-- The text spells a system that is sound. The report, the statuses and the lines of the record are those of a run of
-- its program on threads.
pub record IsRunOf (text : List ℕ) (root : Root) (limit : ℕ) (lines : List RecordLine) (output : List ℕ)
    (statuses : List Status) :
    Type 0 where
  pub program : Image
  pub loaded : IsLoaded text root program
  pub is_run : ∥ IsThreadRun program limit lines output statuses ∥₁

-- ---- replays

-- From the opening of the program, with as many handlers as the version has, the turns of these lines, one after the
-- other, lead to a world that leaves the report and the handlers standing so.
pub record IsReplay (program : Image) (version : Version) (lines : List RecordLine) (text : List ℕ)
    (statuses : List Status) : Type 0 where
  pub world : PlainWorld
  pub runs : Runs (flat_map line_turns lines) (opened program version) world
  pub leaves : Leaves world text statuses

-- A replay of no lines leaves what the opening of its program does.
abbrev pub EmptyReplayLeavesOpening : Type 0
EmptyReplayLeavesOpening = (program : Image) (version : Version) (text : List ℕ) (statuses : List Status) →
    IsReplay program version [] text statuses → Leaves (opened program version) text statuses

-- A line may be split: one handler's turns, some and then others.
abbrev pub LinesMayBeSplit : Type 0
LinesMayBeSplit = (program : Image) (version : Version) (before after : List RecordLine) (h m n : ℕ) (text : List ℕ)
    (statuses : List Status) →
    IsReplay program version (before ++ record { handler = h; turns = m + n } ∷ after) text statuses
    ↔ IsReplay program version
    (before ++ record { handler = h; turns = m } ∷ record { handler = h; turns = n } ∷ after) text statuses
