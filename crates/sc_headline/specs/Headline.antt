-- What is claimed of each world that turns lead to, from the bytes of a source text on.
use Rattle.std.specs.Prelude.{◌≡◌, ◌≤◌, ◌⊎◌, ℕ, List, [], ◌∷◌, false, length, map, true}
use Rattle.std.specs.List.{flat_map, range_with_len}
use Rattle.sc_tree.specs.Plain.{System}
use Rattle.sc_class.specs.ClassNames.{Root}
use Rattle.sc_lockpass.specs.Versions.{most_handlers}
use Rattle.sc_lockpass.specs.declared.version.Version.{Version}
use Rattle.sc_lockpass.specs.declared.version.Version.TheVariants.{Two}
use Rattle.sc_audit.specs.declared.line.RecordLine.{RecordLine}
use Rattle.sc_audit.specs.Records.{most_lines, turns_of}
use Rattle.sc_model.specs.declared.status.Status.{Status}
use Rattle.sc_model.specs.Handlers.{World}
use Rattle.sc_model.specs.Reports as machine
use Rattle.sc_model.specs.Runs.{IsReached, has_turn, opening, run}
use Rattle.sc_model.specs.Turns.{turn}
use Rattle.sc_code.specs.declared.program.Image.{Image}
use Rattle.sc_world.specs.Turning.{Runs}
use Rattle.sc_world.specs.Worlds.{PlainWorld, opened}
use Rattle.sc_refines_world.specs.Refining.{HasHeadline}
use Rattle.sc_refines_world.specs.Standing.{StandsFor}
use Rattle.sc_frontend.specs.Texts.{IsLoaded, IsRead, IsSound}
use Rattle.sc_driver.specs.Execution.{IsReplay, IsRunOf, line_turns}

-- ---- the machine

-- The headline holds of each state that the machine on a text's system reaches, with this limit on handlers.
abbrev pub MachineHeadline : Type 0
MachineHeadline =
    (text : List ℕ) (root : Root) (system : System) (most : ℕ) (state : World) →
    IsRead text system → IsSound system root → IsReached most system root state → HasHeadline most system state

-- ---- worlds

-- The text spells a system that is sound. The world represents a state that the machine on this system reaches, and
-- the headline holds of that state.
pub record StandsForReached (text : List ℕ) (root : Root) (program : Image) (version : Version)
    (world : PlainWorld) : Type 0 where
  pub system : System
  pub read : IsRead text system
  pub sound : IsSound system root
  pub state : World
  pub reached : IsReached (most_handlers version) system root state
  pub stands : StandsFor system program state world
  pub headline : HasHeadline (most_handlers version) system state

-- Each world to which turns lead, from the opening of a text's program.
abbrev pub Headline : Type 0
Headline =
    (text : List ℕ) (root : Root) (program : Image) (version : Version) (handlers : List ℕ) (world : PlainWorld) →
    IsLoaded text root program → Runs handlers (opened program version) world →
    StandsForReached text root program version world

-- ---- reports

-- the state of the machine after the turns of these handlers, from the opening of the system
abbrev pub machine_after : System → Root → Version → List ℕ → World
machine_after s root version handlers = run (most_handlers version) s handlers (opening s root)

-- The report of the state, and the statuses of its handlers, in order of number.
pub record IsReportOf (state : World) (report : List ℕ) (statuses : List Status) : Type 0 where
  pub report_is : report ≡ machine.report state
  pub statuses_are : statuses ≡ map (λ h. machine.status_of h state) (range_with_len 0 state.count)

-- The text spells a system that is sound, and the report is that of the machine on it after these turns.
pub record IsMachineRun (text : List ℕ) (root : Root) (version : Version) (handlers : List ℕ) (report : List ℕ)
    (statuses : List Status) : Type 0 where
  pub system : System
  pub read : IsRead text system
  pub sound : IsSound system root
  pub told : IsReportOf (machine_after system root version handlers) report statuses

-- no handler has a turn
abbrev pub HasNoTurn : World → Type 0
HasNoTurn w = machine.some_has_turn w.count w ≡ false

-- What a replay leaves is what the machine reports after the turns of the record's lines, one after the other.
abbrev pub ReplaysAreTheMachines : Type 0
ReplaysAreTheMachines =
    (text : List ℕ) (root : Root) (program : Image) (version : Version) (lines : List RecordLine) (report : List ℕ)
    (statuses : List Status) →
    IsLoaded text root program → IsReplay program version lines report statuses →
    IsMachineRun text root version (flat_map line_turns lines) report statuses

-- From the state on each of these handlers has a turn when its number is reached, after the turns of those before
-- it.
abbrev pub HaveTurns : ℕ → System → List ℕ → World → Type 0
HaveTurns most s [] w = Unit {0}
HaveTurns most s (h ∷ hs) w = (has_turn h w ≡ true) × HaveTurns most s hs (turn most s h w)

-- The turns of a run's record are the machine's, with at most 512 handlers. From the opening of the system on each
-- of them is one that its handler has. There are at most `limit` turns, and at most 1,000,000 lines. Both are fewer
-- only if no handler has a turn any more.
pub record IsMachineRunOf (text : List ℕ) (root : Root) (limit : ℕ) (lines : List RecordLine) (report : List ℕ)
    (statuses : List Status) : Type 0 where
  pub is_run : IsMachineRun text root Two (flat_map line_turns lines) report statuses
  pub have_turns : HaveTurns (most_handlers Two) is_run.system (flat_map line_turns lines) (opening is_run.system root)
  pub few : turns_of lines ≤ limit
  pub short : length lines ≤ most_lines
  pub ends : HasNoTurn (machine_after is_run.system root Two (flat_map line_turns lines))
      ⊎ ((turns_of lines ≡ limit) ⊎ (length lines ≡ most_lines))

-- What a run leaves is what the machine reports after the turns of its record's lines.
abbrev pub RunsAreTheMachines : Type 0
RunsAreTheMachines =
    (text : List ℕ) (root : Root) (limit : ℕ) (lines : List RecordLine) (report : List ℕ) (statuses : List Status) →
    IsRunOf text root limit lines report statuses → ∥ IsMachineRunOf text root limit lines report statuses ∥₁
