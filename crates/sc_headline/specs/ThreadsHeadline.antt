-- What is claimed of what a run on several threads leaves, from the bytes of a source text on.
use Rattle.std.specs.Prelude.{ℕ, List}
use Rattle.sc_class.specs.ClassNames.{Root}
use Rattle.sc_lockpass.specs.Versions.{most_handlers}
use Rattle.sc_lockpass.specs.declared.version.Version.TheVariants.{Two}
use Rattle.sc_model.specs.Runs.{opening}
use Rattle.sc_code.specs.declared.program.Image.{Image}
use Rattle.sc_request.specs.Cores.{log_of, state_of}
use Rattle.sc_world.specs.Reports as told
use Rattle.sc_world.specs.Turning.{MakeTurns}
use Rattle.sc_world.specs.Worlds.{PlainWorld, opened}
use Rattle.sc_plant.specs.declared.left.Left.{Left}
use Rattle.sc_plant.specs.Left.{IsRun, world_of}
use Rattle.sc_plant.specs.OneThread.{EndsIn}
use Rattle.sc_recording.specs.Recorded.{turns_of}
use Rattle.sc_frontend.specs.Texts.{IsLoaded}
use Rattle.sc_headline.specs.Headline.{HaveTurns, IsMachineRun, StandsForReached}

-- One thread that makes the turns of the record's lines, from the opening of the program, ends in a world with just
-- the core and the regions that are left. Each of these turns is one of a handler that has a job. The world
-- represents a state that the machine reaches, and the headline holds of that state.
pub record HasThreadsHeadline (text : List ℕ) (root : Root) (program : Image) (left : Left) : Type 0 where
  pub world : PlainWorld
  pub makes : MakeTurns (turns_of (log_of left.core)) (opened program Two) world
  pub ends : EndsIn world (state_of left.core) left.regions.items
  pub reached : StandsForReached text root program Two world

-- Of each run of a text's program, in whatever order its threads came to their turns.
abbrev pub ThreadsHaveHeadline : Type 0
ThreadsHaveHeadline =
    (text : List ℕ) (root : Root) (program : Image) (limit : ℕ) (left : Left) →
    IsLoaded text root program → IsRun program limit left →
    ∥ HasThreadsHeadline text root program left ∥₁

-- The report of what is left, and its handlers' statuses, are what the machine reports after the turns of the
-- record's lines.
abbrev pub ThreadsReportAsMachine : Type 0
ThreadsReportAsMachine =
    (text : List ℕ) (root : Root) (program : Image) (limit : ℕ) (left : Left) →
    IsLoaded text root program → IsRun program limit left →
    ∥ IsMachineRun text root Two (turns_of (log_of left.core)) (told.report (world_of left))
    (told.statuses (world_of left)) ∥₁

-- Each handler of the turns of the record's lines has a turn when its number is reached, from the opening of the
-- text's system on.
abbrev pub ThreadsMakeTurns : Type 0
ThreadsMakeTurns =
    (text : List ℕ) (root : Root) (program : Image) (limit : ℕ) (left : Left) →
    (loaded : IsLoaded text root program) → IsRun program limit left →
    ∥ HaveTurns (most_handlers Two) loaded.system (turns_of (log_of left.core)) (opening loaded.system root) ∥₁
