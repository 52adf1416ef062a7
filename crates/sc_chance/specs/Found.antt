-- What comes of several runs.
use Rattle.std.specs.Prelude.{ℕ, ◌≡◌, true, List, Option, IfSome}
use Rattle.sc_audit.specs.declared.line.RecordLine.{RecordLine}
use Rattle.sc_code.specs.declared.program.Image.{Image}
use Rattle.sc_driver.specs.Execution.{IsThreadRun}
use Rattle.sc_model.specs.declared.status.Status.{Status}
use Rattle.sc_chance.specs.declared.judging.Sought.{Sought}
use Rattle.sc_chance.specs.declared.playing.ChanceRun.{ChanceRun}
use Rattle.sc_chance.specs.declared.running.Found.{Found}
use Rattle.sc_chance.specs.declared.running.Found.TheVariants as found
use Rattle.sc_chance.specs.Outcomes.{AreOfRuns, reports_of}
use Rattle.sc_chance.specs.Sought.{shows}

-- The report is that of a run of the program, whose record has at most `limit` turns.
pub record IsReported (program : Image) (limit : ℕ) (report : List ℕ) : Type 0 where
  pub lines : List RecordLine
  pub hows : List Status
  pub is_run : IsThreadRun program limit lines report hows

-- The run is one of the program, and shows what is looked for. The report of the first run, if there was one before,
-- is that of a run, too.
pub record IsFoundRun (program : Image) (limit : ℕ) (sought : Sought) (run : ChanceRun) : Type 0 where
  pub is_run : IsThreadRun program limit run.lines.items run.report.items run.statuses.items
  pub first : Option (List ℕ)
  pub of_run : IfSome first (IsReported program limit)
  pub shows_it : shows sought run first ≡ true

-- What is said to come of at most `times` runs of the program is so: a run was found; or there were so many, and these are
-- their reports.
abbrev pub IsFound : Image → ℕ → ℕ → Sought → Found → Type 0
IsFound program limit times sought (found.Run seed run) = IsFoundRun program limit sought run
IsFound program limit times sought (found.Nothing outcomes) =
    AreOfRuns (IsReported program limit) times (reports_of outcomes)
