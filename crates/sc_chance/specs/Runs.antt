-- Runs whose record was made turn by turn, in a world that is kept as the opening was.
use Rattle.std.specs.Prelude.{ℕ, ◌≡◌, ◌≤◌, ◌⊎◌, None, List, length}
use Rattle.std.specs.List.{flat_map}
use Rattle.sc_lockpass.specs.declared.version.Version.TheVariants.{Two}
use Rattle.sc_audit.specs.Records.{most_lines, turns_of}
use Rattle.sc_audit.specs.declared.line.RecordLine.{RecordLine}
use Rattle.sc_code.specs.declared.program.Image.{Image}
use Rattle.sc_driver.specs.Execution.{line_turns}
use Rattle.sc_request.specs.Logs.{next}
use Rattle.sc_world.specs.Kept.{AreKeptAlike}
use Rattle.sc_world.specs.Turning.{MakeTurns}
use Rattle.sc_world.specs.Worlds.{PlainWorld, opened}

-- From the opening of the program, the turns of these handlers, each of which has a job then, lead to a world that is
-- kept as this one is.
pub record IsReachedBy (program : Image) (handlers : List ℕ) (reached : PlainWorld) : Type 0 where
  pub world : PlainWorld
  pub makes : MakeTurns handlers (opened program Two) world
  pub alike : AreKeptAlike program 512 reached world

-- The turns of the lines lead to such a world. There are at most `limit` turns, and at most 1,000,000 lines. Both are
-- fewer only if no handler of the world has a job any more.
pub record IsPlayed (program : Image) (limit : ℕ) (lines : List RecordLine) (left : PlainWorld) : Type 0 where
  pub reached : IsReachedBy program (flat_map line_turns lines) left
  pub few : turns_of lines ≤ limit
  pub short : length lines ≤ most_lines
  pub ends : (next reached.world.center ≡ None) ⊎ ((turns_of lines ≡ limit) ⊎ (length lines ≡ most_lines))
