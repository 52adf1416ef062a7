-- How orders end.
use Rattle.std.specs.Prelude.{◌≡◌, ℕ, List, Some, false, slice_get}
use Rattle.sc_lockpass.specs.declared.version.Version.{Version}
use Rattle.sc_code.specs.declared.program.Image.{Image}
use Rattle.sc_world.specs.Reports as told
use Rattle.sc_world.specs.Turning.{Runs}
use Rattle.sc_world.specs.Worlds.{PlainWorld, opened}
use Rattle.sc_search.specs.declared.judging.Kind.TheVariants as kind
use Rattle.sc_search.specs.declared.verdict.End.{End}
use Rattle.sc_search.specs.Aims.{some_is}
use Rattle.sc_search.specs.Found.{turns_of}

-- The turns of its order lead from the opening of the program to a world in which no handler has anything to do, and
-- its report is that of this world.
pub record IsEnd (p : Image) (v : Version) (e : End) : Type 0 where
  pub world : PlainWorld
  pub runs : Runs (turns_of e.order.lines.items) (opened p v) world
  pub idle : some_is kind.IsBusy (told.statuses world) ≡ false
  pub report : e.report.items ≡ told.report world

-- They are ends, each of them.
abbrev pub AreEnds : Image → Version → List End → Type 0
AreEnds p v ends = (i : ℕ) (e : End) → slice_get ends i ≡ Some e → IsEnd p v e
