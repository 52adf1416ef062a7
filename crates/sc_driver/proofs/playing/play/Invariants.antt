use Rattle.std.proofs.Common.{take}
use Rattle.sc_world.specs.Turning.{Runs}
use Rattle.sc_world.specs.Views.{world_of}
use Rattle.sc_world.specs.Worlds.{opened}
use Rattle.sc_driver.specs.Audits.{turns_of}
use Rattle.sc_driver.proofs.playing.play.Given as goal

-- the lines before have had their turns
abbrev pub invariant-loop-line : goal.invariant-loop-line
invariant-loop-line l = Runs (turns_of (take l.line-index l.lines)) (opened l.program.image l.fn.version) (world_of l.world)
