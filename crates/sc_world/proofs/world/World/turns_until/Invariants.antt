use Rattle.std.proofs.Common.{take}
use Rattle.sc_world.specs.Turning.{Runs}
use Rattle.sc_world.specs.Views.{world_of}
use Rattle.sc_world.proofs.world.World.turns_until.Given as goal

-- those before have had their turns
abbrev pub invariant-loop-count : goal.invariant-loop-count
invariant-loop-count l = Runs (take l.count l.handlers) (world_of l.fn.self) (world_of l.self)
