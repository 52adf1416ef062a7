use Rattle.std.proofs.Common.{◌<◌, ℕ}
use Rattle.sc_world.specs.Views.{world_of}
use Rattle.sc_recording.specs.Same.{IsSameAt, world_in}
use Rattle.sc_recording.proofs.same.first_that_differs.Given as goal

-- of the handlers before both have the same
abbrev pub invariant-loop-handler : goal.invariant-loop-handler
invariant-loop-handler l = (most h : ℕ) → h < l.handler → IsSameAt h (world_of l.world) (world_in most l.core l.regions)
