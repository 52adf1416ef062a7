use Rattle.std.proofs.Common.{◌≡◌, map}
use Rattle.std.specs.List.{range_with_len}
use Rattle.sc_request.specs.Logs.{status_in}
use Rattle.sc_plant.specs.Left.{world_of}
use Rattle.sc_driver.proofs.running.statuses_of_left.Given as goal

-- how those before stand
abbrev pub invariant-loop-handler : goal.invariant-loop-handler
invariant-loop-handler l = l.statuses.items ≡ map (λ h. status_in h (world_of l.left).center) (range_with_len 0 l.handler)
