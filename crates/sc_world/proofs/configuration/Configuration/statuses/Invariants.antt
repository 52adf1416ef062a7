use Rattle.std.proofs.Common.{◌≡◌, map}
use Rattle.std.specs.List.{range_with_len}
use Rattle.sc_request.specs.Logs.{status_in}
use Rattle.sc_world.specs.Views.{world_in}
use Rattle.sc_world.proofs.configuration.Configuration.statuses.Given as goal

-- how those before stand
abbrev pub invariant-loop-handler : goal.invariant-loop-handler
invariant-loop-handler l = l.statuses.items ≡ map (λ h. status_in h (world_in l.self).center) (range_with_len 0 l.handler)
