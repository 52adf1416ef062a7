use Rattle.std.proofs.Common.{◌≡◌, Some, map, take}
use Rattle.sc_request.proofs.jobs.values_of.Given as goal

abbrev pub invariant-loop-handler : goal.invariant-loop-handler
invariant-loop-handler l = l.values.items ≡ map Some (take l.handler-index l.handlers)
