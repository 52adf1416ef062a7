use Rattle.std.proofs.Common.{◌≡◌, take}
use Rattle.sc_lockpass.specs.wait_conditions.Reservations.{mark_of}
use Rattle.sc_lockpass.proofs.wait_conditions.mark.Mark.uncounted.Given as goal

abbrev pub invariant-loop-handler : goal.invariant-loop-handler
invariant-loop-handler l = l.counts.items ≡ mark_of (λ k. 0) (take l.handler-index l.reserved)
