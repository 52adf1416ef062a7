use Rattle.std.proofs.Common.{take}
use Rattle.sc_request.specs.Crowds.{LeavesEach}
use Rattle.sc_request.proofs.crowds.leave_each.Given as goal

abbrev pub invariant-loop-at : goal.invariant-loop-at
invariant-loop-at l = LeavesEach l.handler (take l.at l.reserved) l.initial.crowds.items l.crowds.items
