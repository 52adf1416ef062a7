use Rattle.std.proofs.Common.{◌≡◌, false, take}
use Rattle.sc_chance.specs.Sought as spec
use Rattle.sc_chance.proofs.judging.some_is.Given as goal

-- none of the statuses before is of the kind
abbrev pub invariant-loop-status : goal.invariant-loop-status
invariant-loop-status l = spec.some_is l.kind (take l.status-index l.statuses) ≡ false
