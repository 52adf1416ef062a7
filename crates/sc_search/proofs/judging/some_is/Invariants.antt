use Rattle.std.proofs.Common.{◌≡◌, false, take}
use Rattle.sc_search.specs.Aims.{some_is}
use Rattle.sc_search.proofs.judging.some_is.Given as goal

-- none of those before stands so
abbrev pub invariant-loop-status : goal.invariant-loop-status
invariant-loop-status l = some_is l.kind (take l.status-index l.statuses) ≡ false
