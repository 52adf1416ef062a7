use Rattle.std.proofs.Common.{◌≡◌, Some, map, take}
use Rattle.sc_frontend.specs.Refusals.{by_classes}
use Rattle.sc_frontend.proofs.texts.refused_by_classes.Given as goal

-- the refusals for those before
abbrev pub invariant-loop-fault : goal.invariant-loop-fault
invariant-loop-fault l = map Some l.refused.items ≡ map by_classes (take l.fault-index l.faults)
