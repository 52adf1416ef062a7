use Rattle.std.proofs.Common.{◌≡◌, map, take}
use Rattle.sc_frontend.specs.Refusals.{by_rule}
use Rattle.sc_frontend.proofs.texts.refused_by_rules.Given as goal

-- the refusals for those before
abbrev pub invariant-loop-fault : goal.invariant-loop-fault
invariant-loop-fault l = l.refused.items ≡ map by_rule (take l.fault-index l.faults)
