use Rattle.std.proofs.Common.{take}
use Rattle.sc_class.specs.Internal.Found.{FindsFirstExclusion}
use Rattle.sc_class.specs.Internal.Places.{Has}
use Rattle.sc_class.proofs.faults.left_out.first_of.Given as goal

abbrev pub invariant-loop-exclusion : goal.invariant-loop-exclusion
invariant-loop-exclusion l = FindsFirstExclusion (Has (take l.exclusion-index l.found)) l.first
