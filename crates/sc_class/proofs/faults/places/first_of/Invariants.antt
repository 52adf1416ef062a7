use Rattle.std.proofs.Common.{take}
use Rattle.sc_class.specs.Internal.Found.{FindsFirstPlace}
use Rattle.sc_class.specs.Internal.Places.{Has}
use Rattle.sc_class.proofs.faults.places.first_of.Given as goal

abbrev pub invariant-loop-place : goal.invariant-loop-place
invariant-loop-place l = FindsFirstPlace (Has (take l.place-index l.places)) l.first
