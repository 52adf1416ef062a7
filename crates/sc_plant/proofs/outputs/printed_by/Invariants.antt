use Rattle.std.proofs.Common.{◌≡◌, take}
use Rattle.sc_plant.specs.Bounded.{printed_by}
use Rattle.sc_plant.proofs.outputs.printed_by.Given as goal

abbrev pub invariant-loop-region : goal.invariant-loop-region
invariant-loop-region l = l.printed ≡ printed_by (take l.region-index l.regions)
