use Rattle.std.proofs.Common.{◌≡◌, ◌++◌, map, take}
use Rattle.sc_class.specs.Internal.Listing.{left_out_fault}
use Rattle.sc_class.proofs.listing.add_exclusions.Given as goal

abbrev pub invariant-loop-exclusion : goal.invariant-loop-exclusion
invariant-loop-exclusion l = l.faults.items ≡ l.fn.faults.items ++ map left_out_fault (take l.exclusion-index l.exclusions)
