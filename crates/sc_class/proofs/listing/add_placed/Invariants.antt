use Rattle.std.proofs.Common.{◌≡◌, ◌++◌, map, take}
use Rattle.sc_class.specs.Internal.Listing.{fault_at}
use Rattle.sc_class.proofs.listing.add_placed.Given as goal

abbrev pub invariant-loop-place : goal.invariant-loop-place
invariant-loop-place l = l.faults.items ≡ l.fn.faults.items ++ map (fault_at l.kind) (take l.place-index l.places)
