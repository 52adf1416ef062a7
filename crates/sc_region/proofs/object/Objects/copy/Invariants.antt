use Rattle.std.proofs.Common.{◌≡◌, map, take}
use Rattle.sc_region.specs.Objects.{object_of}
use Rattle.sc_region.proofs.object.Objects.copy.Given as goal

abbrev pub invariant-loop-object : goal.invariant-loop-object
invariant-loop-object l = map object_of l.items.items ≡ map object_of (take l.object-index l.object-items)
