use Rattle.std.proofs.Common.{◌≡◌, map, take}
use Rattle.sc_region.specs.Objects.{object_of}
use Rattle.sc_region.proofs.equality.same_objects.Given as goal

abbrev pub invariant-loop-place : goal.invariant-loop-place
invariant-loop-place l = map object_of (take l.place l.objects) ≡ map object_of (take l.place l.others)
