use Rattle.std.proofs.Common.{◌≡◌, map, take}
use Rattle.sc_region.specs.Frames.{activation_of}
use Rattle.sc_region.proofs.equality.same_activations.Given as goal

abbrev pub invariant-loop-place : goal.invariant-loop-place
invariant-loop-place l = map activation_of (take l.place l.activations) ≡ map activation_of (take l.place l.others)
