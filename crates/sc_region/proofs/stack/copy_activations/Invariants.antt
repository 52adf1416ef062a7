use Rattle.std.proofs.Common.{◌≡◌, map, take}
use Rattle.sc_region.specs.Frames.{activation_of}
use Rattle.sc_region.proofs.stack.copy_activations.Given as goal

abbrev pub invariant-loop-activation : goal.invariant-loop-activation
invariant-loop-activation l = map activation_of l.copy.items ≡ map activation_of (take l.activation-index l.activations)
