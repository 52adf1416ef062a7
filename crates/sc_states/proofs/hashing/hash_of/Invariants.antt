use Rattle.std.proofs.Common.{◌≡◌, take}
use Rattle.std.specs.List.{fold}
use Rattle.sc_states.specs.Hashes.{mixed}
use Rattle.sc_states.proofs.hashing.hash_of.Given as goal

abbrev pub invariant-loop-number : goal.invariant-loop-number
invariant-loop-number l = l.hash ≡ fold mixed 2166136261 (take l.number-index l.tuple)
