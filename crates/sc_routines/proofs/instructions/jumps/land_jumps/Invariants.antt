use Rattle.std.proofs.Common.{◌≡◌, drop, length}
use Rattle.sc_routines.specs.Jumps.{landed}
use Rattle.sc_routines.proofs.instructions.jumps.land_jumps.Given as goal

abbrev pub invariant-loop-place : goal.invariant-loop-place
invariant-loop-place l = record {
  landed : landed (drop l.place-index l.places) l.code ≡ landed l.places l.initial.code;
  length : length l.code ≡ length l.initial.code;
}
