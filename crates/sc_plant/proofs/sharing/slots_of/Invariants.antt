use Rattle.std.proofs.Common.{◌≡◌, ◌+◌, ◌≤◌, vec_capacity, vec_len}
use Rattle.sc_plant.specs.Sharing.{AreFit}
use Rattle.sc_plant.proofs.sharing.slots_of.Given as goal

abbrev pub invariant-loop-region : goal.invariant-loop-region
invariant-loop-region g l = record {
  regions : vec_len l.regions ≡ l.handler;
  logs : vec_len l.logs ≡ l.handler;
  slots : vec_len l.slots + l.handler ≡ 512;
  room : 512 ≤ vec_capacity l.slots;
  fit : AreFit g.P.OfProgram.image l.regions.items l.logs.items;
}

abbrev pub decreases-loop-region : goal.decreases-loop-region
decreases-loop-region g l = vec_len l.regions
