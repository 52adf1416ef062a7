use Rattle.std.proofs.Common.{◌≡◌, ◌≤◌, vec_len, vec_capacity}
use Rattle.sc_plant.specs.Alone.{AreNew}
use Rattle.sc_plant.proofs.alone.open_regions.Given as goal

abbrev pub invariant-loop-handler : goal.invariant-loop-handler
invariant-loop-handler l = record {
  len : vec_len l.regions ≡ l.handler;
  room : 512 ≤ vec_capacity l.regions;
  new : AreNew l.program.image l.regions.items;
}
