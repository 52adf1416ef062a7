use Rattle.std.proofs.Common.{◌≡◌, ◌≤◌, length, vec_capacity}
use Rattle.sc_world.specs.Worlds.{new_regions}
use Rattle.sc_world.proofs.configuration.regions.Given as goal

-- there is a region for each number before, and room for all
abbrev pub invariant-loop-handler : goal.invariant-loop-handler
invariant-loop-handler l = record {
  regions : l.regions.items ≡ new_regions l.program.image 0 l.handler;
  count : length l.regions.items ≡ l.handler;
  room : 512 ≤ vec_capacity l.regions;
}
