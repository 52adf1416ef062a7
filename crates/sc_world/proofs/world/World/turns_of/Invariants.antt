use Rattle.std.proofs.Common.{◌≡◌, ◌≤◌, ◌+◌, ℕ, replicate}
use Rattle.sc_world.specs.Turning.{Runs}
use Rattle.sc_world.specs.Views.{world_of}
use Rattle.sc_world.proofs.world.World.turns_of.Given as goal

-- so many turns were made and so many are left, and each iteration made one or more
abbrev pub invariant-loop : goal.invariant-loop
invariant-loop l = record {
  made : ℕ;
  all : made + l.left ≡ l.count;
  runs : Runs (replicate made l.handler) (world_of l.fn.self) (world_of l.self);
  each : l.left + l.counter ≤ l.count;
}
