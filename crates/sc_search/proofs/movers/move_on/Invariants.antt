use Rattle.std.proofs.Common.{ℕ}
use Rattle.sc_code.specs.declared.program.Image.{Image}
use Rattle.sc_world.specs.Views.{world_in}
use Rattle.sc_world.specs.Kept.{IsOf}
use Rattle.sc_search.specs.Stops.{Moves}
use Rattle.sc_search.proofs.movers.move_on.Given as goal

-- the turns that were added led there, in worlds of one program
abbrev pub invariant-loop : goal.invariant-loop
invariant-loop l = record {
  moves : Moves l.fn.turns.items l.turns.items (world_in l.fn.world) (world_in l.world);
  of : (p : Image) (most : ℕ) → IsOf p most (world_in l.fn.world) → IsOf p most (world_in l.world);
}
