use Rattle.std.proofs.Common.{ℕ}
use Rattle.sc_code.specs.declared.program.Image.{Image}
use Rattle.sc_world.specs.Kept.{IsOf}
use Rattle.sc_world.specs.Views.{world_in}
use Rattle.sc_search.specs.Steps.{GoesOnBy}
use Rattle.sc_search.proofs.following.go_on.Given as goal

-- so far each turn followed at once, and was added
abbrev pub invariant-loop : goal.invariant-loop
invariant-loop l = record {
  goes : GoesOnBy l.counter l.fn.turns.items l.turns.items (world_in l.fn.world) (world_in l.world);
  of : (p : Image) (limit : ℕ) → IsOf p limit (world_in l.fn.world) → IsOf p limit (world_in l.world);
}
