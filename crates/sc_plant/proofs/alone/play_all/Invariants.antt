use Rattle.std.proofs.Common.{◌≡◌, ℕ, length}
use Rattle.sc_lockpass.specs.declared.version.Version.TheVariants.{Two}
use Rattle.sc_code.specs.declared.program.Image.{Image}
use Rattle.sc_plant.specs.Alone.{IsOnWay}
use Rattle.sc_plant.specs.Order.{ComesInOrder, round_robin}
use Rattle.sc_plant.proofs.alone.play_all.Given as goal

abbrev pub invariant-loop : goal.invariant-loop
invariant-loop g l = record {
  count : length l.left.regions.items ≡ 512;
  version : l.left.core.state.rights.version ≡ Two;
  on : (p : Image) → IsOnWay p l.fn.left → IsOnWay p l.left;
  order : (p : Image) → ((n : ℕ) → ComesInOrder round_robin p n l.fn.left.core) → ComesInOrder round_robin p l.turns l.left.core;
}
