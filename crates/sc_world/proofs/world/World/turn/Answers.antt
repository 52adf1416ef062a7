use Rattle.sc_world.specs.Views.{world_in}
use Rattle.sc_world.proofs.TriedTurns.{turn_tried}
use Rattle.sc_world.proofs.world.World.turn.Goals as goal

pub invariant_of-self : goal.invariant_of-self
invariant_of-self c = record {
  tried = turn_tried c.args.handler (world_in c.args.self.now.configuration) (world_in c.turn.new.self) c.turn.result c.args.self.now.tried c.turn.ensures.ok
      c.turn.ensures.err;
}
