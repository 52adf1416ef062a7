use Rattle.sc_world.proofs.TriedTurns.{opens_tried}
use Rattle.sc_world.proofs.world.World.open.Goals as goal

pub invariant_of-result : goal.invariant_of-result
invariant_of-result c = record { tried = opens_tried c.args.program.now.image c.args.version _ c.in_ok-open.ensures }
