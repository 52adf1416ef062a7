use Rattle.sc_refines_world.proofs.regions.FrameOrder.{turns_keep_order}
use Rattle.sc_refines_world.proofs.regions.laws.turns_keep_order.Goals as goal

pub returns : goal.returns
returns c = turns_keep_order
