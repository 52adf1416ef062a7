use Rattle.sc_refines_world.proofs.regions.FrameOrder.{openings_are_in_order}
use Rattle.sc_refines_world.proofs.regions.laws.openings_are_in_order.Goals as goal

pub returns : goal.returns
returns c = openings_are_in_order
