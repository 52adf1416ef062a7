use Rattle.sc_refines_world.proofs.regions.ValueRoom.{room_is_kept}
use Rattle.sc_refines_world.proofs.regions.rooms.room_is_kept.Goals as goal

pub returns : goal.returns
returns c = room_is_kept
