use Rattle.sc_refines_world.proofs.regions.ValueRoom.{answers_have_room}
use Rattle.sc_refines_world.proofs.regions.rooms.answers_have_room.Goals as goal

pub returns : goal.returns
returns c = answers_have_room
