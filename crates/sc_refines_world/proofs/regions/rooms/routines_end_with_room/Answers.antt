use Rattle.sc_refines_world.proofs.regions.ValueRoom.{routines_end_with_room}
use Rattle.sc_refines_world.proofs.regions.rooms.routines_end_with_room.Goals as goal

pub returns : goal.returns
returns c = routines_end_with_room c.programs_serve.ensures
