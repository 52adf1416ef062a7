use Rattle.sc_world.proofs.Links.{linked_objects_meet}
use Rattle.sc_world.proofs.request_laws.linked_objects_meet.Goals as goal

pub returns : goal.returns
returns c = linked_objects_meet
