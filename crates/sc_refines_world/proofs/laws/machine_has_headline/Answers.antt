use Rattle.sc_refines_world.proofs.Headlined.{machine_has_headline}
use Rattle.sc_refines_world.proofs.laws.machine_has_headline.Goals as goal

pub returns : goal.returns
returns c = machine_has_headline c.settled_objects_meet.ensures
