use Rattle.sc_refines_world.proofs.Refined.{world_has_headline}
use Rattle.sc_refines_world.proofs.laws.world_has_headline.Goals as goal

pub returns : goal.returns
returns c = world_has_headline c.world_runs_as_machine.ensures c.machine_has_headline.ensures
