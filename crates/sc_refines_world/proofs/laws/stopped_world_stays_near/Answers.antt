use Rattle.sc_refines_world.proofs.Refined.{stopped_world_stays_near}
use Rattle.sc_refines_world.proofs.laws.stopped_world_stays_near.Goals as goal

pub returns : goal.returns
returns c = stopped_world_stays_near c.world_runs_as_machine.ensures
