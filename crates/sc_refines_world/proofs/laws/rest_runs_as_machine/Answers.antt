use Rattle.sc_refines_world.proofs.Attempts.{rest_runs_as_machine}
use Rattle.sc_refines_world.proofs.laws.rest_runs_as_machine.Goals as goal

pub returns : goal.returns
returns c = rest_runs_as_machine c.world_runs_as_machine.ensures
