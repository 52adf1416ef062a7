use Rattle.sc_refines_world.proofs.Attempts.{attempts_run_as_machine}
use Rattle.sc_refines_world.proofs.laws.attempts_run_as_machine.Goals as goal

pub returns : goal.returns
returns c = attempts_run_as_machine c.world_runs_as_machine.ensures
