use Rattle.sc_refines_world.proofs.Attempts.{turns_stand_exactly}
use Rattle.sc_refines_world.proofs.laws.turns_stand_exactly.Goals as goal

pub returns : goal.returns
returns c = turns_stand_exactly c.world_runs_as_machine.ensures
