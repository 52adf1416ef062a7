use Rattle.sc_refines_world.proofs.IdleWorlds.{idle_world_is_idle}
use Rattle.sc_refines_world.proofs.laws.idle_world_is_idle.Goals as goal

pub returns : goal.returns
returns c = idle_world_is_idle c.core_picks_where_the_machine_turns.ensures
