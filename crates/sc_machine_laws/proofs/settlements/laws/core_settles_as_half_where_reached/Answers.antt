use Rattle.sc_machine_laws.proofs.settlements.ReachedStates.{reached_halves}
use Rattle.sc_machine_laws.proofs.settlements.laws.core_settles_as_half_where_reached.Goals as goal

pub returns : goal.returns
returns c = reached_halves
