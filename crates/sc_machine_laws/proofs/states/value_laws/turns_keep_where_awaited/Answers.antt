use Rattle.sc_machine_laws.proofs.states.Turns.{turns_keep_where_awaited}
use Rattle.sc_machine_laws.proofs.states.value_laws.turns_keep_where_awaited.Goals as goal

pub returns : goal.returns
returns c = turns_keep_where_awaited
