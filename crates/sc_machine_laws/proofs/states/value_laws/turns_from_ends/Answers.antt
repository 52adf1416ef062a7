use Rattle.sc_machine_laws.proofs.states.Turns.{turns_from_ends}
use Rattle.sc_machine_laws.proofs.states.value_laws.turns_from_ends.Goals as goal

pub returns : goal.returns
returns c = turns_from_ends
