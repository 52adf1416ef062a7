use Rattle.sc_machine_laws.proofs.states.Reached.{from_turns}
use Rattle.sc_machine_laws.proofs.states.value_laws.values_fit_from_turns.Goals as goal

pub returns : goal.returns
returns c = from_turns
