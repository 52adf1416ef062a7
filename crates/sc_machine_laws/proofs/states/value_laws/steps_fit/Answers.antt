use Rattle.sc_machine_laws.proofs.states.Moves.{steps_fit}
use Rattle.sc_machine_laws.proofs.states.value_laws.steps_fit.Goals as goal

pub returns : goal.returns
returns c = steps_fit
