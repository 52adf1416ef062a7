use Rattle.sc_machine_laws.proofs.states.Moves.{moves_fit}
use Rattle.sc_machine_laws.proofs.states.value_laws.moves_fit.Goals as goal

pub returns : goal.returns
returns c = moves_fit
