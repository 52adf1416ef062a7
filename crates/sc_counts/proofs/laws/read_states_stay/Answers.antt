use Rattle.sc_counts.proofs.ReadStates.{read_states_stay}
use Rattle.sc_counts.proofs.laws.read_states_stay.Goals as goal

pub returns : goal.returns
returns c = read_states_stay
