use Rattle.sc_counts.proofs.ReadStates.{read_states_are_counted}
use Rattle.sc_counts.proofs.laws.read_states_are_counted.Goals as goal

pub returns : goal.returns
returns c = read_states_are_counted
