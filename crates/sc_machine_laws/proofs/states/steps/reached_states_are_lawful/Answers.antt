use Rattle.sc_machine_laws.proofs.states.LawProofs.{reached_are_lawful}
use Rattle.sc_machine_laws.proofs.states.steps.reached_states_are_lawful.Goals as goal

pub returns : goal.returns
returns c = reached_are_lawful
