use Rattle.sc_machine_laws.proofs.states.LawProofs.{held_while_it_runs}
use Rattle.sc_machine_laws.proofs.states.steps.held_while_it_runs.Goals as goal

pub returns : goal.returns
returns c = held_while_it_runs
