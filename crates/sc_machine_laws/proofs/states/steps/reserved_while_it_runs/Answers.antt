use Rattle.sc_machine_laws.proofs.states.LawProofs.{reserved_while_it_runs}
use Rattle.sc_machine_laws.proofs.states.steps.reserved_while_it_runs.Goals as goal

pub returns : goal.returns
returns c = reserved_while_it_runs
