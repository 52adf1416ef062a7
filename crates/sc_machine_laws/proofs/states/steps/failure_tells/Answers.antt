use Rattle.sc_machine_laws.proofs.states.LawProofs.{failure_tells}
use Rattle.sc_machine_laws.proofs.states.steps.failure_tells.Goals as goal

pub returns : goal.returns
returns c = failure_tells
