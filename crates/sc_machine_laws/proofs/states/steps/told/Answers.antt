use Rattle.sc_machine_laws.proofs.states.LawProofs.{told}
use Rattle.sc_machine_laws.proofs.states.steps.told.Goals as goal

pub returns : goal.returns
returns c = told
