use Rattle.sc_machine_laws.proofs.states.LawProofs.{steps_are_lawful}
use Rattle.sc_machine_laws.proofs.states.steps.steps_are_lawful.Goals as goal

pub returns : goal.returns
returns c = steps_are_lawful
