use Rattle.sc_machine_laws.proofs.states.LawProofs.{callback_first}
use Rattle.sc_machine_laws.proofs.states.steps.callback_first.Goals as goal

pub returns : goal.returns
returns c = callback_first
