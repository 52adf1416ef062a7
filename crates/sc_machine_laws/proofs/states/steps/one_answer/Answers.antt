use Rattle.sc_machine_laws.proofs.states.LawProofs.{one_answer}
use Rattle.sc_machine_laws.proofs.states.steps.one_answer.Goals as goal

pub returns : goal.returns
returns c = one_answer
