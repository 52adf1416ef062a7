use Rattle.sc_machine_laws.proofs.states.LawProofs.{kept_for_request}
use Rattle.sc_machine_laws.proofs.states.steps.kept_for_request.Goals as goal

pub returns : goal.returns
returns c = kept_for_request
