use Rattle.sc_machine_laws.proofs.states.Matches.{requests_are_matched}
use Rattle.sc_machine_laws.proofs.states.value_laws.requests_are_matched.Goals as goal

pub returns : goal.returns
returns c = requests_are_matched
