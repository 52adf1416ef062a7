use Rattle.sc_machine_laws.proofs.states.Returned.{listed_returns}
use Rattle.sc_machine_laws.proofs.states.steps.listed_returns.Goals as goal

pub returns : goal.returns
returns c = listed_returns
