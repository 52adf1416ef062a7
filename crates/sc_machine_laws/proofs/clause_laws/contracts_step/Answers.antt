use Rattle.sc_machine_laws.proofs.Contracts.{step_of_contract}
use Rattle.sc_machine_laws.proofs.clause_laws.contracts_step.Goals as goal

pub returns : goal.returns
returns c = step_of_contract
