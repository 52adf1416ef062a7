use Rattle.sc_machine_laws.proofs.states.LawProofs.{chain_holds}
use Rattle.sc_machine_laws.proofs.states.steps.chain_holds.Goals as goal

pub returns : goal.returns
returns c = chain_holds
