use Rattle.sc_machine_laws.proofs.Extensions.{step_extends}
use Rattle.sc_machine_laws.proofs.clause_laws.steps_extend.Goals as goal

pub returns : goal.returns
returns c = step_extends
