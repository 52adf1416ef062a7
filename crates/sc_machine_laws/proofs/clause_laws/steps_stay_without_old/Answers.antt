use Rattle.sc_machine_laws.proofs.WithoutOld.{step_keeps_no_old}
use Rattle.sc_machine_laws.proofs.clause_laws.steps_stay_without_old.Goals as goal

pub returns : goal.returns
returns c = step_keeps_no_old
