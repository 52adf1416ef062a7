use Rattle.sc_machine_laws.proofs.Locally.{evaluations_are_local}
use Rattle.sc_machine_laws.proofs.clause_laws.evaluations_are_local.Goals as goal

pub returns : goal.returns
returns c = evaluations_are_local
