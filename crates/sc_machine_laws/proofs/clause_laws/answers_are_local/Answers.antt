use Rattle.sc_machine_laws.proofs.Locally.{answers_are_local}
use Rattle.sc_machine_laws.proofs.clause_laws.answers_are_local.Goals as goal

pub returns : goal.returns
returns c = answers_are_local
