use Rattle.sc_machine_laws.proofs.Turned.{answers_come}
use Rattle.sc_machine_laws.proofs.request_laws.answers_come.Goals as goal

pub returns : goal.returns
returns c = answers_come
