use Rattle.sc_machine_laws.proofs.Turned.{count_grows}
use Rattle.sc_machine_laws.proofs.request_laws.count_grows.Goals as goal

pub returns : goal.returns
returns c = count_grows
