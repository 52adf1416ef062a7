use Rattle.sc_machine_laws.proofs.Tops.{running_is_clear}
use Rattle.sc_machine_laws.proofs.request_laws.running_is_clear.Goals as goal

pub returns : goal.returns
returns c = running_is_clear
