use Rattle.sc_machine_laws.proofs.Tops.{called_back_waits}
use Rattle.sc_machine_laws.proofs.request_laws.called_back_waits.Goals as goal

pub returns : goal.returns
returns c = called_back_waits
