use Rattle.sc_machine_laws.proofs.Tops.{idle_has_no_top}
use Rattle.sc_machine_laws.proofs.request_laws.idle_has_no_top.Goals as goal

pub returns : goal.returns
returns c = idle_has_no_top
